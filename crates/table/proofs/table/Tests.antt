-- Two tests, by how far they hold. Assumes nothing.
use Rattle.numbers.proofs.Prelude.{Bool, true, false, ◌&&◌, ◌≡◌}

pub not_first : (a b : Bool) → a ≡ false → false ≡ (a && b)
not_first a b e = rw e

pub the_second : (a b r : Bool) → a ≡ true → r ≡ b → r ≡ (a && b)
the_second a b r e g = rw e g
