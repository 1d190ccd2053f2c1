-- What tests say that are joined or cannot be. Assumes nothing.
use Rattle.numbers.proofs.Prelude.{T, Bool, true, false, ◌&&◌, ◌||◌, ◌≡◌, refl, sym, subst}

-- a test that fails does not hold
pub differ : {A : Type 0} → false ≡ true → A
differ e = absurd (subst T (sym e) tt)

-- where both hold, each does
pub both : (a b : Bool) → (a && b) ≡ true → (a ≡ true) × (b ≡ true)
both true b e = (refl, e)
both false b e = differ e

-- where not one of two holds, neither does
pub neither : (a b : Bool) → (a || b) ≡ false → (a ≡ false) × (b ≡ false)
neither true b e = differ (sym e)
neither false b e = (refl, e)

-- a test that cannot hold fails
pub fails : (t : Bool) → (t ≡ true → ⊥) → t ≡ false
fails true n = absurd (n refl)
fails false n = refl
