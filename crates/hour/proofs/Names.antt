-- An abbreviation as it is printed. Assumes nothing.
use Rattle.numbers.proofs.Prelude.{ℕ, min, leb-true, leb-false, leb, length, take, take_all, Bool, true, false, List, ◌≡◌, refl, sym, ap, ◌∙◌, arith}

-- so many, or all
pub take_least : (most : ℕ) (text : List ℕ) → take (min most (length text)) text ≡ take most text
take_least most text = go (leb most (length text)) refl where
  go : (t : Bool) → leb most (length text) ≡ t → take (min most (length text)) text ≡ take most text
  go true e = let m : min most (length text) ≡ most = omega (arith, leb-true most (length text) e) in ap (λ (k : ℕ). take k text) m
  go false e = take_all (min most (length text)) text (omega (arith, leb-false most (length text) e)) ∙ sym (take_all most text (omega (arith, leb-false most (length text) e)))
