-- Coordinates and windings are i32: equal and between, read back from their bits. Assumes nothing.
use Rattle.numbers.proofs.Prelude.{eq-eqb, ne_eqb, le-leb, leb-true, eqb-true, eqb, leb, ℤ, pos, negsuc, Bool, true, false, ◌≡◌, sym, ap, ◌∙◌, w32, SFits, of_z, to_z, le_refl, arith}
use Rattle.numbers.proofs.Tests.{differ, both}
use Rattle.std.proofs.Common.{to_z-of_z}
use Rattle.verdict.specs.Edge.{same_z, between}
use Rattle.border.proofs.Signs.{by_test}

-- ---- equality

pub same_self : (a : ℤ) → same_z a a ≡ true
same_self (pos n) = rw (le-leb n n (le_refl n))
same_self (negsuc n) = rw (le-leb n n (le_refl n))

pub same_eq : (a b : ℤ) → same_z a b ≡ true → a ≡ b
same_eq (pos a) (pos b) e = let p = both (leb a b) (leb b a) e in ap pos (omega (arith, leb-true a b p.0, leb-true b a p.1))
same_eq (pos a) (negsuc b) e = differ e
same_eq (negsuc a) (pos b) e = differ e
same_eq (negsuc a) (negsuc b) e = let p = both (leb b a) (leb a b) e in ap negsuc (omega (arith, leb-true b a p.0, leb-true a b p.1))

-- ---- an i32 that is passed to a call or tested is read back from its bits

module _ {a b : ℤ} (f : SFits w32 a) (g : SFits w32 b) where
  -- equality is tested on the bits
  pub same_bits : eqb (of_z w32 a) (of_z w32 b) ≡ same_z a b
  same_bits =
      by_test (eqb (of_z w32 a) (of_z w32 b)) (same_z a b) (λ e. ap (same_z a) (sym (to_z-of_z g) ∙ ap (to_z w32) (sym (eqb-true (of_z w32 a) (of_z w32 b) e)) ∙ to_z-of_z f)
      ∙ same_self a) (λ e. eq-eqb _ _ (ap (of_z w32) (same_eq a b e)))

  pub same_read : of_z w32 a ≡ of_z w32 b → same_z a b ≡ true
  same_read e = sym same_bits ∙ eq-eqb _ _ e

  pub differ_read : (of_z w32 a ≡ of_z w32 b → ⊥) → same_z a b ≡ false
  differ_read e = sym same_bits ∙ ne_eqb _ _ e

pub between_read : {a b c : ℤ} {t : Bool} → SFits w32 a → SFits w32 b → SFits w32 c → t ≡ between (to_z w32 (of_z w32 a)) (to_z w32 (of_z w32 b)) (to_z w32 (of_z w32 c)) → t ≡ between a b c
between_read f g h e = rw (to_z-of_z {w = w32} f, to_z-of_z {w = w32} g, to_z-of_z {w = w32} h) at e
