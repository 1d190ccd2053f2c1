-- A result that is held against the range of an i32: inside it reading goes on, outside it is refusal 13. Assumes nothing.
use Rattle.std.specs.Prelude.{Option, Some, None, SomeIff, FitsSigned, Result, Ok, if◌then◌else◌}
use Rattle.std.specs.Option.{ok_or}
use Rattle.numbers.specs.{Answer.{found, in_range}, Varint.{told}, declared.varint.Stop.{Stop, TheVariants.{OutOfRange}}}
use Rattle.numbers.proofs.Prelude.{◌^◌, ◌<◌, ltb, ltb-true, lt-ltb, refl, ℕ, arith, ℤ, pos, ◌-ℤ◌, neg_ℤ, mag, Bool, true, false, ◌≡◌, sym, ◌∙◌, w32, w64, SFits, of_z, to_z}
use Rattle.numbers.{proofs.write.Gaps.{widened}, specs.Answer.{Answer, refused, ◌>>=◌, checked}}
use lib.IntN.{+ℤ_idl}
use mir.Facts.{to_z-of_z}
use Rattle.border.proofs.place.Whole.{negation_fits}

module _ {A : Type 0} (z : ℤ) {t : Bool} (e : t ≡ ltb (mag z) (2 ^ 31)) (next : ℤ → Answer A) where
  pub within : t ≡ true → next z ≡ (checked 31 z >>= next)
  unfolding checked
  within h = rw (sym e ∙ h)

  pub beyond : t ≡ false → refused 13 ≡ (checked 31 z >>= next)
  unfolding checked
  beyond h = rw (sym e ∙ h)

-- a negation, in an i64
pub exact_negation : {a : ℤ} → SFits w32 a → to_z w64 (of_z w64 (pos 0 -ℤ to_z w64 (of_z w64 (to_z w32 (of_z w32 a))))) ≡ neg_ℤ a
exact_negation {a} f = rw (widened f, to_z-of_z {w = w64} (negation_fits f), +ℤ_idl)

-- a sum or a negation that std tests for the range of an i32
module _ (z : ℤ) (o : Option ℤ) (h : SomeIff o (FitsSigned w32 z) z) {r : Result ℤ Stop} (e : r ≡ ok_or o OutOfRange) where
  pub tested : told r ≡ checked 31 z
  unfolding checked
  tested = rw e (go o h) where
    none : (t : Bool) → ltb (mag z) (2 ^ 31) ≡ t → (FitsSigned w32 z → ⊥) → refused 13 ≡ (if t then found z else refused 13)
    none true k h = absurd (h (record { sfits = ltb-true (mag z) (2 ^ 31) k }))
    none false k h = refl

    go : (o : Option ℤ) → SomeIff o (FitsSigned w32 z) z → told (ok_or o OutOfRange) ≡ (if in_range 31 z then found z else refused 13)
    go (Some x) h = let fits : mag z < 2 ^ 31 = h.0.sfits in rw (h.1, lt-ltb (mag z) (2 ^ 31) fits)
    go None h = none (ltb (mag z) (2 ^ 31)) refl h

  pub tested_fits : {x : ℤ} → r ≡ Ok x → SFits w32 x
  tested_fits {x} is = go o h (sym e ∙ is) where
    go : (o : Option ℤ) → SomeIff o (FitsSigned w32 z) z → ok_or o OutOfRange ≡ Ok x → SFits w32 x
    go (Some y) h k = let same : y ≡ x = cc in rw (← same, h.1) h.0
    go None h k = let w : ◌≡◌ {A = ℕ} 0 1 = cc in absurd (omega arith)
