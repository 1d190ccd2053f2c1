-- What `?` does on a step's result, and a number that std holds against the range of an i32. Assumes nothing.
use Rattle.std.{proofs.lemmas.Result.{err_from_is_err_and}, specs.{Option.{ok_or}, Prelude.{Option, Some, None, SomeIff, FitsSigned, Result, Ok, Err, if◌then◌else◌}, Result.{IsErrAnd}}}
use Rattle.numbers.proofs.Prelude.{ℕ, ℤ, ◌^◌, ◌<◌, ltb, ltb-true, lt-ltb, mag, Bool, true, false, ◌≡◌, refl, sym, ap, ◌∙◌, w32, SFits, arith}
use Rattle.numbers.specs.Answer.{in_range}
use Rattle.verdict.specs.{Step.{Step, found, refused, ◌>>=◌, checked, told}, Verdict.{Judgement, then_on}, declared.step.{Halt.{Halt, TheVariants.{Meets, Over}}, Tally.{Tally}}}

module _ {A B : Type 0} {step : Step A} (a : Result A Halt) (e : told a ≡ step) where
  -- it goes on with what was found
  pub goes_on : {x : A} → a ≡ Ok x → (next : A → Step B) → next x ≡ (step >>= next)
  goes_on n next = rw n at (ap (λ (y : Step A). y >>= next) e)

  -- it stops as the step does
  pub stops : {why : Halt} → a ≡ Err why → (next : A → Step B) → told {A = B} (Err why) ≡ (step >>= next)
  stops {why} n next = go why ∙ ap (λ (y : Step A). y >>= next) (sym (ap told n) ∙ e) where
    go : (why : Halt) → told {A = B} (Err why) ≡ (told {A = A} (Err why) >>= next)
    go (Meets verdict) = refl
    go Over = refl

-- the exit of a `?`, by what it says of the error that it returns
pub exits : {A B : Type 0} {step : Step A} {a : Result A Halt} {why : Halt} (r : Result B Halt) → a ≡ Err why → told a ≡ step → IsErrAnd r (λ e. e ≡ why) → (next : A → Step B)
    → told r ≡ (step >>= next)
exits {a = a} r is e h next = let p = err_from_is_err_and r h in rw (p.1, p.2) (stops a e is next)

-- a step that ends a walk says nothing of what would follow
pub ends_alike : (halt : Halt) (asked : Bool) (least : ℕ) (f g : Tally → Judgement) → then_on asked least (told {A = Tally} (Err halt)) f ≡ then_on asked least (told {A = Tally} (Err halt)) g
unfolding then_on
ends_alike (Meets verdict) asked least f g = refl
ends_alike Over asked least f g = refl

-- a sum or a difference that std tests for the range of an i32
module _ (z : ℤ) (o : Option ℤ) (h : SomeIff o (FitsSigned w32 z) z) {r : Result ℤ Halt} (e : r ≡ ok_or o Over) where
  pub tested : told r ≡ checked 31 z
  unfolding checked
  tested = rw e (go o h) where
    none : (t : Bool) → ltb (mag z) (2 ^ 31) ≡ t → (FitsSigned w32 z → ⊥) → refused 13 ≡ (if t then found z else refused 13)
    none true k h = absurd (h (record { sfits = ltb-true (mag z) (2 ^ 31) k }))
    none false k h = refl

    go : (o : Option ℤ) → SomeIff o (FitsSigned w32 z) z → told (ok_or o Over) ≡ (if in_range 31 z then found z else refused 13)
    go (Some x) h = let fits : mag z < 2 ^ 31 = h.0.sfits in rw (h.1, lt-ltb (mag z) (2 ^ 31) fits)
    go None h = none (ltb (mag z) (2 ^ 31)) refl h

  pub tested_fits : {x : ℤ} → r ≡ Ok x → SFits w32 x
  tested_fits {x} is = go o h (sym e ∙ is) where
    go : (o : Option ℤ) → SomeIff o (FitsSigned w32 z) z → ok_or o Over ≡ Ok x → SFits w32 x
    go (Some y) h k = let same : y ≡ x = cc in rw (← same, h.1) h.0
    go None h k = let w : ◌≡◌ {A = ℕ} 0 1 = cc in absurd (omega arith)
