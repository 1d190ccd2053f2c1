-- Days of one weekday: each a week after the one before. Assumes nothing.
use Rattle.numbers.{proofs.Prelude.{ℕ, zero, suc, ◌+◌, ◌-◌, ◌/◌, ◌%◌, ◌≤◌, ◌<◌, eqb-true, eqb-false, eqb, Bool, true, false, ◌≡◌, refl, sym, ◌∙◌, arith}, specs.Answer.{if◌then◌else◌}}
use Rattle.calendar.proofs.Laws.{weekday_closed}
use Rattle.calendar.specs.{Calendar.{weekday_of}, Rules.{count_on}}

pub weekday_small : (day : ℕ) → weekday_of day ≤ 6
weekday_small day = omega (arith, weekday_closed day)

-- the next day that has the same is a week on, or more
pub week_apart : (a b : ℕ) → weekday_of a ≡ weekday_of b → a < b → a + 7 ≤ b
week_apart a b e h = omega (arith, weekday_closed a, weekday_closed b)

-- the count in closed form, where the first such day is so many days on
module _ (weekday first on : ℕ) (week : on < 7) (there : weekday_of (first + on) ≡ weekday) where
  there_closed : (first + on + 1) % 7 ≡ weekday
  there_closed = sym (weekday_closed (first + on)) ∙ there

  counted_day : (n : ℕ) → (first + n + 1) % 7 ≡ weekday → (suc n + 6 - on) / 7 ≡ (n + 6 - on) / 7 + 1
  counted_day n e = omega (arith, there_closed)

  other_day : (n : ℕ) → ((first + n + 1) % 7 ≡ weekday → ⊥) → (suc n + 6 - on) / 7 ≡ (n + 6 - on) / 7 + 0
  other_day n e = omega (arith, there_closed)

  count_next : (n : ℕ) (t : Bool) → eqb (weekday_of (first + n)) weekday ≡ t → (suc n + 6 - on) / 7 ≡ (n + 6 - on) / 7 + (if t then 1 else 0)
  count_next n true e = counted_day n (sym (weekday_closed (first + n)) ∙ eqb-true _ _ e)
  count_next n false e = other_day n (λ h. eqb-false _ _ e (weekday_closed (first + n) ∙ h))

  pub count_closed : (n : ℕ) → count_on weekday first n ≡ (n + 6 - on) / 7
  unfolding count_on
  count_closed zero = omega arith
  count_closed (suc n) = rw (count_closed n) (sym (count_next n _ refl))
