-- The guess of the year, and the answer. Assumes nothing.
use Rattle.numbers.proofs.Prelude.{ℕ, suc, ◌+◌, ◌*◌, ◌/◌, ◌≤◌, ◌<◌, lt-ltb, le-ltb, ltb-true, ltb-false, ltb, Bool, true, false, ◌≡◌, refl, ap, ◌∙◌, add-one, arith}
use Rattle.calendar.{proofs.{Laws.{mean_low, mean_high}, Within.{day_from, day_to}}, specs.{Rules.{day_of, IsWhen}, declared.rule.When.{When}}}
use Rattle.tzrule.proofs.Latest.{summer_then, summer_if}
use Rattle.tzrule.specs.{Summer.{change_of, start_of, end_of, close_of, IsSummer, IsChange, IsRule, Says}, declared.rule.{Change.{Change}, Rule.{Rule}}}

-- a day of these years has a small number
pub day_few : (when : When) (year : ℕ) → year ≤ 11000 → IsWhen when → day_of when year ≤ 4200000
day_few when year h w = omega (arith, day_to when year w, mean_high (suc year))

-- a change by the mean year
change_high : (change : Change) (west year : ℕ) → IsChange change → west ≤ 1209600 → change_of change west year ≤ 31556952 * suc year + 2505600
unfolding change_of
change_high change west year c h = omega (arith, day_to change.when year c.when, mean_high (suc year), c.time)

change_low : (change : Change) (west year : ℕ) → IsChange change → 31556952 * year ≤ change_of change west year + 150984
unfolding change_of
change_low change west year c = omega (arith, day_from change.when year c.when, mean_low year)

module _ (rule : Rule) (good : IsRule rule) where
  -- two years before the guess have begun, and those before them
  pub begun : (year instant : ℕ) → year + 2 ≤ instant / 31556952 → start_of rule year ≤ instant
  unfolding start_of
  begun year instant h = omega (arith, change_high rule.start rule.standard.west year good.start good.standard)

  -- years go on beginning
  pub start_low : (year : ℕ) → 31556952 * year ≤ start_of rule year + 150984
  unfolding start_of
  start_low year = change_low rule.start rule.standard.west year good.start

  -- no year begins that is more than one after the guess
  pub not_far : (year instant : ℕ) → start_of rule (year + 1) ≤ instant → year ≤ instant / 31556952
  unfolding start_of
  not_far year instant h = omega (arith, change_low rule.start rule.standard.west (year + 1) good.start)

  -- the answer
  pub answered : (year instant : ℕ) {close : ℕ} → start_of rule year ≤ instant → instant < start_of rule (year + 1) → close ≡ close_of rule year → Says (IsSummer rule instant) (ltb instant close)
  unfolding Says
  answered year instant from to e = rw e (says (ltb instant (close_of rule year)) refl) where
    before : instant < start_of rule (suc year)
    before = rw add-one at to

    says : (b : Bool) → ltb instant (close_of rule year) ≡ b → Says (IsSummer rule instant) b
    says true t = summer_if rule good year instant from before (ltb-true instant (close_of rule year) t)
    says false t = λ s. omega (arith, ltb-false instant (close_of rule year) t, summer_then rule good year instant from before s)

-- the two ways to the close of a summer
module _ (rule : Rule) (year : ℕ) {start end : ℕ} (p : end ≡ end_of rule year) (q : start ≡ start_of rule year) where
  pub close_next : {later : ℕ} → end < start → later ≡ end_of rule (year + 1) → later ≡ close_of rule year
  unfolding close_of
  close_next h e = e ∙ ap (end_of rule) (add-one year) ∙ simp (lt-ltb (end_of rule year) (start_of rule year) (rw (p, q) at h))

  pub close_same : start ≤ end → end ≡ close_of rule year
  unfolding close_of
  close_same h = p ∙ simp (le-ltb (end_of rule year) (start_of rule year) (rw (p, q) at h))
