-- The summer of the year that began last decides. Assumes nothing.
use Rattle.numbers.{proofs.Prelude.{ℕ, suc, ◌≤◌, ◌<◌, ltb, Bool, true, false, arith}, specs.Answer.{if◌then◌else◌}}
use Rattle.calendar.proofs.{Rising.{rises}, Within.{day_up}}
use Rattle.tzrule.specs.{Summer.{change_of, start_of, end_of, close_of, IsSummer, IsChange, IsRule}, declared.rule.{Change.{Change}, Rule.{Rule}}}

change_up : (change : Change) (west year : ℕ) → IsChange change → change_of change west year ≤ change_of change west (suc year)
unfolding change_of
change_up change west year c = omega (arith, day_up change.when year c.when)

-- whichever ends are taken, they rise
close_cases : (a b : Bool) (x y z : ℕ) → x ≤ y → y ≤ z → (if a then y else x) ≤ (if b then z else y)
close_cases true true x y z h k = k
close_cases true false x y z h k = omega arith
close_cases false true x y z h k = omega arith
close_cases false false x y z h k = h

module _ (rule : Rule) (good : IsRule rule) where
  pub start_up : (year : ℕ) → start_of rule year ≤ start_of rule (suc year)
  unfolding start_of
  start_up year = change_up rule.start rule.standard.west year good.start

  pub end_up : (year : ℕ) → end_of rule year ≤ end_of rule (suc year)
  unfolding end_of
  end_up year = change_up rule.end rule.daylight.west year good.end

  pub close_up : (year : ℕ) → close_of rule year ≤ close_of rule (suc year)
  unfolding close_of
  close_up year = close_cases (ltb (end_of rule year) (start_of rule year)) (ltb (end_of rule (suc year)) (start_of rule (suc year))) _ _ _ (end_up year) (end_up (suc year))

  -- of an instant between two years' starts
  module _ (year instant : ℕ) (from : start_of rule year ≤ instant) (next : instant < start_of rule (suc year)) where
    -- no later year has begun, and no earlier one closes later
    pub summer_then : IsSummer rule instant → instant < close_of rule year
    summer_then s = let begun : suc year ≤ s.year → ⊥ = λ h. omega (arith, rises (start_of rule) start_up (suc year) s.year h, s.inside.from) in
        omega (arith, rises (close_of rule) close_up s.year year (omega arith), s.inside.to)

    pub summer_if : instant < close_of rule year → IsSummer rule instant
    summer_if h = record { year = year; inside = record { from = from; to = h } }

    pub summer_latest : (IsSummer rule instant → instant < close_of rule year) × (instant < close_of rule year → IsSummer rule instant)
    summer_latest = (summer_then, summer_if)
