-- `tzrule::summer::summer_at` meets its contract.
use Rattle.numbers.proofs.Prelude.{◌+◌, ◌-◌, ◌/◌, ◌≤◌}
use Rattle.tzrule.specs.Summer.{start_of}
use Rattle.tzrule.proofs.summer.summer_at.Given as goal

abbrev pub invariant-loop-year : goal.invariant-loop-year
invariant-loop-year l = (start_of l.rule l.year ≤ l.instant) × (l.year ≤ l.instant / 31556952 + 1)

abbrev pub decreases-loop-year : goal.decreases-loop-year
decreases-loop-year l = l.instant / 31556952 + 2 - l.year
