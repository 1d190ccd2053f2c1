-- `request::sentence::field_start` meets its contract.
use Rattle.numbers.proofs.Prelude.{◌-◌, ◌≤◌, length, drop, ◌≡◌}
use Rattle.request.specs.Text.{behind}
use Rattle.request.proofs.sentence.field_start.Given as goal

abbrev pub invariant-loop : goal.invariant-loop
invariant-loop l = (behind (l.n - l.counter) (drop l.at l.body) ≡ behind l.n l.body) × (l.at ≤ length l.body)
