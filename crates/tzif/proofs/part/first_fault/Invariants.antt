-- `tzif::part::first_fault` in its loop: all checks below the index are passed.
use Rattle.std.proofs.Common.{ℕ, ◌≡◌, ◌<◌}
use Rattle.tzif.proofs.Laws.{Passed}
use Rattle.tzif.specs.Reply.{Reply}
use Rattle.tzif.proofs.part.first_fault.Given as goal

abbrev pub invariant-loop-i : goal.invariant-loop-i
invariant-loop-i g l =
    (rule : ℕ → Reply (Unit {0})) → ((i : ℕ) → i < l.count → (r : _) → goal.F-post g l.check i r → r ≡ rule i) → Passed rule l.count l.i
