-- `writer::checks::all_near` meets its contract.
use Rattle.numbers.proofs.Prelude.{drop, ◌≡◌}
use Rattle.writer.specs.Writer.{every, near}
use Rattle.writer.proofs.checks.all_near.Given as goal

abbrev pub invariant-loop-z : goal.invariant-loop-z
invariant-loop-z l = every near (drop l.z-index l.list) ≡ every near l.list
