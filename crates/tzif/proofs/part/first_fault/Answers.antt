-- `tzif::part::first_fault` meets its contract.
use Rattle.numbers.proofs.Prelude.{◌∙◌}
use Rattle.tzif.proofs.{Laws.{starts, faults, goes_on, passed_on}}
use Rattle.tzif.proofs.part.first_fault.Goals as goal

pub loop-i-init : goal.loop-i-init
loop-i-init g c = λ rule is. starts _ _

pub returns-in_err-check : goal.returns-in_err-check
returns-in_err-check g c =
    λ rule is. passed_on _ c.from_residual.ensures.1 ∙ faults (c.loop-i.invariant rule is) c.loop-i-test.true (is _ c.loop-i-test.true _ c.in_err-check.ensures)

pub loop-i-preserved : goal.loop-i-preserved
loop-i-preserved g c =
    λ rule is. goes_on (c.loop-i.invariant rule is) c.loop-i-test.true (is _ c.loop-i-test.true _ c.in_ok-check.ensures)
