-- `notes::noted::note::mark_more` meets its contract.
use Rattle.numbers.proofs.Prelude.{arith}
use Rattle.notes.proofs.noted.{Marking.{mark_starts, mark_sum, mark_goes, mark_ends}}
use Rattle.notes.proofs.noted.note.mark_more.Goals as goal

pub loop-i-init : goal.loop-i-init
loop-i-init c =
    mark_starts _ _ _ _ c.requires.1

pub overflow_add-end : goal.overflow_add-end
overflow_add-end c =
    omega (arith, mark_sum _ _ _ _ _ _ _ c.loop-i.invariant c.loop-i-test.true)

pub bounds-marks-at : goal.bounds-marks-at
bounds-marks-at c =
    omega (arith, c.loop-i-test.true, c.requires.0, c.loop-i.invariant.size)

pub loop-i-preserved : goal.loop-i-preserved
loop-i-preserved c =
    mark_goes _ _ _ _ _ _ _ c.loop-i.invariant c.loop-i-test.true

pub shape_of-marks : goal.shape_of-marks
shape_of-marks c =
    c.loop-i.invariant.size

pub returns : goal.returns
returns c =
    mark_ends _ _ _ _ _ _ _ c.loop-i.invariant c.loop-i-test.false
