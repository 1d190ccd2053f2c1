-- `notes::noted::note::gather` meets its contract.
use Rattle.numbers.proofs.Prelude.{arith}
use Rattle.notes.proofs.noted.{Marking.{gather_starts, gather_goes, gather_ends}}
use Rattle.notes.proofs.noted.note.gather.Goals as goal

pub loop-i-init : goal.loop-i-init
loop-i-init c =
    gather_starts _ _ _

pub bounds-places-i : goal.bounds-places-i
bounds-places-i c =
    omega (arith, c.loop-i-test.true, c.requires.0)

pub bounds-begins-i : goal.bounds-begins-i
bounds-begins-i c =
    omega (arith, c.loop-i-test.true, c.requires.1, c.loop-i.invariant.left.size, c.begins-1.given)

pub loop-i-preserved : goal.loop-i-preserved
loop-i-preserved c =
    gather_goes _ _ _ _ _ c.loop-i.invariant c.loop-i-test.true

pub returns : goal.returns
returns c =
    gather_ends _ _ _ _ _ c.loop-i.invariant c.loop-i-test.false _ c.zero_words.ensures c.requires.1
