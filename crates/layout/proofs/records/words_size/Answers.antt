-- `layout::records::words_size` meets its contract, by the words still to be summed.
use Rattle.layout.proofs.records.{Summing.{starts, goes_on, ends}}
use Rattle.layout.proofs.records.words_size.Goals as goal

pub loop-word-init : goal.loop-word-init
loop-word-init c =
    starts _ _

pub loop-word-preserved : goal.loop-word-preserved
loop-word-preserved c =
    goes_on _ _ _ _ _ c.loop-word.invariant c.loop-word-test.true c.word_size-sum.ensures

pub returns : goal.returns
returns c =
    ends _ _ _ _ c.loop-word.invariant c.loop-word-test.false
