-- `builder::texts::are_texts` meets its contract.
use Rattle.numbers.proofs.Prelude.{arith}
use Rattle.builder.proofs.{Readables.{test_starts, test_missing, test_bad, test_good, test_ends}}
use Rattle.builder.proofs.texts.are_texts.Goals as goal

pub loop-length-init : goal.loop-length-init
loop-length-init c =
    test_starts _ _

pub returns-then-texts-at : goal.returns-then-texts-at
returns-then-texts-at c =
    test_missing c.args.lengths.now c.args.texts.now c.loop-length.at c.loop-length.length-index c.loop-length.invariant c.loop-length-test.true c.if-texts-at.true

pub returns-then-not-is_text : goal.returns-then-not-is_text
returns-then-not-is_text c =
    test_bad c.args.lengths.now c.args.texts.now c.loop-length.at c.loop-length.length-index c.loop-length.invariant c.loop-length-test.true _ c.is_text.ensures c.if-not-is_text.true

pub loop-length-preserved : goal.loop-length-preserved
loop-length-preserved c =
    test_good c.args.lengths.now c.args.texts.now c.loop-length.at c.loop-length.length-index c.loop-length.invariant c.loop-length-test.true _ c.is_text.ensures c.if-not-is_text.false
    c.if-texts-at.false

pub returns : goal.returns
returns c =
    test_ends _ _ _ _ c.loop-length.invariant c.loop-length-test.false
