-- `header::header::skip_texts` meets its contract.
use Rattle.numbers.proofs.{Prelude.{◌∙◌, arith}, Replies.{passed_on}}
use Rattle.header.proofs.header.{Texts.{starts, goes, stops, ends}}
use Rattle.header.proofs.header.skip_texts.Goals as goal

pub returns-in_err-text : goal.returns-in_err-text
returns-in_err-text c =
    passed_on _ c.from_residual.ensures.1 ∙ stops c.loop-index.invariant (omega (arith, c.loop-index-test.true)) _ (rw c.in_err-text.was at c.read_header_text.ensures)

pub loop-index-preserved : goal.loop-index-preserved
loop-index-preserved c =
    goes c.loop-index.invariant (omega (arith, c.loop-index-test.true)) _ (rw c.in_ok-text.was at c.read_header_text.ensures)

pub returns : goal.returns
returns c =
    ends c.loop-index.invariant (omega (arith, c.loop-index-test.false))
