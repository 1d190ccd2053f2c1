-- `batch::many::answer_one` meets its contract: what is answered in the front of both lists is answered alike in the whole.
use Rattle.numbers.proofs.Prelude.{sym, ◌∙◌, arith}
use Rattle.batch.proofs.{Window.{windowed}}
use Rattle.batch.proofs.many.answer_one.Goals as goal

pub returns : goal.returns
returns c =
    windowed _ _ _ _ _ c.args.hits.now c.args.text.now c.requires.0 c.requires.1 c.min-slots.result c.min-bytes.result (omega (arith, c.min-slots.ensures))
    (omega (arith, c.min-bytes.ensures)) c.lookup_beside-front.result c.lookup_beside-front.new.hits c.lookup_beside-front.new.text c.lookup_beside-front.ensures (sym
    c.is_err.ensures.value ∙ c.if-is_err.false) c.hits-1.given.0 c.text-1.given.0
