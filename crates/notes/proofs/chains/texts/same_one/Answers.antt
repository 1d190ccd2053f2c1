-- `notes::chains::texts::same_one` meets its contract.
use Rattle.numbers.proofs.Prelude.{◌+◌, arith}
use Rattle.builder.specs.Grouping.Items.{text_at}
use Rattle.notes.proofs.chains.texts.same_one.Goals as goal

pub returns-then-end-begin : goal.returns-then-end-begin
returns-then-end-begin c one other =
    absurd (omega (arith, c.if-end-begin.true, one.rise c.args.a (omega arith)))

pub returns-then-texts-end : goal.returns-then-texts-end
returns-then-texts-end c one other =
    absurd (omega (arith, c.if-texts-end.true, one.most c.args.a (omega arith)))

pub returns-then-to-from : goal.returns-then-to-from
returns-then-to-from c one other =
    absurd (omega (arith, c.if-to-from.true, other.rise c.args.b (omega arith)))

pub returns-then-texts-to : goal.returns-then-texts-to
returns-then-texts-to c one other =
    absurd (omega (arith, c.if-texts-to.true, other.most c.args.b (omega arith)))

pub returns : goal.returns
unfolding text_at
returns c one other =
    c.same_text.ensures
