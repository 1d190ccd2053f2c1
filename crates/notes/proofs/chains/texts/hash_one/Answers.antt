-- `notes::chains::texts::hash_one` meets its contract.
use Rattle.numbers.proofs.Prelude.{◌+◌, arith}
use Rattle.builder.specs.Grouping.Items.{text_at}
use Rattle.notes.proofs.chains.texts.hash_one.Goals as goal

pub returns-then-end-begin : goal.returns-then-end-begin
returns-then-end-begin c inside =
    absurd (omega (arith, c.if-end-begin.true, inside.rise c.args.text (omega arith)))

pub returns-then-texts-end : goal.returns-then-texts-end
returns-then-texts-end c inside =
    absurd (omega (arith, c.if-texts-end.true, inside.most c.args.text (omega arith)))

pub returns : goal.returns
unfolding text_at
returns c inside =
    c.hash_text.ensures
