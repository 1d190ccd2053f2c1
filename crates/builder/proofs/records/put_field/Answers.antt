-- `builder::records::put_field` meets its contract.
use Rattle.builder.proofs.{Inlines.{field_inline, field_word}}
use Rattle.builder.proofs.records.put_field.Goals as goal

pub returns-then-word-eq0 : goal.returns-then-word-eq0
returns-then-word-eq0 c =
    field_inline c.args.records c.args.word c.args.text.now c.if-word-eq0.true c.put_text.ensures

pub returns : goal.returns
returns c =
    field_word c.args.records c.args.word c.args.text.now c.if-word-eq0.false c.put_varint.ensures
