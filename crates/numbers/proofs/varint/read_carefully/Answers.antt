-- `numbers::varint::read_carefully` meets its contract.
use Rattle.numbers.proofs.{Prelude.{rules, ap, ◌∙◌}, varint.{Strict.{by_strict, by_plain}}}
use Rattle.numbers.specs.Varint.{whole_of}
use Rattle.numbers.proofs.varint.read_carefully.Goals as goal

pub returns-then-strict : goal.returns-then-strict
returns-then-strict c =
    by_strict _ _ c.if-strict.true (c.strictly.ensures ∙ ap (whole_of (c.args.file.now)) c.read_long-answer.ensures)

pub returns : goal.returns
returns c =
    by_plain _ _ c.if-strict.false c.read_long-answer.ensures
