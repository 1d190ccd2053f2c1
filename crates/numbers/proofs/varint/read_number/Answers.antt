-- `numbers::varint::read_number` meets its contract: a number of up to three bytes at once, and any other by `read_carefully`.
use Rattle.numbers.proofs.{Prelude.{rules, ◌∙◌}, varint.{Reading.{one_byte, two_bytes, three_bytes}, Strict.{none_read, read_both}}}
use Rattle.numbers.proofs.varint.read_number.Goals as goal

pub returns-then-file-place : goal.returns-then-file-place
returns-then-file-place c =
    none_read _ _ _ c.if-file-place.true

pub returns-then-low-lt128 : goal.returns-then-low-lt128
returns-then-low-lt128 c =
    read_both _ _ _ (one_byte _ _ c.from-low.ensures (search rules) c.if-low-lt128.true) (search rules)

pub returns-then-middle-lt128 : goal.returns-then-middle-lt128
returns-then-middle-lt128 c =
    read_both _ _ _ (two_bytes _ _ c.from-low.ensures c.if-low-lt128.false c.from-middle.ensures (search rules) c.if-middle-lt128.true) (search rules)

pub returns-then-high-lt128 : goal.returns-then-high-lt128
returns-then-high-lt128 c =
    read_both _ _ _ (three_bytes _ _ c.from-low.ensures c.if-low-lt128.false c.from-middle.ensures c.if-middle-lt128.false c.from-high.ensures (search rules) c.if-high-lt128.true) (search rules)
