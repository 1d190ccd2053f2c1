-- `numbers::varint::number_end` meets its contract: where a number of up to three bytes ends, and any other by `read_long`.
use Rattle.numbers.proofs.{Prelude.{rules, refl, sym, ap, ◌∙◌}, varint.{Reading.{none_there, one_byte, two_bytes, three_bytes}}}
use Rattle.numbers.specs.Varint.{end_of}
use Rattle.numbers.proofs.varint.number_end.Goals as goal

pub returns-then-file-place : goal.returns-then-file-place
returns-then-file-place c =
    ap end_of (sym (none_there _ _ c.if-file-place.true))

pub returns-then-file-place-lt128 : goal.returns-then-file-place-lt128
returns-then-file-place-lt128 c =
    ap end_of (one_byte _ _ refl (search rules) c.if-file-place-lt128.true)

pub returns-then-file-place-lt128-2 : goal.returns-then-file-place-lt128-2
returns-then-file-place-lt128-2 c =
    ap end_of (two_bytes _ _ refl c.if-file-place-lt128.false refl (search rules) c.if-file-place-lt128-2.true)

pub returns-then-file-place-lt128-3 : goal.returns-then-file-place-lt128-3
returns-then-file-place-lt128-3 c =
    ap end_of (three_bytes _ _ refl c.if-file-place-lt128.false refl c.if-file-place-lt128-2.false refl (search rules) c.if-file-place-lt128-3.true)

pub returns : goal.returns
returns c =
    c.end_of.ensures ∙ ap end_of c.read_long.ensures
