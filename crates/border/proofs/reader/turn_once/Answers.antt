-- `border::reader::turn_once` meets its contract.
use Rattle.numbers.proofs.Prelude.{sym, ◌∙◌}
use Rattle.border.proofs.reader.{Turns.{closed_ends}}
use Rattle.border.specs.Reader.{turn_of}
use Rattle.border.proofs.reader.turn_once.Goals as goal

pub returns-then-reader : goal.returns-then-reader
returns-then-reader c =
    sym (closed_ends c.args.encoding.strict c.args.file.now c.args.encoding.version c.args.encoding.«data» c.args.reader c.if-reader.true)

pub returns-in-Packed : goal.returns-in-Packed
unfolding turn_of
returns-in-Packed c =
    c.packed_turn.ensures ∙ rw (c.in-Packed.is, c.if-reader.false)

pub returns-in-Plain : goal.returns-in-Plain
unfolding turn_of
returns-in-Plain c =
    c.plain_turn.ensures ∙ rw (c.in-Plain.is, c.if-reader.false)
