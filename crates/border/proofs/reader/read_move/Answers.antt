-- `border::reader::read_move` meets its contract.
use Rattle.numbers.{proofs.{Laws.{exits}, Prelude.{sym, ◌∙◌}}, specs.Varint.{reading_of}}
use Rattle.border.proofs.reader.{Turns.{turn_move, turn_marker}}
use Rattle.border.specs.Reader.{packed_turn}
use Rattle.border.proofs.reader.read_move.Goals as goal

pub returns-in_err-number : goal.returns-in_err-number
unfolding packed_turn
returns-in_err-number c =
    exits c.from_residual.result c.in_err-number.was c.read_number.ensures c.from_residual.ensures.1 _

pub returns-then-number-eq0 : goal.returns-then-number-eq0
returns-then-number-eq0 c =
    c.read_marker.ensures ∙ sym (turn_marker (reading_of c.args.strict c.args.file.now) c.args.file.now c.args.base c.args.reader (rw c.in_ok-number.was at
    c.read_number.ensures) c.if-number-eq0.true)

pub returns : goal.returns
returns c =
    rw c.decode_point.ensures at c.advance.ensures ∙ sym (turn_move (reading_of c.args.strict c.args.file.now) c.args.file.now c.args.base c.args.reader (rw
    c.in_ok-number.was at c.read_number.ensures) c.if-number-eq0.false)
