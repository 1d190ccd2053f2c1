-- `border::reader::run_forward` meets its contract.
use Rattle.numbers.{proofs.{Laws.{exits}, Prelude.{sym, ◌∙◌}}, specs.Varint.{reading_of}}
use Rattle.border.proofs.reader.{Turns.{forward_fails, forward_move}}
use Rattle.border.specs.Reader.{packed_turn}
use Rattle.border.proofs.reader.run_forward.Goals as goal

pub returns-in_err-ahead : goal.returns-in_err-ahead
unfolding packed_turn
returns-in_err-ahead c =
    exits c.from_residual.result c.in_err-ahead.was c.read_number.ensures c.from_residual.ensures.1 _

pub returns-then-ahead-eq0 : goal.returns-then-ahead-eq0
returns-then-ahead-eq0 c =
    sym (forward_fails (reading_of c.args.strict c.args.file.now) c.args.file.now c.args.base c.args.reader c.args.next c.args.end (rw c.in_ok-ahead.was at
    c.read_number.ensures) c.if-ahead-eq0.true)

pub returns : goal.returns
returns c =
    rw (c.forward_from-run.ensures, c.decode_point.ensures) at c.advance.ensures ∙ sym (forward_move (reading_of c.args.strict c.args.file.now) c.args.file.now
    c.args.base c.args.reader c.args.next c.args.end (rw c.in_ok-ahead.was at c.read_number.ensures) c.if-ahead-eq0.false)
