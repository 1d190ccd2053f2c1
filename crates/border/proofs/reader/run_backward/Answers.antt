-- `border::reader::run_backward` meets its contract.
use Rattle.numbers.{proofs.{Laws.{exits}, Prelude.{sym, ◌∙◌}}, specs.Varint.{reading_of}}
use Rattle.border.proofs.reader.{Turns.{backward_fails, backward_back, backward_move}}
use Rattle.border.specs.Reader.{packed_turn}
use Rattle.border.proofs.reader.run_backward.Goals as goal

pub returns-in_err-behind : goal.returns-in_err-behind
unfolding packed_turn
returns-in_err-behind c =
    exits c.from_residual.result c.in_err-behind.was c.read_backward.ensures c.from_residual.ensures.1 _

pub returns-then-behind-eq0 : goal.returns-then-behind-eq0
returns-then-behind-eq0 c =
    sym (backward_fails (reading_of c.args.strict c.args.file.now) c.args.file.now c.args.base c.args.reader c.args.next c.args.end (rw c.in_ok-behind.was at
    c.read_backward.ensures) c.if-behind-eq0.true)

pub returns-in_err-by : goal.returns-in_err-by
returns-in_err-by c =
    exits c.from_residual-in_err-by.result c.in_err-by.was (rw c.decode_point.ensures at c.negate.ensures) c.from_residual-in_err-by.ensures.1 _ ∙ sym (backward_back (reading_of c.args.strict c.args.file.now) c.args.file.now c.args.base c.args.reader c.args.next c.args.end (rw
    c.in_ok-behind.was at c.read_backward.ensures) c.if-behind-eq0.false)

pub returns : goal.returns
returns c =
    rw c.backward_from.ensures at c.advance.ensures ∙ sym (backward_move (reading_of c.args.strict c.args.file.now) c.args.file.now c.args.base c.args.reader
    c.args.next c.args.end (rw c.in_ok-behind.was at c.read_backward.ensures) c.if-behind-eq0.false (rw (c.decode_point.ensures, c.in_ok-by.was) at c.negate.ensures))
