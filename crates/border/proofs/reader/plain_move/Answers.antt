-- `border::reader::plain_move` meets its contract.
use Rattle.numbers.proofs.{Laws.{exits}, Prelude.{ne_eqb, sym, ◌∙◌}}
use Rattle.border.proofs.reader.{Turns.{pair_closes, pair_moves}}
use Rattle.border.specs.{Reader.{onward, plain_move}, declared.reader.Run.TheVariants.{Idle}}
use Rattle.border.proofs.reader.plain_move.Goals as goal

pub returns-then-moves-eq0 : goal.returns-then-moves-eq0
returns-then-moves-eq0 c =
    rw c.close.ensures at c.shown.ensures ∙ sym (pair_closes (onward c.args.reader c.args.place c.args.moves Idle) c.args.by c.if-moves-eq0.true)

pub returns-in_err-point : goal.returns-in_err-point
unfolding plain_move
returns-in_err-point c =
    rw (ne_eqb _ _ c.if-moves-eq0.false) (exits c.from_residual.result c.in_err-point.was c.move_by.ensures c.from_residual.ensures.1 _)

pub returns : goal.returns
returns c =
    rw c.arrive.ensures at c.shown-2.ensures ∙ sym (pair_moves (onward c.args.reader c.args.place c.args.moves Idle) c.args.by c.if-moves-eq0.false (rw c.in_ok-point.was
    at c.move_by.ensures))
