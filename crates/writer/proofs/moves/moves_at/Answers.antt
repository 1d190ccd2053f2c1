-- `writer::moves::moves_at` meets its contract.
use Rattle.numbers.proofs.Prelude.{ne_eqb}
use Rattle.writer.proofs.{Elements.{moves_lat, moves_lon}}
use Rattle.writer.proofs.moves.moves_at.Goals as goal

pub returns-then-gap_form-ne0 : goal.returns-then-gap_form-ne0
returns-then-gap_form-ne0 c =
    rw (ne_eqb _ _ c.if-gap_form-ne0.true) (moves_lat c.args.lats.now c.args.lons.now c.args.i c.gap_form.ensures c.if-gap_form-ne0.true)

pub returns-else-gap_form-ne0 : goal.returns-else-gap_form-ne0
returns-else-gap_form-ne0 c =
    moves_lon c.args.lats.now c.args.lons.now c.args.i c.gap_form.ensures c.if-gap_form-ne0.false c.gap_form-else-gap_form-ne0.ensures
