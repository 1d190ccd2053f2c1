-- `writer::moves::move_number` meets its contract.
use Rattle.numbers.proofs.Prelude.{◌∙◌}
use Rattle.writer.specs.Moves.{packed_number}
use Rattle.writer.proofs.moves.move_number.Goals as goal

pub returns : goal.returns
unfolding packed_number
returns c =
    c.interleave.ensures ∙ rw (c.gap_form.ensures, c.gap_form-2.ensures)
