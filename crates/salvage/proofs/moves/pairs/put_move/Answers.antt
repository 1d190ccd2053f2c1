-- `salvage::moves::pairs::put_move` meets its contract.
use Rattle.numbers.{proofs.Prelude.{rules, ap, ◌∙◌, w32, SFits}, specs.Spelling.{varint_of, signed_form}}
use mir.Facts.{to_z-of_z}
use Rattle.writer.specs.Moves.{plain_move_bytes}
use Rattle.salvage.proofs.moves.{Capping.{capped_then, capped_form}, Forms.{from_zero}}
use Rattle.salvage.proofs.moves.pairs.put_move.Goals as goal

pub returns : goal.returns
unfolding plain_move_bytes
returns c =
    let lat : SFits w32 c.args.by.lat = search rules in
    let lon : SFits w32 c.args.by.lon = search rules in
    capped_then (varint_of (signed_form c.args.by.lat)) (varint_of (signed_form c.args.by.lon)) (capped_form (c.form_of.ensures ∙ from_zero _
    ∙ ap signed_form (to_z-of_z lat)) c.put_number-next.ensures) (capped_form (c.form_of-2.ensures ∙ from_zero _ ∙ ap signed_form (to_z-of_z lon)) c.put_number.ensures)
