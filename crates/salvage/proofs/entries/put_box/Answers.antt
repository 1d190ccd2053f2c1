-- `salvage::entries::put_box` meets its contract.
use Rattle.numbers.{proofs.Prelude.{rules, ap, ◌∙◌, w32, SFits}, specs.Spelling.{signed_form}}
use mir.Facts.{to_z-of_z}
use Rattle.salvage.proofs.{entries.{Forming.{capped_four}}, moves.{Capping.{capped_form}, Forms.{from_zero}}}
use Rattle.salvage.specs.File.{box_bytes}
use Rattle.salvage.proofs.entries.put_box.Goals as goal

pub returns : goal.returns
unfolding box_bytes
returns c =
    let fit : SFits w32 c.args.bounds.min_lat.0 = search rules in
    let fit2 : SFits w32 c.args.bounds.min_lon.0 = search rules in
    let fit3 : SFits w32 c.args.bounds.max_lat.0 = search rules in
    let fit4 : SFits w32 c.args.bounds.max_lon.0 = search rules in
    capped_four (capped_form (c.form_of.ensures ∙ from_zero _ ∙ ap signed_form (to_z-of_z fit)) c.put_number-south.ensures) (capped_form (c.form_of-2.ensures
    ∙ from_zero _ ∙ ap signed_form (to_z-of_z fit2)) c.put_number-west.ensures) (capped_form (c.form_of-3.ensures ∙ from_zero _
    ∙ ap signed_form (to_z-of_z fit3)) c.put_number-north.ensures) (capped_form (c.form_of-4.ensures ∙ from_zero _
    ∙ ap signed_form (to_z-of_z fit4)) c.put_number.ensures)
