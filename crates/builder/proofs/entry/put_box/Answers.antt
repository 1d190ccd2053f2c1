-- `builder::entry::put_box` meets its contract.
use Rattle.numbers.{proofs.Prelude.{arith, rules, ap, w32, SFits}, specs.Spelling.{signed_form}}
use mir.Facts.{to_z-of_z}
use Rattle.builder.proofs.{Steps.{stored_as, stored_few, stored_four}}
use Rattle.builder.specs.Entries.{box_bytes}
use Rattle.builder.proofs.entry.put_box.Goals as goal

pub put_signed-west-requires : goal.put_signed-west-requires
put_signed-west-requires c = omega (arith, stored_few _ c.put_signed-south.ensures)

pub put_signed-north-requires : goal.put_signed-north-requires
put_signed-north-requires c = omega (arith, stored_few _ c.put_signed-south.ensures, stored_few _ c.put_signed-west.ensures)

pub put_signed-requires : goal.put_signed-requires
put_signed-requires c = omega (arith, stored_few _ c.put_signed-south.ensures, stored_few _ c.put_signed-west.ensures, stored_few _ c.put_signed-north.ensures)

pub returns : goal.returns
unfolding box_bytes
returns c =
    let south : SFits w32 c.args.bounds.south = search rules in
    let west : SFits w32 c.args.bounds.west = search rules in
    let north : SFits w32 c.args.bounds.north = search rules in
    let east : SFits w32 c.args.bounds.east = search rules in
    stored_four (stored_as (ap signed_form (to_z-of_z south)) c.put_signed-south.ensures) (stored_as (ap signed_form (to_z-of_z west)) c.put_signed-west.ensures)
    (stored_as (ap signed_form (to_z-of_z north)) c.put_signed-north.ensures) (stored_as (ap signed_form (to_z-of_z east)) c.put_signed.ensures)
