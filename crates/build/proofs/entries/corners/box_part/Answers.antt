-- `build::entries::corners::box_part` meets its contract.
use Rattle.numbers.proofs.Prelude.{length, arith}
use Rattle.builder.proofs.Checking.{ends_inside}
use Rattle.build.proofs.entries.{Cornered.{part_box}}
use Rattle.build.proofs.entries.corners.box_part.Goals as goal

pub returns : goal.returns
returns c =
    part_box c.args.lats.now c.args.lat c.args.tall c.args.lons.now c.args.lon c.args.wide _ _ c.part_end-lat_end.ensures c.part_end-lon_end.ensures c.box_of.result
    c.box_of.ensures
