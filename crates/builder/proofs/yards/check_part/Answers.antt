-- `builder::yards::check_part` meets its contract.
use Rattle.numbers.proofs.Prelude.{length, arith}
use Rattle.builder.proofs.{Checking.{ends_inside, parts_checked}}
use Rattle.builder.proofs.yards.check_part.Goals as goal

pub returns : goal.returns
returns c =
    parts_checked c.args.lats.now c.args.lat c.args.tall c.args.lons.now c.args.lon c.args.wide _ _ c.part_end-lat_end.ensures c.part_end-lon_end.ensures
    c.check_border.result c.check_border.ensures
