-- `build::entries::south::from_south` meets its contract.
use Rattle.numbers.proofs.{Prelude.{arith}, write.Gaps.{widens}}
use Rattle.build.proofs.entries.{Southern.{south_fits, south_sign, south_range, south_is}}
use Rattle.build.proofs.entries.south.from_south.Goals as goal

pub returns : goal.returns
returns c =
    south_is c.args.latitude c.ranges.latitude
