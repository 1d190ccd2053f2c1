-- `tzif::leap::correction_of` meets its contract.
use Rattle.numbers.proofs.Prelude.{◌+◌, arith}
use Rattle.tzif.proofs.{Widths.{row}}
use Rattle.tzif.specs.Check.{correction_of}
use Rattle.tzif.proofs.leap.correction_of.Goals as goal

pub leap_place-requires : goal.leap_place-requires
leap_place-requires c =
    omega (arith, row c.args.i c.args.block.leapcnt (c.args.block.width + 4) c.requires.i_lt_leapcnt)

pub overflow_add-leap_place : goal.overflow_add-leap_place
overflow_add-leap_place c =
    omega (arith, row c.args.i c.args.block.leapcnt (c.args.block.width + 4) c.requires.i_lt_leapcnt)

pub be32-requires : goal.be32-requires
be32-requires c =
    omega (arith, row c.args.i c.args.block.leapcnt (c.args.block.width + 4) c.requires.i_lt_leapcnt)

pub returns : goal.returns
unfolding correction_of
returns c =
    record { same = cc; fits = c.raised.ensures.fits }
