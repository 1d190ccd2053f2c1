-- `tzif::leap::check_expiry` meets its contract.
use Rattle.numbers.proofs.Prelude.{◌+◌, arith}
use Rattle.tzif.proofs.{Widths.{row, occurrences_inside}}
use Rattle.tzif.proofs.leap.check_expiry.Goals as goal

pub occurrences_of-occurrences-requires : goal.occurrences_of-occurrences-requires
occurrences_of-occurrences-requires c =
    let here = row c.args.i c.args.block.leapcnt (c.args.block.width + 4) c.requires.i_nonzero.1 in
    (omega (arith, c.requires.within.end), omega (arith, c.requires.within.end))

pub time_in-before-requires : goal.time_in-before-requires
time_in-before-requires c =
    rw c.occurrences_of-occurrences.ensures (record { inside = occurrences_inside c.requires.within; i_lt_count = omega (arith, c.requires.i_nonzero) })

pub time_in-occurrence-requires : goal.time_in-occurrence-requires
time_in-occurrence-requires c =
    rw c.occurrences_of-occurrences.ensures (record { inside = occurrences_inside c.requires.within; i_lt_count = c.requires.i_nonzero.1 })

pub leap_place-requires : goal.leap_place-requires
leap_place-requires c = (
  omega (arith, row c.args.i c.args.block.leapcnt (c.args.block.width + 4) c.requires.i_nonzero.1, c.requires.within.end),
  omega (
    arith,
    row c.args.i
        c.args.block.leapcnt (c.args.block.width + 4) c.requires.i_nonzero.1,
    c.requires.within.end,
  ),
)

pub returns : goal.returns
returns c =
    cc
