-- `tzif::times::time_in` meets its contract.
use Rattle.numbers.proofs.Prelude.{arith}
use Rattle.tzif.proofs.{Widths.{row}}
use Rattle.tzif.specs.Times.{time_in}
use Rattle.tzif.proofs.times.time_in.Goals as goal

pub overflow_mul-i : goal.overflow_mul-i
overflow_mul-i c =
    omega (arith, row c.args.i c.args.times.count c.args.times.stride c.requires.i_lt_count, c.requires.inside.end)

pub overflow_add-times : goal.overflow_add-times
overflow_add-times c =
    omega (arith, row c.args.i c.args.times.count c.args.times.stride c.requires.i_lt_count, c.requires.inside.end)

pub time_at-requires : goal.time_at-requires
time_at-requires c =
    (c.requires.inside.wide, omega (arith, row c.args.i c.args.times.count c.args.times.stride c.requires.i_lt_count, c.requires.inside.end, c.requires.inside.apart))

pub returns : goal.returns
unfolding time_in
returns c =
    c.time_at.ensures
