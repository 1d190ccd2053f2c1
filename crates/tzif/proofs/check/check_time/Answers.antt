-- `tzif::check::check_time` meets its contract.
use Rattle.numbers.proofs.Prelude.{eq-eqb, ne_eqb, refl, arith}
use Rattle.tzif.proofs.{Widths.{row, transitions_inside}}
use Rattle.tzif.specs.Check.{check_time}
use Rattle.tzif.proofs.check.check_time.Goals as goal

pub returns-then-i-eq0 : goal.returns-then-i-eq0
unfolding check_time
returns-then-i-eq0 c =
    rw (eq-eqb _ _ c.if-i-eq0.true) refl

pub time_in-before-requires : goal.time_in-before-requires
unfolding check_time
time_in-before-requires c =
    rw c.transitions_of-times.ensures (record { inside = transitions_inside c.requires.within; i_lt_count = omega (arith, c.requires.i_lt_timecnt) })

pub time_in-time-requires : goal.time_in-time-requires
unfolding check_time
time_in-time-requires c =
    rw c.transitions_of-times.ensures (record { inside = transitions_inside c.requires.within; i_lt_count = c.requires.i_lt_timecnt })

pub overflow_mul-i : goal.overflow_mul-i
overflow_mul-i c =
    omega (arith, row c.args.i c.args.block.timecnt c.args.block.width c.requires.i_lt_timecnt, c.requires.within.end)

pub overflow_add-block : goal.overflow_add-block
overflow_add-block c =
    omega (arith, row c.args.i c.args.block.timecnt c.args.block.width c.requires.i_lt_timecnt, c.requires.within.end)

pub returns : goal.returns
unfolding check_time
returns c =
    rw (ne_eqb _ _ c.if-i-eq0.false, ← c.transitions_of-times.ensures, ← c.time_in-before.ensures, ← c.time_in-time.ensures) c.demand.ensures
