-- `tzif::leap::occurs_later` meets its contract.
use Rattle.numbers.proofs.Prelude.{◌+◌, eq-eqb, ne_eqb, refl, arith}
use Rattle.tzif.proofs.{Widths.{row, occurrences_inside}}
use Rattle.tzif.specs.Check.{occurs_later}
use Rattle.tzif.proofs.leap.occurs_later.Goals as goal

pub occurrences_of-occurrences-requires : goal.occurrences_of-occurrences-requires
occurrences_of-occurrences-requires c =
    let here = row c.args.i c.args.block.leapcnt (c.args.block.width + 4) c.requires.i_lt_leapcnt in
    (omega (arith, c.requires.within.end), omega (arith, c.requires.within.end))

pub time_in-occurrence-requires : goal.time_in-occurrence-requires
time_in-occurrence-requires c =
    rw c.occurrences_of-occurrences.ensures (record { inside = occurrences_inside c.requires.within; i_lt_count = c.requires.i_lt_leapcnt })

pub returns-then-i-eq0 : goal.returns-then-i-eq0
unfolding occurs_later
returns-then-i-eq0 c =
    rw (eq-eqb _ _ c.if-i-eq0.true, ← c.occurrences_of-occurrences.ensures, ← c.time_in-occurrence.ensures) refl

pub time_in-requires : goal.time_in-requires
time_in-requires c =
    rw c.occurrences_of-occurrences.ensures (record { inside = occurrences_inside c.requires.within; i_lt_count = omega (arith, c.requires.i_lt_leapcnt) })

pub returns : goal.returns
unfolding occurs_later
returns c =
    rw (ne_eqb _ _ c.if-i-eq0.false, ← c.occurrences_of-occurrences.ensures, ← c.time_in-occurrence.ensures, ← c.time_in.ensures) c.spaced.ensures
