-- `tzif::number::lifted` meets its contract.
use Rattle.numbers.proofs.Prelude.{arith}
use Rattle.tzif.proofs.{Signs.{lifted_above, rest_fits, rest_form, lifted_below, from_zero}}
use Rattle.tzif.proofs.number.lifted.Goals as goal

pub overflow_sub-below : goal.overflow_sub-below
overflow_sub-below c =
    rest_fits c.args.instant c.ranges.instant c.if-instant-lt0.true

pub overflow_cast-result : goal.overflow_cast-result
overflow_cast-result c =
    rw (rest_form c.args.instant c.ranges.instant c.if-instant-lt0.true) (tt, record { fits = omega (arith, c.ranges.instant.sfits) })

pub overflow_sub-result : goal.overflow_sub-result
overflow_sub-result c =
    rw (rest_form c.args.instant c.ranges.instant c.if-instant-lt0.true) (omega (arith, c.ranges.instant.sfits))

pub returns-then-instant-lt0 : goal.returns-then-instant-lt0
returns-then-instant-lt0 c =
    rw (rest_form c.args.instant c.ranges.instant c.if-instant-lt0.true) (lifted_below c.args.instant c.ranges.instant c.if-instant-lt0.true)

pub overflow_cast-result-2 : goal.overflow_cast-result-2
overflow_cast-result-2 c =
    let up = from_zero c.args.instant c.ranges.instant c.if-instant-lt0.false in
    (up.sign, record { fits = omega (arith, up.small) })

pub overflow_add-result : goal.overflow_add-result
overflow_add-result c =
    omega (arith, (from_zero c.args.instant c.ranges.instant c.if-instant-lt0.false).small)

pub returns : goal.returns
returns c =
    lifted_above c.args.instant c.ranges.instant c.if-instant-lt0.false
