-- `numbers::write::form_of` meets its contract.
use Rattle.numbers.proofs.{Prelude.{arith}, write.{Gaps.{widens, gap_fits, away_fits, away_small, away_sign, away_form, read_small, read_sign, read_form}}}
use Rattle.numbers.proofs.write.form_of.Goals as goal

pub overflow_sub-result : goal.overflow_sub-result
overflow_sub-result c =
    away_fits c.args.from c.args.to c.ranges.from c.ranges.to

pub overflow_cast-result : goal.overflow_cast-result
overflow_cast-result c =
    (away_sign c.args.from c.args.to c.ranges.from c.ranges.to c.if-by-lt0.true, omega (arith, away_small c.args.from c.args.to c.ranges.from c.ranges.to))

pub returns-then-by-lt0 : goal.returns-then-by-lt0
returns-then-by-lt0 c =
    away_form c.args.from c.args.to c.ranges.from c.ranges.to c.if-by-lt0.true

pub returns : goal.returns
returns c =
    read_form c.args.from c.args.to c.ranges.from c.ranges.to c.if-by-lt0.false
