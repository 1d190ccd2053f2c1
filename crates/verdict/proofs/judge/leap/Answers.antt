-- `verdict::judge::leap` meets its contract.
use Rattle.numbers.proofs.Prelude.{arith}
use Rattle.verdict.proofs.{Kept.{quadrant_small}}
use Rattle.verdict.specs.Stretch.{leapt}
use Rattle.verdict.proofs.judge.leap.Goals as goal

pub overflow_add-quarters : goal.overflow_add-quarters
overflow_add-quarters c =
    record { fits = omega (arith, c.quadrant_of.ensures, quadrant_small c.args.fix c.args.to) }

pub overflow_sub-quarters : goal.overflow_sub-quarters
overflow_sub-quarters c =
    omega (arith, c.quadrant_of-2.ensures, quadrant_small c.args.fix c.args.from)

pub returns : goal.returns
unfolding leapt
returns c =
    rw (← c.quadrant_of.ensures, ← c.quadrant_of-2.ensures) c.quarter.ensures
