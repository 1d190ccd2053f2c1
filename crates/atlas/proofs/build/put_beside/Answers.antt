-- `atlas::build::put_beside` meets its contract. The loop's invariant is `Entering`.
use Rattle.numbers.proofs.Prelude.{arith}
use Rattle.atlas.proofs.{Behind.{entering_starts, entering_on, entering_ends}}
use Rattle.atlas.proofs.build.put_beside.Goals as goal

pub loop-k-init : goal.loop-k-init
loop-k-init c =
    entering_starts _ _ _ _ _

pub loop-k-preserved : goal.loop-k-preserved
loop-k-preserved c =
    entering_on _ _ _ _ _ c.loop-k.invariant c.loop-k-test.true c.requires.2 c.put_one-at.ensures.0 c.put_one-at.ensures.1

pub returns : goal.returns
returns c =
    entering_ends _ _ _ _ _ c.loop-k.invariant (omega (arith, c.loop-k-test.false))
