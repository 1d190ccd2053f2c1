-- `verdict::winding::half_turn` meets its contract: the two tests decide as the definition does.
use Rattle.numbers.proofs.Prelude.{lt-ltb, le-ltb}
use Rattle.verdict.specs.Winding.{half_turn}
use Rattle.verdict.proofs.winding.half_turn.Goals as goal

pub returns-then-west : goal.returns-then-west
unfolding half_turn
returns-then-west c =
    rw (lt-ltb _ _ c.if-quadrant-lt2.true, c.if-west.true)

pub returns-else-west : goal.returns-else-west
unfolding half_turn
returns-else-west c =
    rw (lt-ltb _ _ c.if-quadrant-lt2.true, c.if-west.false)

pub returns-then-west-2 : goal.returns-then-west-2
unfolding half_turn
returns-then-west-2 c =
    rw (le-ltb _ _ c.if-quadrant-lt2.false, c.if-west-2.true)

pub returns-else-west-2 : goal.returns-else-west-2
unfolding half_turn
returns-else-west-2 c =
    rw (le-ltb _ _ c.if-quadrant-lt2.false, c.if-west-2.false)
