-- `draft::summed::arrange::spread_borders` meets its contract.
use Rattle.draft.proofs.summed.{Spreads.{spread_starts, spread_inside, spread_goes, spread_ends}}
use Rattle.draft.proofs.summed.arrange.spread_borders.Goals as goal

pub loop-i-preserved : goal.loop-i-preserved
loop-i-preserved c =
    spread_goes _ _ _ _ c.loop-i.invariant c.loop-i-test.true

pub returns : goal.returns
returns c =
    spread_ends _ _ _ _ c.loop-i.invariant c.loop-i-test.false
