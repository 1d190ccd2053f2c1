-- `draft::summed::arrange::spread_borders` meets its contract.
use Rattle.draft.proofs.summed.{Spreads.{Spreading}}
use Rattle.draft.proofs.summed.arrange.spread_borders.Given as goal

abbrev pub invariant-loop-i : goal.invariant-loop-i
invariant-loop-i l = Spreading l.borders l.initial.places l.places l.i
