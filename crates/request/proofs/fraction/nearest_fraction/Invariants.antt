-- `request::fraction::nearest_fraction` meets its contract (proofs/Quotients.antt, `short_law`). The invariant: what was divided is num moved up, and the remainder is below the divisor.
use Rattle.request.proofs.{Quotients.{Going}}
use Rattle.request.proofs.fraction.nearest_fraction.Given as goal

abbrev pub invariant-loop-kept : goal.invariant-loop-kept
invariant-loop-kept l = Going l.num l.den l.kept l.rest l.place

abbrev pub decreases-loop-kept : goal.decreases-loop-kept
decreases-loop-kept l = l.place
