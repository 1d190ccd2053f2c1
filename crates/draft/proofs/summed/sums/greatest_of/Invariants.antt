-- `draft::summed::sums::greatest_of` meets its contract.
use Rattle.draft.proofs.summed.{Souths.{Seeking}}
use Rattle.draft.proofs.summed.sums.greatest_of.Given as goal

abbrev pub invariant-loop-yard : goal.invariant-loop-yard
invariant-loop-yard l = Seeking l.boxes l.count l.greatest l.yard
