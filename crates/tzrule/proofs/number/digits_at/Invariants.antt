-- `tzrule::number::digits_at` meets its contract.
use Rattle.tzrule.proofs.{Numbers.{Taken}}
use Rattle.tzrule.proofs.number.digits_at.Given as goal

abbrev pub invariant-loop-next : goal.invariant-loop-next
invariant-loop-next l = Taken l.text l.at l.most l.value l.next
