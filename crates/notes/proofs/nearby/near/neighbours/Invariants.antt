-- `notes::nearby::near::neighbours` meets its contract.
use Rattle.notes.proofs.nearby.{Seeks.{Seeking}}
use Rattle.notes.proofs.nearby.near.neighbours.Given as goal

abbrev pub invariant-loop-yard : goal.invariant-loop-yard
invariant-loop-yard l = Seeking l.boxes l.south l.count l.low l.below l.high l.above l.yard
