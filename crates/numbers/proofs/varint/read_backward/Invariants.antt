-- `numbers::varint::read_backward` meets its contract: the loop keeps `Descent`, and each way out is a case of `backward_at`.
use Rattle.numbers.proofs.{Prelude.{◌-◌, rules, arith}, varint.{Backward.{past, inside}, Descent.{Descent, begun, further, whole, overlong, none}}}
use Rattle.numbers.proofs.varint.read_backward.Given as goal

abbrev pub invariant-loop-before : goal.invariant-loop-before
invariant-loop-before l = Descent l.file l.place l.value l.before
