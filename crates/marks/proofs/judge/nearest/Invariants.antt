-- `marks::judge::nearest` meets its contract. The loop's invariant: what is left comes to what the whole does.
use Rattle.numbers.proofs.Prelude.{◌+◌, ◌-◌, ◌*◌, ◌≡◌}
use Rattle.marks.specs.Judging.{nearest_of}
use Rattle.marks.proofs.judge.nearest.Given as goal

abbrev pub invariant-loop-i : goal.invariant-loop-i
invariant-loop-i l = nearest_of l.words l.fix (l.count - l.i) (l.place + 11 * l.i) l.near ≡ nearest_of l.words l.fix l.count l.place l.initial.near
