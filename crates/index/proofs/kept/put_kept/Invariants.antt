-- `index::kept::put_kept` meets its contract. The loop's invariant is `Keeping`.
use Rattle.numbers.proofs.Prelude.{◌+◌, ◌-◌}
use Rattle.index.proofs.{Keeping.{Keeping}}
use Rattle.index.proofs.kept.put_kept.Given as goal

abbrev pub invariant-loop-place : goal.invariant-loop-place
invariant-loop-place l = Keeping l.file l.size l.initial.index l.from l.index l.at l.place

abbrev pub decreases-loop-place : goal.decreases-loop-place
decreases-loop-place l = l.size + 3 - l.place
