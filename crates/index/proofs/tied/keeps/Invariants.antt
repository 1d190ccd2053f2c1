-- `index::tied::keeps` meets its contract. The loop's invariant is `Comparing`.
use Rattle.numbers.proofs.Prelude.{◌+◌, ◌-◌, take}
use Rattle.index.proofs.{Tying.{Comparing}}
use Rattle.index.proofs.tied.keeps.Given as goal

abbrev pub invariant-loop-place : goal.invariant-loop-place
invariant-loop-place l = Comparing l.index l.from (take l.size l.file) l.size l.at l.place

abbrev pub decreases-loop-place : goal.decreases-loop-place
decreases-loop-place l = l.size + 3 - l.place
