-- `index::entries::put_table` meets its contract. The loop's invariant is `Tabling`.
use Rattle.numbers.proofs.Prelude.{◌-◌, length, ◌≡◌}
use Rattle.index.proofs.Tabling.{Tabling}
use Rattle.index.proofs.entries.put_table.Given as goal

abbrev pub invariant-loop-at : goal.invariant-loop-at
invariant-loop-at l = Tabling l.head.strict l.file l.end l.initial.at l.initial.floor.0 l.initial.index l.index l.at l.floor.0 l.place l.n × (length l.index ≡ length
    l.initial.index)

abbrev pub decreases-loop-at : goal.decreases-loop-at
decreases-loop-at l = l.end - l.at.place
