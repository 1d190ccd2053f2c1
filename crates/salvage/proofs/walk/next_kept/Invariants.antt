-- `salvage::walk::next_kept` meets its contract. The loop's invariant: what is kept from here on is what is kept from where it began.
use Rattle.numbers.proofs.Prelude.{◌-◌, ◌≤◌, ◌≡◌}
use Rattle.salvage.specs.Kept.{kept_from}
use Rattle.salvage.proofs.walk.next_kept.Given as goal

abbrev pub invariant-loop-at : goal.invariant-loop-at
invariant-loop-at l = (kept_from l.file l.head l.at ≡ kept_from l.file l.head l.initial.at) × (l.head.sections.metadata - l.at.place ≤ l.head.sections.metadata -
    l.initial.at.place)

abbrev pub decreases-loop-at : goal.decreases-loop-at
decreases-loop-at l = l.head.sections.metadata - l.at.place
