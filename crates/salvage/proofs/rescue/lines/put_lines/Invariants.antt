-- `salvage::rescue::lines::put_lines`: what the loop keeps true, and its measure.
use Rattle.numbers.proofs.Prelude.{◌-◌}
use Rattle.salvage.proofs.rescue.lines.Listing.{Listing}
use Rattle.salvage.proofs.rescue.lines.put_lines.Given as goal

abbrev pub invariant-loop-at : goal.invariant-loop-at
invariant-loop-at l = Listing l.fn.file l.fn.head l.initial.list l.list l.at l.number l.words l.kept

abbrev pub decreases-loop-at : goal.decreases-loop-at
decreases-loop-at l = l.fn.head.sections.metadata - l.at.place
