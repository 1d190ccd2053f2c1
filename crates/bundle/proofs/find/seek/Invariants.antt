-- `bundle::find::seek` meets its contract.
use Rattle.numbers.proofs.Prelude.{◌+◌, ◌*◌, ◌≤◌, length, ◌≡◌}
use Rattle.bundle.specs.{Bundle.{seek_of}, Named.{name_of}}
use Rattle.bundle.proofs.find.seek.Given as goal

abbrev pub invariant-loop-left : goal.invariant-loop-left
invariant-loop-left l =
    (seek_of l.left l.bundle (name_of l.wanted) l.at ≡ seek_of l.count l.bundle (name_of l.wanted) l.place) × (l.at + 52 *
    l.left ≤ length l.bundle)

abbrev pub decreases-loop-left : goal.decreases-loop-left
decreases-loop-left l = l.left
