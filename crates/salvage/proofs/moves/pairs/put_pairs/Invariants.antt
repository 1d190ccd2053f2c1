-- `salvage::moves::pairs::put_pairs` meets its contract.
use Rattle.numbers.{specs.Varint.{reading_of}}
use Rattle.salvage.proofs.moves.pairs.{Pairing.{Pairing}}
use Rattle.salvage.proofs.moves.pairs.put_pairs.Given as goal

abbrev pub invariant-loop-pair : goal.invariant-loop-pair
invariant-loop-pair l = Pairing (reading_of l.strict l.file) l.count l.place l.initial.out l.at l.out l.next l.here l.left

abbrev pub decreases-loop-pair : goal.decreases-loop-pair
decreases-loop-pair l = l.left
