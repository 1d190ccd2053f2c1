-- `salvage::moves::pairs::put_pairs` meets its contract.
use Rattle.salvage.proofs.moves.pairs.{Pairing.{no_pair, pair_starts, pair_goes, pair_ends, pair_stops}}
use Rattle.salvage.proofs.moves.pairs.put_pairs.Goals as goal

pub loop-pair-init : goal.loop-pair-init
loop-pair-init c =
    pair_starts _ _ _ _ _

pub returns-in_default : goal.returns-in_default
returns-in_default c =
    pair_stops _ _ _ _ _ _ _ _ c.loop-pair.invariant _ (rw c.in_default.is at c.read_pair.ensures) (no_pair _)

pub returns-then-left-eq0 : goal.returns-then-left-eq0
returns-then-left-eq0 c =
    pair_ends _ _ _ _ _ (rw c.if-left-eq0.true at c.loop-pair.invariant) (rw c.in-Ok.is at c.read_pair.ensures) c.put_move-next.ensures

pub loop-pair-preserved : goal.loop-pair-preserved
loop-pair-preserved c =
    pair_goes _ _ _ _ _ _ c.if-left-eq0.false c.loop-pair.invariant (rw c.in-Ok.is at c.read_pair.ensures) c.put_move-next.ensures
