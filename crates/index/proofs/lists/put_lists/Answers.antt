-- `index::lists::put_lists` meets its contract. The loop's invariant is `Tiling`.
use Rattle.index.proofs.{Listing.{tiling_step, tiling_ends, same_tile}}
use Rattle.index.proofs.lists.put_lists.Goals as goal

pub loop-t-preserved : goal.loop-t-preserved
loop-t-preserved c =
    tiling_step _ _ _ _ c.loop-t.invariant c.loop-t-test.true c.requires.1 c.requires.0 c.put.ensures (same_tile _ c.tile_at-tile.ensures c.put_list-at.ensures)

pub returns : goal.returns
returns c =
    tiling_ends _ _ _ _ c.loop-t.invariant c.loop-t-test.false c.put-2.ensures
