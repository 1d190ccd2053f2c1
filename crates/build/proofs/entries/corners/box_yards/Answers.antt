-- `build::entries::corners::box_yards` meets its contract.
use Rattle.numbers.proofs.Prelude.{ℕ, ◌+◌, ◌*◌, ◌≡◌, ap, sym, ◌∙◌, arith}
use Rattle.build.proofs.entries.{Cornered.{box_starts, box_room, box_goes, box_ends}}
use Rattle.build.proofs.entries.corners.box_yards.Goals as goal

pub loop-count-preserved : goal.loop-count-preserved
loop-count-preserved c =
    let at : 4 * c.in-Some.count ≡ 4 * c.loop-count.count-iterator.count = ap (λ (n : ℕ). 4 * n) c.in-Some.ensures.steps.1 in
    box_goes _ _ _ _ _ _ _ _ _ _ c.loop-count.invariant _ _ c.in-Some.ensures.steps.0.1.0 c.in-Some.ensures.steps.0.1.1 _ c.box_part-bounds.ensures _ (rw at at c.put_corners.ensures) _ _ c.next_part-lat.ensures c.next_part-lon.ensures _ _
    c.in-Some.ensures.steps.0.0 c.in-Some.ensures.steps.2

pub returns : goal.returns
returns c =
    box_ends _ _ _ _ _ _ _ _ _ _ c.loop-count.invariant c.in-None.ensures.steps.0.1.0
