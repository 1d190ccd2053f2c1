-- `salvage::walk::next_kept` meets its contract. The loop's invariant: what is kept from here on is what is kept from where it began.
use Rattle.numbers.proofs.Prelude.{sym, ◌∙◌, arith}
use Rattle.salvage.proofs.walk.{Walking.{kept_end, kept_stops, kept_here, kept_not, walk_less, led_from}}
use Rattle.salvage.proofs.walk.next_kept.Goals as goal

pub returns-in_default : goal.returns-in_default
returns-in_default c =
    sym c.loop-at.invariant.0 ∙ kept_stops _ _ _ c.loop-at-test.true _ (rw c.in_default.is at c.row_at.ensures)

pub returns-then-is_good : goal.returns-then-is_good
returns-then-is_good c =
    led_from _ _ c.loop-at.invariant.0 c.loop-at.invariant.1 (kept_here _ _ _ c.loop-at-test.true (rw c.in-Ok.is at c.row_at.ensures) c.is_good.ensures
    c.if-is_good.true)

pub loop-at-smaller : goal.loop-at-smaller
loop-at-smaller c =
    walk_less c.args.file.now c.args.head c.loop-at.at c.loop-at-test.true (rw c.in-Ok.is at c.row_at.ensures) c.after-at.ensures

pub loop-at-preserved : goal.loop-at-preserved
loop-at-preserved c = (
  kept_not _ _ _ c.loop-at-test.true (rw c.in-Ok.is at c.row_at.ensures) c.after-at.ensures c.is_good.ensures c.if-is_good.false
      ∙ c.loop-at.invariant.0,
  omega (
    arith,
    walk_less c.args.file.now c.args.head c.loop-at.at c.loop-at-test.true (rw c.in-Ok.is at c.row_at.ensures)
        c.after-at.ensures,
    c.loop-at.invariant.1,
  ),
)

pub returns : goal.returns
returns c =
    sym c.loop-at.invariant.0 ∙ kept_end _ _ _ c.loop-at-test.false
