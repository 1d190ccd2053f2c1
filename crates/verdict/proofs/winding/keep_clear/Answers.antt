-- `verdict::winding::keep_clear` meets its contract: the two tests decide as the definition does.
use Rattle.verdict.specs.Winding.{clear_of}
use Rattle.verdict.proofs.winding.keep_clear.Goals.{else-is_straight-via-then-is_straight+else-in_box, else-is_straight-via-else-is_straight}
use Rattle.verdict.proofs.winding.keep_clear.Goals as goal

pub returns-then-in_box : goal.returns-then-in_box
unfolding clear_of
returns-then-in_box c =
    rw (← c.is_straight.ensures, c.if-is_straight.true, ← c.in_box.ensures, c.if-in_box.true)

pub returns : goal.returns
unfolding clear_of
returns c =
    elim c.else-is_straight.branch [
      | else-is_straight-via-then-is_straight+else-in_box w ↦ rw (← c.is_straight.ensures, w.if-is_straight.true, ← w.in_box.ensures, w.if-in_box.false)
      | else-is_straight-via-else-is_straight w ↦ rw (← c.is_straight.ensures, w.if-is_straight.false)
    ]
