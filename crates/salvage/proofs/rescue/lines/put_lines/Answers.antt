-- `salvage::rescue::lines::put_lines` meets its contract.
use Rattle.numbers.proofs.Prelude.{arith}
use Rattle.salvage.proofs.rescue.lines.{Listing.{Turned, turned, lists_start, lists_keep, lists_drop, lists_stop, lists_end}}
use Rattle.salvage.proofs.rescue.lines.put_lines.Goals as goal
use Rattle.salvage.specs.declared.rescue.lines.Turn.TheVariants as T

pub loop-at-init : goal.loop-at-init
loop-at-init c = lists_start _ _ _ c.start_at-at.ensures

-- ---- an entry that is kept
pub loop-at-smaller-in-Kept : goal.loop-at-smaller-in-Kept
loop-at-smaller-in-Kept c =
    let kept : Turned c.args.file.now c.args.head c.loop-at.number c.loop-at.at (T.Kept c.in-Kept.next) =
    turned c.args.file.now c.args.head c.loop-at.number c.loop-at.at c.loop-at-test.true c.in-Kept.ensures in
    omega (arith, kept.2)

pub loop-at-preserved-in-Kept : goal.loop-at-preserved-in-Kept
loop-at-preserved-in-Kept c =
    lists_keep _ _ _ c.loop-at.invariant _ (turned c.args.file.now c.args.head c.loop-at.number c.loop-at.at c.loop-at-test.true c.in-Kept.ensures)

-- ---- one that is dropped
pub loop-at-smaller : goal.loop-at-smaller
loop-at-smaller c =
    let dropped : Turned c.args.file.now c.args.head c.loop-at.number c.loop-at.at (T.Dropped c.in-Dropped.dropped) =
    turned c.args.file.now c.args.head c.loop-at.number c.loop-at.at c.loop-at-test.true c.in-Dropped.ensures in
    omega (arith, dropped.2)

pub loop-at-preserved : goal.loop-at-preserved
loop-at-preserved c =
    lists_drop _ _ _ c.loop-at.invariant c.in-Dropped.dropped
    (turned c.args.file.now c.args.head c.loop-at.number c.loop-at.at c.loop-at-test.true c.in-Dropped.ensures) c.put_line-words.ensures

-- ---- one that can't be read
pub returns-in-Unreadable : goal.returns-in-Unreadable
returns-in-Unreadable c =
    lists_stop _ _ _ c.loop-at.invariant
    (turned c.args.file.now c.args.head c.loop-at.number c.loop-at.at c.loop-at-test.true c.in-Unreadable.ensures)
    c.put_line-next.ensures (rw c.number.ensures at c.put_line-last.ensures)

pub returns : goal.returns
returns c = lists_end _ _ _ c.loop-at.invariant c.loop-at-test.false
