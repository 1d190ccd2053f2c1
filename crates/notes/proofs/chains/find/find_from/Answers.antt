-- `notes::chains::find::find_from` meets its contract.
use Rattle.numbers.proofs.Prelude.{◌+◌, ◌-◌, refl, arith}
use Rattle.notes.proofs.chains.{Walking.{other_room, walk_starts, walk_refused, walk_ends, walk_found, walk_forged, walk_goes}}
use Rattle.notes.proofs.chains.find.find_from.Goals as goal

pub returns-then-item-from : goal.returns-then-item-from
returns-then-item-from c =
    walk_refused _ _ _ _ _ _ c.if-item-from.true

pub loop-at-init : goal.loop-at-init
loop-at-init c =
    walk_starts _ _ _ _ _ _ c.if-item-from.false

pub overflow_mul-item : goal.overflow_mul-item
overflow_mul-item c =
    omega (arith, other_room c.args.item c.args.item c.args.width _ c.requires.0 (omega arith))

pub overflow_mul-other : goal.overflow_mul-other
overflow_mul-other c =
    omega (arith, other_room c.args.item (c.loop-at.at - 1) c.args.width _ c.requires.0 (omega (arith, c.loop-at.invariant.within)))

pub same_items-requires : goal.same_items-requires
same_items-requires c =
    (other_room _ _ _ _ c.requires.0 (omega arith), other_room _ _ _ _ c.requires.0 (omega (arith, c.loop-at.invariant.within)))

pub returns-then-same_items : goal.returns-then-same_items
returns-then-same_items c =
    walk_found _ _ _ _ _ _ _ c.loop-at.invariant c.loop-at-test.true _ c.same_items.ensures c.if-same_items.true

pub overflow_cast-next : goal.overflow_cast-next
overflow_cast-next c =
    omega (arith, c.type_inv.chain (4096 + (c.loop-at.at - 1)))

pub returns-then-other-next : goal.returns-then-other-next
returns-then-other-next c =
    walk_forged _ _ _ _ _ _ _ c.loop-at.invariant c.loop-at-test.true _ c.same_items.ensures c.if-same_items.false _ refl c.if-other-next.true

pub loop-at-smaller : goal.loop-at-smaller
loop-at-smaller c =
    omega (arith, c.if-other-next.false, c.loop-at-test.true)

pub loop-at-preserved : goal.loop-at-preserved
loop-at-preserved c =
    walk_goes _ _ _ _ _ _ _ c.loop-at.invariant c.loop-at-test.true _ c.same_items.ensures c.if-same_items.false _ refl c.if-other-next.false

pub returns : goal.returns
returns c =
    walk_ends _ _ _ _ _ _ _ c.loop-at.invariant c.loop-at-test.false
