-- `add::joining::settle::settle` meets its contract.
use Rattle.numbers.proofs.Prelude.{refl, arith}
use Rattle.draft.proofs.summed.Resting.{idle_as}
use Rattle.add.specs.Joining.Joins.{idle, untouched}
use Rattle.add.proofs.joining.{Settling.{values_few, joinable, measurable, notes_as, settled_into, settled_not, settled_afresh}}
use Rattle.add.proofs.joining.settle.settle.Goals as goal

pub overflow_mul-last : goal.overflow_mul-last
overflow_mul-last c =
    omega (arith, values_few _ _ _ _ _ c.args.lengths.now c.args.texts.now _ _ _ _ _ c.requires)

pub overflow_add-last-2 : goal.overflow_add-last-2
overflow_add-last-2 c =
    omega (arith, values_few _ _ _ _ _ c.args.lengths.now c.args.texts.now _ _ _ _ _ c.requires, c.requires.few_names)

pub join_sure-sure-requires : goal.join_sure-sure-requires
join_sure-sure-requires c =
    joinable _ _ _ _ _ c.args.lengths.now c.args.texts.now _ _ _ _ _ c.requires

pub returns-in-Ok-Some : goal.returns-in-Ok-Some
returns-in-Ok-Some c =
    (settled_into _ _ _ _ _ _ _ _ _ _ _ _ c.requires _ _ _ _ _ _ c.join_sure-sure.ensures c.in-Ok-Some.next (rw (c.in-Ok-Some.is, rw c.in-Ok-Some.is at c.in-Ok-Some.field-0-is) refl), untouched refl)

pub returns-in-Err : goal.returns-in-Err
returns-in-Err c =
    (settled_not _ _ _ _ _ _ _ _ _ _ _ _ c.requires _ _ _ _ _ _ c.join_sure-sure.ensures _ c.in-Err.is, untouched refl)

pub slice_bounds-join_afresh-end : goal.slice_bounds-join_afresh-end
slice_bounds-join_afresh-end c =
    omega (arith, c.requires.lengths_room)

pub slice_bounds-join_afresh-count-2 : goal.slice_bounds-join_afresh-count-2
slice_bounds-join_afresh-count-2 c =
    omega (arith, c.requires.order, c.requires.longer)

pub slice_bounds-join_afresh-start-2 : goal.slice_bounds-join_afresh-start-2
slice_bounds-join_afresh-start-2 c =
    omega (arith, c.requires.order, c.requires.longer)

pub slice_bounds-join_afresh-end-2 : goal.slice_bounds-join_afresh-end-2
slice_bounds-join_afresh-end-2 c =
    c.requires.texts_room

pub join_afresh-added-requires : goal.join_afresh-added-requires
join_afresh-added-requires c =
    (measurable _ _ _ _ _ _ _ _ _ _ _ _ c.requires, notes_as _ _ _ _ _ _ _ _ _ _ c.marks-1.given c.chains-1.given c.groups-1.given c.begins-1.given c.requires.noted)

pub returns : goal.returns
returns c = (
  settled_afresh _ _ _ _ _ _ _ _ _ _ _ _ c.requires _ _ _ _ _ _ c.join_sure-sure.ensures (rw (c.in-Ok-None.is, rw c.in-Ok-None.is at c.in-Ok-None.field-0-is) refl) _ _ c.join_afresh-added.ensures,
  idle
      (idle_as _ _ _ c.starts-1.given c.keys-1.given c.spare-1.given c.kept-1.given c.held-1.given c.words-1.given c.places-1.given c.rest_work.ensures),
)
