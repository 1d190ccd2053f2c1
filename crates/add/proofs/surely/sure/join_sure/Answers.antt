-- `add::surely::sure::join_sure` meets its contract.
use Rattle.numbers.proofs.Prelude.{refl, arith}
use Rattle.notes.proofs.noted.Noting.{yard_next}
use Rattle.add.proofs.surely.{Joined.{joins_none, joins_unsure, joins_refused, joins_into, sure_marked}}
use Rattle.add.proofs.surely.sure.join_sure.Goals as goal

pub returns-then-noted-eq0 : goal.returns-then-noted-eq0
returns-then-noted-eq0 c =
    joins_none c.args.builder c.args.noted c.args.strings c.args.size c.args.sizes.now c.args.boxes.now c.args.borders.now c.args.texts.now c.args.marks.now
    c.args.chains.now c.args.groups.now c.args.begins.now

pub returns-then-texts-gt536870912 : goal.returns-then-texts-gt536870912
returns-then-texts-gt536870912 c =
    joins_none c.args.builder c.args.noted c.args.strings c.args.size c.args.sizes.now c.args.boxes.now c.args.borders.now c.args.texts.now c.args.marks.now
    c.args.chains.now c.args.groups.now c.args.begins.now

pub unmark_yard-requires : goal.unmark_yard-requires
unmark_yard-requires c = (
  c.requires.room.few_names,
  c.requires.room.few_yards,
  omega (
    arith,
    c.requires.room.noted.marked,
    c.marks-1.given,
    yard_next c.args.builder.yards
        c.args.builder.names,
  ),
)

pub returns-in-Err : goal.returns-in-Err
returns-in-Err c =
    joins_refused c.args.builder c.args.noted c.args.strings c.args.size c.args.sizes.now c.args.boxes.now c.args.borders.now c.args.texts.now c.args.marks.now
    c.args.chains.now c.args.groups.now c.args.begins.now _ _ _ c.requires c.if-noted-eq0.false c.mark_yard.ensures c.weigh_yard-weighed.ensures
    c.grow_surely-growth.ensures _ c.unmark_yard-in-Err.ensures _ c.in-Err.is

pub returns-in-Ok-None : goal.returns-in-Ok-None
returns-in-Ok-None c =
    joins_unsure c.args.builder c.args.noted c.args.strings c.args.size c.args.sizes.now c.args.boxes.now c.args.borders.now c.args.texts.now c.args.marks.now
    c.args.chains.now c.args.groups.now c.args.begins.now _ _ _ c.requires c.if-noted-eq0.false c.mark_yard.ensures c.weigh_yard-weighed.ensures
    c.grow_surely-growth.ensures _ c.unmark_yard.ensures

pub note_step-requires : goal.note_step-requires
note_step-requires c =
    sure_marked _ _ _ _ _ _ _ _ c.requires.room c.marks-1.given

pub returns : goal.returns
returns c =
    joins_into c.args.builder c.args.noted c.args.strings c.args.size c.args.sizes.now c.args.boxes.now c.args.borders.now c.args.texts.now c.args.marks.now
    c.args.chains.now c.args.groups.now c.args.begins.now _ _ _ c.requires c.if-noted-eq0.false c.mark_yard.ensures c.weigh_yard-weighed.ensures
    c.grow_surely-growth.ensures c.in-Ok-Some.next (rw (c.in-Ok-Some.is, rw c.in-Ok-Some.is at c.in-Ok-Some.field-0-is) refl) _ _ _ c.note_step.ensures.0 c.note_step.ensures.1
