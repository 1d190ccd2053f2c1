-- `add::afresh::note::note_afresh` meets its contract.
use Rattle.numbers.proofs.Prelude.{length-take-le, sym}
use Rattle.build.proofs.Needed.{under}
use Rattle.add.proofs.afresh.{Noting.{marks_room, yards_room, sums_small, never_long, never_other, marks_size, marks_front, marks_made, noted_lists}}
use Rattle.add.proofs.afresh.note.note_afresh.Goals as goal

pub returns-then-texts-gt536870912 : goal.returns-then-texts-gt536870912
returns-then-texts-gt536870912 c =
    λ yards v. never_long yards _ _ _ _ _ v c.requires.few_names c.requires.few_yards c.requires.all c.if-texts-gt536870912.true _

pub returns-then-not-is_sum : goal.returns-then-not-is_sum
returns-then-not-is_sum c =
    λ yards v. never_other yards _ _ _ _ _ v _ c.is_sum.ensures c.if-not-is_sum.true _

pub slice_bounds-mark_starts-end-2 : goal.slice_bounds-mark_starts-end-2
slice_bounds-mark_starts-end-2 c =
    sym (length-take-le _ c.zero_words.new.hits (under _ _ _ (marks_room _ _ c.args.lengths.now _ _ _ _ _ c.requires) c.marks-1.given))

pub mark_starts-requires : goal.mark_starts-requires
mark_starts-requires c = (
  length-take-le _ c.zero_words.new.hits (under _ _ _ (marks_room _ _ c.args.lengths.now _ _ _ _ _ c.requires) c.marks-1.given),
  sums_small c.args.lengths.now
      c.args.texts.now c.if-texts-gt536870912.false _ c.is_sum.ensures c.if-not-is_sum.false,
)

pub slice_bounds-note_yards-end-2 : goal.slice_bounds-note_yards-end-2
slice_bounds-note_yards-end-2 c =
    sym (marks_size c.args.lengths.now c.zero_words.new.hits _ _ c.zero_words.ensures c.mark_starts.ensures (marks_room _ _ c.args.lengths.now _ _ _ _ _ c.requires)
    c.marks-2-1.given.0)

pub note_yards-requires : goal.note_yards-requires
note_yards-requires c =
    yards_room _ _ c.args.lengths.now _ _ _ _ _ c.requires _ (marks_size c.args.lengths.now c.zero_words.new.hits _ _ c.zero_words.ensures c.mark_starts.ensures
    (marks_room _ _ c.args.lengths.now _ _ _ _ _ c.requires) c.marks-2-1.given.0)

pub returns : goal.returns
returns c =
    λ yards v. noted_lists yards _ _ _ _ _ v c.requires.all _ _ _ _ _ _ (marks_made c.args.lengths.now c.zero_words.new.hits _ _ c.zero_words.ensures
    c.mark_starts.ensures (marks_room _ _ c.args.lengths.now _ _ _ _ _ c.requires) c.marks-2-1.given.0) (marks_front c.args.lengths.now c.zero_words.new.hits _ _
    c.zero_words.ensures c.mark_starts.ensures (marks_room _ _ c.args.lengths.now _ _ _ _ _ c.requires) c.marks-2-1.given.0) c.note_yards.ensures c.gather.ensures
