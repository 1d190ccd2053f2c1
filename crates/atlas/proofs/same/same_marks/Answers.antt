-- `atlas::same::same_marks` meets its contract: how many stretches, then level by level.
use Rattle.numbers.proofs.Prelude.{ℕ, ◌+◌, ◌*◌, length, ◌≡◌, sym, ap, ◌∙◌, mod-eq_of_lt, arith}
use Rattle.index.specs.inner.Own.{is_at}
use Rattle.marks.{proofs.Marked.{marks_length}, specs.Marks.{marks_from, stretch_edges, group_edges, groups_of, levels_from}}
use Rattle.atlas.proofs.{Behind.{groups_few}, Standing.{word_said, counted_none, other_count, other_fine, same_fine}}
use Rattle.atlas.proofs.same.same_marks.Goals as goal

pub returns-then-count-eq0 : goal.returns-then-count-eq0
unfolding is_at
returns-then-count-eq0 c =
    let course = c.args.course in
    sym (ap (is_at c.args.words.now c.args.place) (counted_none course.count (levels_from course.count c.args.file.now c.args.encoding course.first) c.if-count-eq0.true))

pub returns-then-not-is_word : goal.returns-then-not-is_word
returns-then-not-is_word c =
    let said = word_said c.args.words.now c.args.place c.is_word.ensures (c.low_of.ensures ∙ mod-eq_of_lt c.requires.1) in
    let fine = marks_from stretch_edges c.args.course.count c.args.file.now c.args.encoding c.args.course.first in
    let coarse = marks_from group_edges (groups_of c.args.course.count) c.args.file.now c.args.encoding c.args.course.first in
    other_count c.args.words.now c.args.place c.args.course.count fine coarse c.if-count-eq0.false (sym said ∙ c.if-not-is_word.true)

pub returns-then-not-same_level : goal.returns-then-not-same_level
unfolding stretch_edges
returns-then-not-same_level c =
    let said = word_said c.args.words.now c.args.place c.is_word.ensures (c.low_of.ensures ∙ mod-eq_of_lt c.requires.1) in
    let fine = marks_from stretch_edges c.args.course.count c.args.file.now c.args.encoding c.args.course.first in
    let coarse = marks_from group_edges (groups_of c.args.course.count) c.args.file.now c.args.encoding c.args.course.first in
    other_fine c.args.words.now c.args.place c.args.course.count fine coarse c.if-count-eq0.false (sym said ∙ c.if-not-is_word.false) (sym c.same_level.ensures
    ∙ c.if-not-same_level.true)

pub same_level-requires-2 : goal.same_level-requires-2
same_level-requires-2 c =
    (omega (arith, c.requires.0, c.requires.1), omega (arith, c.requires.1, c.groups_of-groups.ensures, groups_few c.args.course.count))

pub returns : goal.returns
unfolding group_edges stretch_edges
returns c =
    let words = c.args.words.now in
    let n = c.args.course.count in
    let s = c.args.course.first in
    let said = word_said words c.args.place c.is_word.ensures (c.low_of.ensures ∙ mod-eq_of_lt c.requires.1) in
    let fine = marks_from stretch_edges n c.args.file.now c.args.encoding s in
    let coarse = marks_from group_edges (groups_of n) c.args.file.now c.args.encoding s in
    let far : c.args.place + 1 + 11 * n ≡ c.args.place + 1 + length fine = omega (arith, marks_length stretch_edges n c.args.file.now c.args.encoding s) in
    let groups = c.same_level-2.ensures ∙ ap (λ (k : ℕ). is_at words (c.args.place + 1 + 11 * n) (marks_from group_edges k c.args.file.now c.args.encoding s))
    c.groups_of-groups.ensures in
    same_fine words c.args.place n fine coarse c.if-count-eq0.false (sym said ∙ c.if-not-is_word.false) (sym c.same_level.ensures ∙ c.if-not-same_level.false) far groups
