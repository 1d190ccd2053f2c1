-- `atlas::put::put_marks` meets its contract: how many stretches, then level by level.
use Rattle.numbers.proofs.Prelude.{ℕ, refl, ap, ◌∙◌, mod-eq_of_lt, arith}
use Rattle.marks.{proofs.Marked.{marks_length}, specs.Marks.{marks_from, stretch_edges, group_edges, groups_of}}
use Rattle.atlas.proofs.{Behind.{groups_few}, Standing.{counted_none}, Writing.{levels_stored}}
use Rattle.index.proofs.Stores.{same_word}
use Rattle.atlas.proofs.put.put_marks.Goals as goal

pub returns-then-count-eq0 : goal.returns-then-count-eq0
returns-then-count-eq0 c =
    rw (counted_none c.args.course.count _ c.if-count-eq0.true) (record { place_after = omega arith; stored = refl })

pub put_level-requires : goal.put_level-requires
put_level-requires c = (
  omega (
    arith,
    c.requires.0,
    c.requires.1,
    c.put-second.ensures.place_after,
    c.put_level-third.ensures.place_after,
    marks_length 128 c.args.course.count
        c.args.file.now c.args.encoding c.args.course.first,
  ),
  omega (arith, c.requires.1, c.groups_of-groups.ensures, groups_few c.args.course.count),
)

pub returns : goal.returns
unfolding group_edges stretch_edges
returns c =
    let n = c.args.course.count in
    let s = c.args.course.first in
    let fine = marks_from stretch_edges n c.args.file.now c.args.encoding s in
    let coarse = marks_from group_edges (groups_of n) c.args.file.now c.args.encoding s in
    levels_stored n fine coarse c.if-count-eq0.false (same_word (c.low_of.ensures ∙ mod-eq_of_lt c.requires.1) c.put-second.ensures) c.put_level-third.ensures (ap
    (λ (k : ℕ). marks_from group_edges k c.args.file.now c.args.encoding s) c.groups_of-groups.ensures) c.put_level.ensures
