-- `atlas::course::course_at` meets its contract.
use Rattle.numbers.proofs.Prelude.{sym, ap, ◌∙◌, arith}
use Rattle.marks.specs.Marks.{stretches_from}
use Rattle.atlas.proofs.{Courses.{no_course, a_course, stretches_few}, Nexts.{point_of}}
use Rattle.atlas.proofs.course.course_at.Goals as goal

pub returns-in_default : goal.returns-in_default
returns-in_default c =
    (no_course _ _ _ c.open_border-start.ensures c.next_point.result c.next_point.ensures (sym c.unwrap_or.ensures ∙ c.in_default.is) _, omega arith)

pub returns : goal.returns
returns c =
    let count = c.stretches_of-count.ensures ∙ ap stretches_from c.edges_from-edges.ensures in (
      a_course _ _ _ c.open_border-start.ensures c.in-Some.first (point_of c.next_point.result (sym c.unwrap_or.ensures ∙ c.in-Some.is) c.next_point.ensures) count,
      omega (arith, count, stretches_few c.args.file.now c.args.encoding c.in-Some.first),
    )
