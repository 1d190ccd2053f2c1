-- `atlas::entry::put_one` meets its contract.
use Rattle.numbers.proofs.Prelude.{ℕ, ◌+◌, length, List, ap, ◌∙◌, arith}
use Rattle.atlas.specs.inner.{Building.{marks_at_record}, Marking.{marks_of}}
use Rattle.atlas.proofs.{Behind.{entry_is, marks_size, size_few, put_one}}
use Rattle.atlas.proofs.entry.put_one.Goals as goal

pub returns : goal.returns
returns c =
    let is = (λ i. marks_of c.args.file.now (c.encoding_of-encoding.ensures i) c.course_of-course.result) ∙ c.course_of-course.ensures.0 in
    let after = c.put_marks-next.ensures.place_after ∙ ap (λ (l : List ℕ). c.args.at + length l) is in
    let word = c.entry_for-word.ensures ∙ entry_is c.args.at c.put_marks-next.result c.args.first (marks_at_record c.args.file.now c.args.head c.args.words.now
    c.args.k) after (omega (arith, c.requires.2)) in (
      put_one is c.put_marks-next.ensures word c.put.ensures,
      omega (
        arith,
        c.put_marks-next.ensures.place_after,
        marks_size c.args.file.now
            c.encoding_of-encoding.result c.course_of-course.result,
        size_few c.course_of-course.result.count c.course_of-course.ensures.1,
      ),
    )
