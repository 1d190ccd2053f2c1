-- `atlas::entry::same_one` meets its contract.
use Rattle.numbers.{proofs.Prelude.{ℕ, ◌+◌, length, sym, ap, ◌∙◌, arith}, specs.Reply.{refused}}
use Rattle.atlas.specs.inner.{Building.{marks_at_record}, Marking.{marks_of}}
use Rattle.atlas.proofs.{Behind.{entry_is, marks_size, size_few}, Owned.{other_word, other_marks, marks_so}}
use Rattle.atlas.proofs.entry.same_one.Goals as goal

pub returns-then-not-is_word : goal.returns-then-not-is_word
returns-then-not-is_word c =
    let is = (λ i. marks_of c.args.file.now (c.encoding_of-encoding.ensures i) c.course_of-course.result) ∙ c.course_of-course.ensures.0 in
    let size = c.size_of.ensures.0 ∙ sym (marks_size c.args.file.now c.encoding_of-encoding.result c.course_of-course.result) in
    let word = c.entry_for-word.ensures ∙ entry_is c.args.at (c.args.at + c.size_of.result) c.args.first (marks_at_record c.args.file.now c.args.head
    c.args.words.now c.args.k) (ap (λ (n : ℕ). c.args.at + n) (size ∙ ap length is)) (omega (arith, c.requires.1)) in (
      ap refused c.alone.ensures ∙ other_word c.args.words.now (c.args.first + c.args.k) c.args.at word is (sym c.is_word.ensures
          ∙ c.if-not-is_word.true),
      omega (
        arith,
        ap length is,
        marks_size c.args.file.now c.encoding_of-encoding.result c.course_of-course.result,
        size_few
            c.course_of-course.result.count c.course_of-course.ensures.1,
      ),
    )

pub returns-then-not-same_marks : goal.returns-then-not-same_marks
returns-then-not-same_marks c =
    let is = (λ i. marks_of c.args.file.now (c.encoding_of-encoding.ensures i) c.course_of-course.result) ∙ c.course_of-course.ensures.0 in
    let size = c.size_of.ensures.0 ∙ sym (marks_size c.args.file.now c.encoding_of-encoding.result c.course_of-course.result) in
    let word = c.entry_for-word.ensures ∙ entry_is c.args.at (c.args.at + c.size_of.result) c.args.first (marks_at_record c.args.file.now c.args.head
    c.args.words.now c.args.k) (ap (λ (n : ℕ). c.args.at + n) (size ∙ ap length is)) (omega (arith, c.requires.1)) in (
      ap refused c.alone-then-not-same_marks.ensures ∙ other_marks c.args.words.now (c.args.first + c.args.k) c.args.at word is (sym c.is_word.ensures ∙ c.if-not-is_word.false) (sym c.same_marks.ensures
          ∙ c.if-not-same_marks.true),
      omega (
        arith,
        ap length is,
        marks_size c.args.file.now c.encoding_of-encoding.result c.course_of-course.result,
        size_few
            c.course_of-course.result.count c.course_of-course.ensures.1,
      ),
    )

pub returns : goal.returns
returns c =
    let is = (λ i. marks_of c.args.file.now (c.encoding_of-encoding.ensures i) c.course_of-course.result) ∙ c.course_of-course.ensures.0 in
    let size = c.size_of.ensures.0 ∙ sym (marks_size c.args.file.now c.encoding_of-encoding.result c.course_of-course.result) in
    let word = c.entry_for-word.ensures ∙ entry_is c.args.at (c.args.at + c.size_of.result) c.args.first (marks_at_record c.args.file.now c.args.head
    c.args.words.now c.args.k) (ap (λ (n : ℕ). c.args.at + n) (size ∙ ap length is)) (omega (arith, c.requires.1)) in (
      marks_so c.args.words.now (c.args.first + c.args.k) c.args.at word is (sym c.is_word.ensures ∙ c.if-not-is_word.false) (sym c.same_marks.ensures
          ∙ c.if-not-same_marks.false) (ap (λ (n : ℕ). c.args.at + n) size),
      omega (
        arith,
        ap length is,
        marks_size c.args.file.now c.encoding_of-encoding.result
            c.course_of-course.result,
        size_few c.course_of-course.result.count c.course_of-course.ensures.1,
      ),
    )
