-- `header::field::write_field` meets its contract.
use Rattle.numbers.{proofs.{Prelude.{◌≡◌, ap, arith}, Replies.{passed_on}}, specs.Reply.{given, refused}}
use Rattle.header.proofs.{Strings.{Lies, part_length}, field.{Fields.{bad, lies, no_room, whole}}}
use Rattle.header.specs.Text.{text_at}
-- ---- where a string was read
use Rattle.header.proofs.field.write_field.Goals as goal

pub returns-in_err-string : goal.returns-in_err-string
returns-in_err-string c =
    bad _ _ _ _ _ _ (passed_on _ c.from_residual.ensures.1) (rw c.in_err-string.was at c.read_text.ensures)

pub overflow_add-size : goal.overflow_add-size
overflow_add-size c =
    let read : given c.in_ok-string.string ≡ text_at c.args.strict c.args.file.now c.args.metadata c.args.place (record { number = 15; detail = 0 }) = rw c.in_ok-string.was at
    c.read_text.ensures in
    let lying : Lies c.args.file.now c.in_ok-string.string = lies c.args.strict _ c.args.metadata c.args.place c.args.tag c.args.text.now _ read in
    omega (arith, lying.short)

pub returns-then-text-size : goal.returns-then-text-size
returns-then-text-size c =
    let read : given c.in_ok-string.string ≡ text_at c.args.strict c.args.file.now c.args.metadata c.args.place (record { number = 15; detail = 0 }) = rw c.in_ok-string.was at
    c.read_text.ensures in
    no_room _ _ _ _ _ _ _ read _ (ap refused c.alone.ensures) c.if-text-size.true

pub overflow_add-start : goal.overflow_add-start
overflow_add-start c =
    let read : given c.in_ok-string.string ≡ text_at c.args.strict c.args.file.now c.args.metadata c.args.place (record { number = 15; detail = 0 }) = rw c.in_ok-string.was at
    c.read_text.ensures in
    let lying : Lies c.args.file.now c.in_ok-string.string = lies c.args.strict _ c.args.metadata c.args.place c.args.tag c.args.text.now _ read in
    omega (arith, lying.inside)

pub slice_bounds-put_field-end : goal.slice_bounds-put_field-end
slice_bounds-put_field-end c =
    let read : given c.in_ok-string.string ≡ text_at c.args.strict c.args.file.now c.args.metadata c.args.place (record { number = 15; detail = 0 }) = rw c.in_ok-string.was at
    c.read_text.ensures in
    let lying : Lies c.args.file.now c.in_ok-string.string = lies c.args.strict _ c.args.metadata c.args.place c.args.tag c.args.text.now _ read in
    omega (arith, lying.inside)

pub put_field-requires : goal.put_field-requires
put_field-requires c =
    let read : given c.in_ok-string.string ≡ text_at c.args.strict c.args.file.now c.args.metadata c.args.place (record { number = 15; detail = 0 }) = rw c.in_ok-string.was at
    c.read_text.ensures in
    let lying : Lies c.args.file.now c.in_ok-string.string = lies c.args.strict _ c.args.metadata c.args.place c.args.tag c.args.text.now _ read in
    let l = lying in
    let p = part_length _ _ l in
    (omega (arith, p, c.if-text-size.false), omega (arith, p, l.short))

pub returns : goal.returns
returns c =
    let read : given c.in_ok-string.string ≡ text_at c.args.strict c.args.file.now c.args.metadata c.args.place (record { number = 15; detail = 0 }) = rw c.in_ok-string.was at
    c.read_text.ensures in
    whole _ _ _ _ _ c.args.text.now _ read _ c.if-text-size.false c.put_field.ensures
