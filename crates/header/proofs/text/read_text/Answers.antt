-- `header::text::read_text` meets its contract.
use Rattle.numbers.{proofs.{Answers.{chosen, other}, Prelude.{◌≡◌, sym, ap, ◌∙◌, arith}, Replies.{passed_on}}, specs.{Answer.{found}, Reply.{refused}}}
use Rattle.header.proofs.{Strings.{string_lies, part_is, blamed, given_found}}
use Rattle.header.specs.{Text.{or_blamed, string_at, text_at}, Utf8.{is_utf8}}
use Rattle.header.proofs.text.read_text.Goals as goal

pub returns-in_err-text : goal.returns-in_err-text
unfolding text_at
returns-in_err-text c =
    passed_on _ c.from_residual.ensures.1 ∙ blamed c.args.file.now c.args.blame (string_at c.args.strict c.args.file.now c.args.metadata c.args.place)
    (rw (c.undecoded.ensures, c.in_err-text.was, c.read_string.ensures) at c.or_refuse.ensures)

pub overflow_add-end : goal.overflow_add-end
overflow_add-end c =
    let read : found c.in_ok-text.text ≡ string_at c.args.strict c.args.file.now c.args.metadata c.args.place = given_found _ _ (rw (c.in_ok-text.was, c.read_string.ensures) at c.or_refuse.ensures) in
    omega (arith, (string_lies c.args.file.now c.in_ok-text.text _ _ _ read).inside)

pub slice_bounds-is_utf8-end : goal.slice_bounds-is_utf8-end
slice_bounds-is_utf8-end c =
    let read : found c.in_ok-text.text ≡ string_at c.args.strict c.args.file.now c.args.metadata c.args.place = given_found _ _ (rw (c.in_ok-text.was, c.read_string.ensures) at c.or_refuse.ensures) in
    omega (arith, (string_lies c.args.file.now c.in_ok-text.text _ _ _ read).inside)

pub returns : goal.returns
unfolding text_at
returns c =
    let read : found c.in_ok-text.text ≡ string_at c.args.strict c.args.file.now c.args.metadata c.args.place = given_found _ _ (rw (c.in_ok-text.was, c.read_string.ensures) at c.or_refuse.ensures) in
    chosen (sym (ap is_utf8 (part_is c.args.file.now c.in_ok-text.text)) ∙ sym c.is_utf8.ensures ∙ c.if-not-is_utf8.false) _ _
    ∙ ap (or_blamed c.args.file.now c.args.blame) read

pub returns-then-not-is_utf8 : goal.returns-then-not-is_utf8
unfolding text_at
returns-then-not-is_utf8 c =
    let read : found c.in_ok-text.text ≡ string_at c.args.strict c.args.file.now c.args.metadata c.args.place = given_found _ _ (rw (c.in_ok-text.was, c.read_string.ensures) at c.or_refuse.ensures) in
    ap refused c.not_utf8.ensures ∙ other (sym (ap is_utf8 (part_is c.args.file.now c.in_ok-text.text)) ∙ sym c.is_utf8.ensures ∙ c.if-not-is_utf8.true) _ _
    ∙ ap (or_blamed c.args.file.now c.args.blame) read
