-- `header::opening::open_by` meets its contract.
use Rattle.numbers.{proofs.{Prelude.{ℕ, rules, length, ap, subst, ◌∙◌}, Replies.{passed_on}}, specs.{Lists.{zeros}, Reply.{refused}}}
use Rattle.header.proofs.{Buffers.{of_length, all_zero}, opening.{Replies.{no_head, no_room, opened}}}
use Rattle.header.specs.{Header.{texts_of}, Opening.{Filled}}
use Rattle.std.specs.Prelude.{Option}
use Rattle.header.proofs.opening.open_by.Goals as goal

pub returns-in_err-head : goal.returns-in_err-head
returns-in_err-head c =
    no_head _ _ _ _ (passed_on _ c.from_residual.ensures.1) c.zero.ensures (rw c.in_err-head.was at c.head_by.ensures)

pub returns-in_default : goal.returns-in_default
returns-in_default c =
    no_room _ _ _ c.in_ok-head.head (rw c.in_ok-head.was at c.head_by.ensures) c.write_texts.new.text
    c.zero-in_default.new.text (subst (λ (w : Option ℕ). Filled (texts_of c.args.strict c.args.file.now c.in_ok-head.head.preamble.count) (length c.args.text.now) w c.write_texts.new.text)
    c.in_default.is (subst (λ (n : ℕ). Filled (texts_of c.args.strict c.args.file.now c.in_ok-head.head.preamble.count)
    n c.write_texts.result c.write_texts.new.text) (of_length c.zero.new.text (length c.args.text.now) c.zero.ensures) c.write_texts.ensures))
    (ap refused c.alone.ensures)
    (all_zero c.zero-in_default.new.text (length c.write_texts.new.text) c.zero-in_default.ensures ∙ ap zeros (search rules))

pub returns : goal.returns
returns c =
    opened _ _ _ c.in_ok-head.head (rw c.in_ok-head.was at c.head_by.ensures) c.in-Some.used c.write_texts.new.text (subst (λ (w : Option ℕ). Filled (texts_of
    c.args.strict c.args.file.now c.in_ok-head.head.preamble.count) (length c.args.text.now) w c.write_texts.new.text) c.in-Some.is (subst (λ (n : ℕ). Filled
    (texts_of c.args.strict c.args.file.now c.in_ok-head.head.preamble.count) n c.write_texts.result c.write_texts.new.text) (of_length c.zero.new.text
    (length c.args.text.now) c.zero.ensures) c.write_texts.ensures))
