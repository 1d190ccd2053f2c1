-- `header::header::head_by` meets its contract.
use Rattle.numbers.proofs.{Prelude.{◌∙◌}, Replies.{passed_on}}
use Rattle.header.proofs.header.{Heads.{no_preamble, no_texts, no_sections, whole}, Texts.{short_enough}}
use Rattle.header.proofs.header.head_by.Goals as goal

pub returns-in_err-preamble : goal.returns-in_err-preamble
returns-in_err-preamble c =
    passed_on _ c.from_residual.ensures.1 ∙ no_preamble _ _ _ (rw c.in_err-preamble.was at c.read_preamble.ensures)

pub returns-in_err-place : goal.returns-in_err-place
returns-in_err-place c =
    passed_on _ c.from_residual-in_err-place.ensures.1 ∙ no_texts _ _ _ (rw c.in_ok-preamble.was at c.read_preamble.ensures) _ (rw c.in_err-place.was at c.skip_texts.ensures)

pub read_sections-requires : goal.read_sections-requires
read_sections-requires c =
    short_enough _ _ (rw c.in_ok-preamble.was at c.read_preamble.ensures)

pub returns-in_err-sections : goal.returns-in_err-sections
returns-in_err-sections c =
    passed_on _ c.from_residual-in_err-sections.ensures.1 ∙ no_sections _ _ _ (rw c.in_ok-preamble.was at c.read_preamble.ensures) _ (rw c.in_ok-place.was at c.skip_texts.ensures) _
    (rw c.in_err-sections.was at c.read_sections.ensures)

pub returns : goal.returns
returns c =
    whole _ _ _ (rw c.in_ok-preamble.was at c.read_preamble.ensures) _ (rw c.in_ok-place.was at c.skip_texts.ensures) _ (rw c.in_ok-sections.was at c.read_sections.ensures)
