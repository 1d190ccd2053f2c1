-- `header::header::read_sections` meets its contract.
use Rattle.numbers.{proofs.{Prelude.{ap, ◌∙◌, arith}, Replies.{passed_on}}, specs.Reply.{refused}}
use Rattle.header.proofs.header.{Sizes.{size_place, no_first, no_second, too_far, no_third, all_three}}
use Rattle.header.proofs.header.read_sections.Goals as goal

pub returns-in_err-first : goal.returns-in_err-first
returns-in_err-first c =
    passed_on _ c.from_residual.ensures.1 ∙ no_first _ _ _ _ (rw c.in_err-first.was at c.read_size.ensures)

pub returns-in_err-second : goal.returns-in_err-second
returns-in_err-second c =
    passed_on _ c.from_residual-in_err-second.ensures.1 ∙ no_second _ _ _ _ (rw c.in_ok-first.was at c.read_size.ensures) _ (rw c.in_err-second.was at c.read_size-2.ensures)

pub returns-then-data-gt4294967295 : goal.returns-then-data-gt4294967295
returns-then-data-gt4294967295 c =
    ap refused c.alone.ensures ∙ too_far _ _ _ _ (rw c.in_ok-first.was at c.read_size.ensures) _ (rw c.in_ok-second.was at c.read_size-2.ensures) (omega (
      arith,
      c.if-data-gt4294967295.true,
    ))

pub returns-in_err-third : goal.returns-in_err-third
returns-in_err-third c =
    passed_on _ c.from_residual-in_err-third.ensures.1 ∙ no_third _ _ _ _ (rw c.in_ok-first.was at c.read_size.ensures) _ (rw c.in_ok-second.was at c.read_size-2.ensures) (omega (
      arith,
      c.if-data-gt4294967295.false,
    )) _ (rw c.in_err-third.was at c.read_size-3.ensures)

pub sections_from-requires : goal.sections_from-requires
sections_from-requires c =
    (omega (arith, size_place _ _ _ _ (rw c.in_ok-third.was at c.read_size-3.ensures), c.requires), omega arith)

pub returns : goal.returns
returns c =
    c.sections_from.ensures ∙ all_three _ _ _ _ (rw c.in_ok-first.was at c.read_size.ensures) _ (rw c.in_ok-second.was at c.read_size-2.ensures) (omega (
      arith,
      c.if-data-gt4294967295.false,
    )) _ (rw c.in_ok-third.was at c.read_size-3.ensures)
