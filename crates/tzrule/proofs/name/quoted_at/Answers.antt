-- `tzrule::name::quoted_at` meets its contract.
use Rattle.numbers.proofs.Prelude.{sym, ap, ◌∙◌, arith}
use Rattle.tzrule.proofs.{Letters.{quoted_short, quoted_read, quoted_open}, Steps.{met, missed, stands, found, fails, none_ok}}
use Rattle.tzrule.specs.{Answer.{fault}, inner.Reads.{Reads}}
use Rattle.tzrule.proofs.name.quoted_at.Goals as goal

pub returns-then-end-here : goal.returns-then-end-here
unfolding Reads
returns-then-end-here c =
    ((sym (quoted_short _ _ c.name_end-end.ensures.0 c.if-end-here.true), c.name_end-end.ensures.1), tt)

pub returns-in_err-rest : goal.returns-in_err-rest
returns-in_err-rest c =
    let e = missed _ _ c.in_err-rest.ensures in
    (fails _ _ _ c.from_residual.ensures.1 (quoted_open _ _ c.name_end-end.ensures.0 c.if-end-here.false e.0 ∙ ap fault (sym e.1), omega (arith, e.1, c.name_end-end.ensures.1)), none_ok _ _ _ c.from_residual.ensures.1)

pub returns : goal.returns
returns c =
    let close = met _ _ c.in_ok-rest.ensures in let name = quoted_read _ _ c.name_end-end.ensures.0 c.if-end-here.false (stands _ _ close) in
    (found _ _ c.in_ok-rest.rest close.text (rw close.at name), record { ordered = omega arith; inside = c.name_end-end.ensures.1 })
