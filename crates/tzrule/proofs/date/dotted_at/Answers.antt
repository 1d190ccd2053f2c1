-- `tzrule::date::dotted_at` meets its contract.
use Rattle.numbers.proofs.Prelude.{refl, sym, ap, arith}
use Rattle.tzrule.proofs.{Steps.{met, missed, stands, ends, fails, none_ok}}
use Rattle.tzrule.specs.{Answer.{fault}, Grammar.{dotted_of}}
use Rattle.tzrule.proofs.date.dotted_at.Goals as goal

pub returns-in_err-behind : goal.returns-in_err-behind
unfolding dotted_of
returns-in_err-behind c =
    let e = missed _ _ c.in_err-behind.ensures in
    (fails _ _ _ c.from_residual.ensures.1 (simp e.0 (ap fault (sym e.1)), omega (arith, e.1, c.args.here.inside)), none_ok _ _ _ c.from_residual.ensures.1)

pub returns : goal.returns
unfolding dotted_of
returns c =
    let dot = met _ _ c.in_ok-behind.ensures in (ends _ _ _ c.number.ensures.0 dot.text dot.at _ refl _ (simp (stands _ _ dot)), c.number.ensures.1)
