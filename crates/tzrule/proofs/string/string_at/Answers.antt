-- `tzrule::string::string_at` meets its contract.
use Rattle.numbers.proofs.Prelude.{refl, sym}
use Rattle.tzrule.proofs.{Steps.{got, lost, passed_on}}
use Rattle.tzrule.specs.{inner.String.{told_string, GoodString}}
use Rattle.tzrule.proofs.string.string_at.Goals as goal

pub returns-in_err-tz : goal.returns-in_err-tz
unfolding told_string GoodString
returns-in_err-tz c =
    let e = lost _ _ c.in_err-tz.ensures.0 refl refl in rw (passed_on _ c.from_residual.ensures.1) (sym e.0, e.1)

pub returns : goal.returns
unfolding told_string GoodString
returns c =
    let tz = got _ _ _ c.in_ok-tz.ensures.0 refl refl in (sym tz.1, c.in_ok-tz.ensures.1)
