-- `localtime::rule::string_in` meets its contract.
use Rattle.numbers.proofs.Prelude.{ap}
use Rattle.localtime.specs.Local.{or_sixty, string_in}
use Rattle.tzrule.specs.inner.String.{told_string, GoodString}
use Rattle.localtime.proofs.rule.string_in.Goals as goal

pub returns-in-Ok : goal.returns-in-Ok
unfolding string_in or_sixty told_string GoodString
returns-in-Ok c =
    (ap or_sixty c.in-Ok.ensures.0, c.in-Ok.ensures.1)

pub returns-in-Err : goal.returns-in-Err
unfolding string_in or_sixty told_string GoodString
returns-in-Err c =
    (rw c.refuse.ensures (ap or_sixty c.in-Err.ensures.0), tt)
