-- `marks::judge::is_below` meets its contract, in each arm.
use Rattle.numbers.proofs.Prelude.{ℕ, ltb, Bool, true, false, ◌≡◌, refl, sym, ◌∙◌, lt-ltb, le-ltb, arith}
use Rattle.numbers.proofs.Tests.{differ}
use Rattle.std.specs.Prelude.{Option, Some, None, is_some}
use Rattle.verdict.specs.{Verdict.{judged_by}, declared.step.Verdict.{Verdict}}
use Rattle.marks.specs.Judging.{is_below}
use Rattle.marks.proofs.judge.is_below.Goals as goal

some : (near least : ℕ) (verdict : Option Verdict) → is_some verdict ≡ true → is_below near (judged_by least verdict) ≡ ltb least near
unfolding is_below
some near least (Some verdict) e = refl
some near least None e = differ e

none : (near least : ℕ) (verdict : Option Verdict) → is_some verdict ≡ false → is_below near (judged_by least verdict) ≡ false
unfolding is_below
none near least (Some verdict) e = differ (sym e)
none near least None e = refl

pub returns-then-is_some : goal.returns-then-is_some
returns-then-is_some c =
    let j = c.in-Ok.judged in
    rw (c.in-Ok.is, some c.args.near j.least j.verdict (sym c.is_some.ensures ∙ c.if-is_some.true))

pub returns-else-is_some : goal.returns-else-is_some
returns-else-is_some c =
    let j = c.in-Ok.judged in
    rw c.in-Ok.is (c.if-is_some.false ∙ sym (none c.args.near j.least j.verdict (sym c.is_some.ensures ∙ c.if-is_some.false)))

pub returns-in-Err : goal.returns-in-Err
unfolding is_below
returns-in-Err c =
    rw c.in-Err.is
