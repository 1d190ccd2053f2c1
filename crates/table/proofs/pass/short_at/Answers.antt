-- `table::pass::short_at` meets its contract, by the bytes that it looked at.
use Rattle.numbers.proofs.Prelude.{rules}
use Rattle.table.proofs.pass.{Passing.{near_one, near_two, near_three}}
use Rattle.table.proofs.pass.short_at.Goals as goal

pub returns-then-low-lt128 : goal.returns-then-low-lt128
returns-then-low-lt128 c =
    rw c.is.ensures (near_one _ _ (search rules) c.wide-low.ensures.0 c.if-low-lt128.true)

pub returns-then-middle-lt128 : goal.returns-then-middle-lt128
returns-then-middle-lt128 c =
    rw c.is-then-middle-lt128.ensures (near_two _ _ (search rules) c.wide-low.ensures.0 c.if-low-lt128.false c.wide-middle.ensures.0 c.if-middle-lt128.true)

pub returns-then-high-lt128 : goal.returns-then-high-lt128
returns-then-high-lt128 c =
    rw c.is-then-high-lt128.ensures (near_three _ _ (search rules) c.wide-low.ensures.0 c.if-low-lt128.false c.wide-middle.ensures.0 c.if-middle-lt128.false
    c.wide-high.ensures.0 c.if-high-lt128.true)
