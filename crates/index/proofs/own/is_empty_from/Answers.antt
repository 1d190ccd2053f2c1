-- `index::own::is_empty_from` meets its contract. The loop's invariant is `Emptying`.
use Rattle.numbers.proofs.Prelude.{sym, ◌∙◌}
use Rattle.index.proofs.{Comparing.{emptying_ends, emptying_next, emptying_other}}
use Rattle.index.proofs.own.is_empty_from.Goals as goal

pub returns-then-not-is_number : goal.returns-then-not-is_number
returns-then-not-is_number c =
    emptying_other _ _ c.loop-at.invariant c.loop-at-test.true (sym c.is_number.ensures ∙ c.if-not-is_number.true)

pub loop-at-preserved : goal.loop-at-preserved
loop-at-preserved c =
    emptying_next _ _ c.loop-at.invariant c.loop-at-test.true (sym c.is_number.ensures ∙ c.if-not-is_number.false)

pub returns : goal.returns
returns c =
    emptying_ends _ _ c.loop-at.invariant c.loop-at-test.false
