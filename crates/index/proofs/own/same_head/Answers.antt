-- `index::own::same_head` meets its contract.
use Rattle.numbers.proofs.{Prelude.{sym, ◌∙◌}, Tests.{differ}}
use Rattle.index.specs.inner.Own.{is_at}
use Rattle.index.proofs.{Sides.{and_first}, Standing.{goes, and_end}}
use Rattle.index.proofs.own.same_head.Goals as goal
use Rattle.index.proofs.own.same_head.Goals.{then-is_number, else-is_number}

pub returns-then-is_number-2 : goal.returns-then-is_number-2
unfolding is_at
returns-then-is_number-2 c = elim c.if-is_number.branch [
  | then-is_number w ↦ goes _ _ (sym c.is_number.ensures ∙ w.if-is_number.true) (goes _ _ (sym w.is_number-then-is_number.ensures ∙ (sym w.value-is
      ∙ c.if-is_number-2.true)) (c.is_number-then-is_number-2.ensures ∙ and_end _))
  | else-is_number w ↦ differ (sym w.if-is_number.false ∙ sym w.value-is ∙ c.if-is_number-2.true)
]

pub returns-else-is_number-2 : goal.returns-else-is_number-2
unfolding is_at
returns-else-is_number-2 c = c.if-is_number-2.false ∙ (elim c.if-is_number.branch [
  | then-is_number w ↦ goes _ _ (sym c.is_number.ensures ∙ w.if-is_number.true) (and_first _ _ (sym w.is_number-then-is_number.ensures ∙ (sym w.value-is
      ∙ c.if-is_number-2.false)))
  | else-is_number w ↦ and_first _ _ (sym c.is_number.ensures ∙ w.if-is_number.false)
])
