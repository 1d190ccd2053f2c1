-- `index::entries::next_row` meets its contract.
use Rattle.numbers.{proofs.Prelude.{sym, ap, ◌∙◌}, specs.Reply.{refused}}
use Rattle.index.proofs.Tabling.{next_fine, next_not, next_stops}
use Rattle.index.proofs.entries.next_row.Goals as goal

pub returns-in_default : goal.returns-in_default
returns-in_default c =
    ap refused c.alone.ensures ∙ next_stops _ _ _ (rw c.in_default.is at c.row_at.ensures)

pub returns-then-not-is_next : goal.returns-then-not-is_next
returns-then-not-is_next c =
    ap refused c.alone-then-not-is_next.ensures ∙ next_not _ _ (rw c.in-Ok.is at c.row_at.ensures) (sym c.is_next.ensures ∙ c.if-not-is_next.true)

pub returns : goal.returns
returns c =
    next_fine _ _ (rw c.in-Ok.is at c.row_at.ensures) (sym c.is_next.ensures ∙ c.if-not-is_next.false)
