-- `edit::changing::clear::clear` meets its contract.
use Rattle.numbers.{proofs.Prelude.{ap}, specs.Reply.{refused}}
use Rattle.edit.proofs.changing.{Emptying.{clear_done, clear_inside, clear_refused}}
use Rattle.edit.proofs.changing.clear.clear.Goals as goal

pub returns-then-not-stands : goal.returns-then-not-stands
returns-then-not-stands c =
    clear_refused _ _ _ c.stands.ensures c.if-not-stands.true _ (ap refused c.alone.ensures)

pub cut_lists-requires : goal.cut_lists-requires
cut_lists-requires c =
    clear_inside _ _ _ c.stands.ensures c.if-not-stands.false

pub returns : goal.returns
returns c =
    clear_done _ _ _ c.stands.ensures c.if-not-stands.false _ c.cut_lists.ensures _ c.emptied.ensures
