-- `index::own::is_index` meets its contract.
use Rattle.numbers.proofs.{Prelude.{sym, ◌∙◌}, Replies.{passed_on}}
use Rattle.index.proofs.{Owning.{own_unopened, own_opened}}
use Rattle.index.proofs.own.is_index.Goals as goal

pub returns-in_err-head : goal.returns-in_err-head
returns-in_err-head c =
    passed_on _ c.from_residual.ensures.1 ∙ own_unopened _ _ (sym c.in_err-head.was ∙ c.head_of.ensures)

pub returns : goal.returns
returns c =
    c.own_with.ensures ∙ own_opened _ _ _ (sym c.in_ok-head.was ∙ c.head_of.ensures)
