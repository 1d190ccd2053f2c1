-- `index::tied::index_tied` meets its contract.
use Rattle.numbers.proofs.{Prelude.{sym, ◌∙◌}, Replies.{passed_on}}
use Rattle.index.proofs.{Tying.{tied_unopened, tied_opened}}
use Rattle.index.proofs.tied.index_tied.Goals as goal

pub returns-in_err-head : goal.returns-in_err-head
returns-in_err-head c =
    passed_on _ c.from_residual.ensures.1 ∙ tied_unopened _ _ (sym c.in_err-head.was ∙ c.head_of.ensures)

pub returns : goal.returns
returns c =
    c.tied_with.ensures ∙ tied_opened _ _ (sym c.in_ok-head.was ∙ c.head_of.ensures)
