-- `zones::simple::tell` meets its contract, by how far it came.
use Rattle.numbers.proofs.{Prelude.{sym, ◌∙◌}, Replies.{passed_on}}
use Rattle.zones.proofs.simple.{Replies.{not_checked, not_described, described}}
use Rattle.zones.proofs.simple.tell.Goals as goal

pub returns-in_err-check : goal.returns-in_err-check
returns-in_err-check c =
    rw (passed_on _ c.from_residual.ensures.1) (not_checked _ _ _ _ _ _ (sym c.in_err-check.was ∙ c.check.ensures))

pub returns-in_err-description : goal.returns-in_err-description
returns-in_err-description c =
    rw (passed_on _ c.from_residual-in_err-description.ensures.1) (not_described _ _ _ _ _ (sym c.in_ok-check.was ∙ c.check.ensures) _ c.describe.ensures _ c.in_err-description.was)

pub returns : goal.returns
returns c =
    described _ _ _ _ _ (sym c.in_ok-check.was ∙ c.check.ensures) _ c.describe.ensures c.in_ok-description.was
