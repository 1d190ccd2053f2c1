-- `salvage::entry::entry_good` meets its contract.
use Rattle.numbers.proofs.{Prelude.{sym, ◌∙◌}, Replies.{passed_on}}
use Rattle.salvage.proofs.entry.{Judging.{entry_goes, entry_stops}}
use Rattle.salvage.proofs.entry.entry_good.Goals as goal

pub returns-in_err-border_good : goal.returns-in_err-border_good
returns-in_err-border_good c =
    passed_on _ c.from_residual.ensures.1 ∙ entry_stops _ _ _ (sym c.in_err-border_good.was ∙ c.border_good.ensures)

pub returns : goal.returns
returns c =
    entry_goes _ _ _ (sym c.in_ok-border_good.was ∙ c.border_good.ensures) c.section_place-place.ensures c.fields_good.ensures
