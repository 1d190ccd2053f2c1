-- `slip::slip::slip` meets its contract.
use Rattle.numbers.proofs.Prelude.{refl, sym, ◌∙◌}
use Rattle.slip.proofs.{Stamps.{no_request, asked_so}}
use Rattle.slip.proofs.slip.slip.Goals as goal

pub returns-in-Err : goal.returns-in-Err
returns-in-Err c =
    c.or_zeroed.ensures ∙ no_request _ _ _ _ _ _ _ (sym c.in-Err.is ∙ c.read_request.ensures) refl refl refl

pub returns-in-Ok : goal.returns-in-Ok
returns-in-Ok c =
    c.slip_at.ensures ∙ asked_so _ _ _ _ _ _ _ (sym c.in-Ok.is ∙ c.read_request.ensures)
