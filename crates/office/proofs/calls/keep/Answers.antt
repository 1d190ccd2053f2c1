use Rattle.numbers.proofs.Prelude.{refl}
use Rattle.office.proofs.{Drafts.{kept_into, kept_refused}}
use Rattle.office.proofs.calls.keep.Goals as goal

pub returns-in-Ok : goal.returns-in-Ok
returns-in-Ok c =
    kept_into _ _ _ c.in-Ok.is c.words_of.ensures

pub returns-in_default : goal.returns-in_default
returns-in_default c =
    kept_refused _ _ _ c.in_default.is refl
