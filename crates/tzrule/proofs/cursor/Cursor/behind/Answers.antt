-- `tzrule::cursor::Cursor::behind` meets its contract.
use Rattle.numbers.proofs.Prelude.{refl}
use Rattle.tzrule.proofs.{Steps.{ate}}
use Rattle.tzrule.specs.{inner.Reads.{Behind, Eaten}}
use Rattle.tzrule.proofs.cursor.Cursor.behind.Goals as goal

pub returns-in-Some : goal.returns-in-Some
unfolding Behind
returns-in-Some c =
    ate _ _ c.in-Some.ensures

pub returns-in-None : goal.returns-in-None
unfolding Behind Eaten
returns-in-None c =
    (c.in-None.ensures, refl)
