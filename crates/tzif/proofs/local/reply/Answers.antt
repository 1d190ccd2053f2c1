-- `tzif::local::reply` meets its contract.
use Rattle.numbers.proofs.Prelude.{ap}
use Rattle.tzif.specs.{Local.{replied, lent}, Reply.{given, refused}}
use Rattle.std.specs.Prelude.{None}
use Rattle.tzif.proofs.local.reply.Goals as goal

pub returns-in-Ok-Some : goal.returns-in-Ok-Some
unfolding lent
returns-in-Ok-Some c =
    let it = rw c.in-Ok-Some.is at c.in-Ok-Some.field-0-is in rw (c.in-Ok-Some.is, it) c.reply_found.ensures

pub returns-in-Ok-None : goal.returns-in-Ok-None
unfolding lent
returns-in-Ok-None c =
    let it = rw c.in-Ok-None.is at c.in-Ok-None.field-0-is in rw (c.in-Ok-None.is, it) (ap (replied (given None)) c.clear.ensures)

pub returns-in-Err : goal.returns-in-Err
unfolding lent
returns-in-Err c =
    rw c.in-Err.is (ap (replied (refused _)) c.clear-in-Err.ensures)
