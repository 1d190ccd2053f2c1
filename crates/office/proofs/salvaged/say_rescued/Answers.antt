-- `office::salvaged::say_rescued` meets its contract.
use Rattle.numbers.proofs.Saying.{said_given, said_refused}
use Rattle.office.specs.Salvaged.{counts_values}
use Rattle.office.proofs.salvaged.say_rescued.Goals as goal

pub returns-in-Ok : goal.returns-in-Ok
returns-in-Ok c =
    said_given counts_values c.in-Ok.is

pub returns-in-Err : goal.returns-in-Err
returns-in-Err c =
    said_refused counts_values c.say_refused.ensures c.in-Err.is
