-- `office::said::say_length` meets its contract, by the answer's cases.
use Rattle.numbers.proofs.Saying.{said_given, said_refused}
use Rattle.office.specs.Written.{length_value}
use Rattle.office.proofs.said.say_length.Goals as goal

pub returns-in-Ok : goal.returns-in-Ok
returns-in-Ok c =
    said_given length_value c.in-Ok.is

pub returns-in-Err : goal.returns-in-Err
returns-in-Err c =
    said_refused length_value c.say_refused.ensures c.in-Err.is
