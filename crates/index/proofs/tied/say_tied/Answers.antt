-- `index::tied::say_tied` meets its contract, by the answer's cases.
use Rattle.numbers.{proofs.Saying.{said_given, said_refused}, specs.Spoken.{no_values}}
use Rattle.index.proofs.tied.say_tied.Goals as goal

pub returns-in-Ok : goal.returns-in-Ok
returns-in-Ok c =
    said_given no_values c.in-Ok.is

pub returns-in-Err : goal.returns-in-Err
returns-in-Err c =
    said_refused no_values c.say_refused.ensures c.in-Err.is
