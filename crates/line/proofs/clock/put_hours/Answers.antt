-- `line::clock::put_hours` meets its contract.
use Rattle.line.proofs.{Puts.{put_as}, Shown.{few_hours, many_hours}}
use Rattle.line.proofs.clock.put_hours.Goals as goal

pub returns-then-hours-lt100 : goal.returns-then-hours-lt100
returns-then-hours-lt100 c =
    put_as (few_hours _ c.if-hours-lt100.true) c.put_two.ensures

pub returns : goal.returns
returns c =
    put_as (many_hours _ c.if-hours-lt100.false) c.put_decimal.ensures
