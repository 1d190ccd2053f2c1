-- `line::clock::put_seconds` meets its contract.
use Rattle.line.proofs.{Puts.{put_as, put_none, put_then}, Shown.{no_seconds, some_seconds}}
use Rattle.line.proofs.clock.put_seconds.Goals as goal

pub returns-then-seconds-eq0 : goal.returns-then-seconds-eq0
returns-then-seconds-eq0 c =
    put_as (no_seconds _ c.if-seconds-eq0.true) (put_none _ _)

pub returns : goal.returns
returns c =
    put_as (some_seconds _ c.if-seconds-eq0.false) (put_then _ _ c.put-colon.ensures c.put_two.ensures)
