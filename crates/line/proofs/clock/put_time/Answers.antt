-- `line::clock::put_time` meets its contract.
use Rattle.line.proofs.{Puts.{put_then}}
use Rattle.line.specs.Clock.{time_text}
use Rattle.line.proofs.clock.put_time.Goals as goal

pub returns : goal.returns
unfolding time_text
returns c =
    put_then _ _ c.put_two-hour.ensures (put_then _ _ c.put-first.ensures (put_then _ _ c.put_two-minute.ensures (put_then _ _ c.put-second.ensures c.put_two.ensures)))
