-- `hour::lines::put_clock` meets its contract.
use Rattle.hour.specs.Line.{clock_text}
use Rattle.line.proofs.Puts.{put_then}
use Rattle.hour.proofs.lines.put_clock.Goals as goal

pub returns : goal.returns
unfolding clock_text
returns c =
    put_then _ _ c.put_all-name.ensures (put_then _ _ c.put_date-date.ensures (put_then _ _ c.put-space.ensures (put_then _ _ c.put_time-time.ensures
    c.put_number.ensures)))
