-- `slip::lines::put_clock` meets its contract.
use Rattle.line.proofs.Puts.{put_then}
use Rattle.slip.specs.Line.{clock_text}
use Rattle.slip.proofs.lines.put_clock.Goals as goal

pub returns : goal.returns
unfolding clock_text
returns c =
    put_then _ _ c.put_weekday-weekday.ensures (put_then _ _ c.put-first.ensures (put_then _ _ c.put_date-date.ensures (put_then _ _ c.put-second.ensures (put_then
    _ _ c.put_time-time.ensures (put_then _ _ c.put-third.ensures c.put_offset.ensures)))))
