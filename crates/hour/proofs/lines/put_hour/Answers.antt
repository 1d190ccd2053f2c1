-- `hour::lines::put_hour` meets its contract.
use Rattle.hour.specs.Line.{hour_line}
use Rattle.line.proofs.Puts.{put_then}
use Rattle.hour.proofs.lines.put_hour.Goals as goal

pub returns : goal.returns
unfolding hour_line
returns c =
    put_then _ _ c.put_clock-clock.ensures (put_then _ _ c.put_offset-offset.ensures (put_then _ _ c.put_number-daylight.ensures (put_then _ _
    c.put_name-abbreviation.ensures c.put.ensures)))
