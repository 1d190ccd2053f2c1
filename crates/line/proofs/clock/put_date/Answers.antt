-- `line::clock::put_date` meets its contract.
use Rattle.line.proofs.{Puts.{put_then}}
use Rattle.line.specs.Clock.{date_text}
use Rattle.line.proofs.clock.put_date.Goals as goal

pub returns : goal.returns
unfolding date_text
returns c =
    put_then _ _ c.put_two-century.ensures (put_then _ _ c.put_two-year.ensures (put_then _ _ c.put-first.ensures (put_then _ _ c.put_two-month.ensures (put_then _
    _ c.put-second.ensures c.put_two.ensures))))
