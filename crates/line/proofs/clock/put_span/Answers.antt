-- `line::clock::put_span` meets its contract.
use Rattle.line.proofs.{Puts.{put_then}}
use Rattle.line.specs.Clock.{span_text}
use Rattle.line.proofs.clock.put_span.Goals as goal

pub returns : goal.returns
unfolding span_text
returns c =
    put_then _ _ c.put_hours-hours.ensures (put_then _ _ c.put-colon.ensures (put_then _ _ c.put_two-minutes.ensures c.put_seconds.ensures))
