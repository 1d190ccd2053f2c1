-- `hour::lines::put_refusal` meets its contract.
use Rattle.hour.specs.Line.{refused_line}
use Rattle.line.proofs.Puts.{put_then}
use Rattle.hour.proofs.lines.put_refusal.Goals as goal

pub returns : goal.returns
unfolding refused_line
returns c =
    put_then _ _ c.put_all-name.ensures (put_then _ _ c.put_number-number.ensures (put_then _ _ c.put_number-detail.ensures c.put.ensures))
