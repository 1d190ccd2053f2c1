-- `zone::lines::put_refusal` meets its contract.
use Rattle.line.proofs.Puts.{put_then}
use Rattle.zone.specs.Lines.{refused_line}
use Rattle.zone.proofs.lines.put_refusal.Goals as goal

pub returns : goal.returns
unfolding refused_line
returns c =
    put_then _ _ c.put_all-name.ensures (put_then _ _ c.put_number-number.ensures c.put.ensures)
