-- `zone::lines::put_match` meets its contract.
use Rattle.line.proofs.Puts.{put_then}
use Rattle.zone.specs.Lines.{match_line}
use Rattle.zone.proofs.lines.put_match.Goals as goal

pub returns : goal.returns
unfolding match_line
returns c =
    put_then _ _ c.put_all-name.ensures (put_then _ _ c.put_number-polygon.ensures (put_then _ _ c.put_number-metadata.ensures (put_then _ _
    c.put_number-kind.ensures (put_then _ _ c.put_number-place.ensures c.put.ensures))))
