-- `zone::lines::put_zones` meets its contract.
use Rattle.line.proofs.Puts.{put_then}
use Rattle.zone.specs.Lines.{lines_of}
use Rattle.zone.proofs.lines.put_zones.Goals as goal

pub returns : goal.returns
unfolding lines_of
returns c =
    put_then _ _ c.put_head-first.ensures c.put_matches.ensures
