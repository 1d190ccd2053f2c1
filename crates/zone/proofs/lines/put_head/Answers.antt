-- `zone::lines::put_head` meets its contract.
use Rattle.line.proofs.Puts.{put_then}
use Rattle.zone.specs.Lines.{lookup_line}
use Rattle.zone.proofs.lines.put_head.Goals as goal

pub returns : goal.returns
unfolding lookup_line
returns c =
    put_then _ _ c.put_all-name.ensures (put_then _ _ c.put_number-matches.ensures (put_then _ _ c.put_number-mark.ensures (put_then _ _ c.put_bits-safezone.ensures
    c.put.ensures)))
