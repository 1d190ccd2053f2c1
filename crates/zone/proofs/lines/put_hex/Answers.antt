-- `zone::lines::put_hex` meets its contract.
use Rattle.line.proofs.Puts.{put_byte, put_then}
use Rattle.zone.proofs.lines.put_hex.Goals as goal

pub returns : goal.returns
returns c =
    put_then _ _ (put_byte c.hex_digit-high.ensures c.put-next.ensures) (put_byte c.hex_digit-low.ensures c.put.ensures)
