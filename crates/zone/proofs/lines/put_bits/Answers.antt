-- `zone::lines::put_bits` meets its contract.
use Rattle.line.proofs.Puts.{put_then}
use Rattle.zone.proofs.{Digits.{hex_as}}
use Rattle.zone.specs.Lines.{bits_text}
use Rattle.zone.proofs.lines.put_bits.Goals as goal

pub returns : goal.returns
unfolding bits_text
returns c =
    put_then _ _ c.put-first.ensures (put_then _ _ (hex_as _ _ c.low_byte-a.ensures c.put_hex-second.ensures) (put_then _ _ (hex_as _ _ c.low_byte-b.ensures
    c.put_hex-third.ensures) (put_then _ _ (hex_as _ _ c.low_byte-c.ensures c.put_hex-fourth.ensures) (hex_as _ _ c.low_byte-d.ensures c.put_hex.ensures))))
