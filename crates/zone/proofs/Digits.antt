-- Digits as they are printed. Assumes nothing.
use Rattle.numbers.proofs.Prelude.{ℕ, ◌+◌, ◌%◌, ◌≤◌, ◌<◌, lt-ltb, le-ltb, List, ◌≡◌, refl, ap}
use Rattle.line.{proofs.Puts.{put_as}, specs.Put.{Put}}
use Rattle.zone.specs.Lines.{hex_digit, hex_byte}

pub below_ten : (n : ℕ) → n % 16 < 10 → 48 + n % 16 ≡ hex_digit n
unfolding hex_digit
below_ten n h = rw (lt-ltb (n % 16) 10 h) refl

pub from_ten : (n : ℕ) → 10 ≤ n % 16 → 55 + n % 16 ≡ hex_digit n
unfolding hex_digit
from_ten n h = rw (le-ltb (n % 16) 10 h) refl

-- a byte by another name
pub hex_as : {before after : List ℕ} {at next : ℕ} (byte n : ℕ) → byte ≡ n → Put before at (hex_byte byte) after next → Put before at (hex_byte n) after next
hex_as byte n e p = put_as (ap hex_byte e) p
