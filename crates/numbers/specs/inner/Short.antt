-- Numbers that are read quickly.
use Rattle.std.specs.Prelude.{if◌then◌else◌, ◌+◌, ◌-◌, ◌≤◌, ◌<◌, ◌&&◌, ◌≡◌}
use Rattle.numbers.specs.{Answer.{Answer, failed}, Prelude.{ℕ, ltb, leb, length, drop, get_or, Bool, List}, Varint.{Numeral, size_of, forward_at}}

-- a number's first two bytes, which are not its last, where four bytes stand
pub record BeginsAt (file : List ℕ) (place low middle : ℕ) : Type 0 where
  pub room : place + 3 < length file
  pub low_is : low ≡ get_or file place 0
  pub low_on : 128 ≤ low
  pub middle_is : middle ≡ get_or file (place + 1) 0
  pub middle_on : 128 ≤ middle

-- the number at the head of the bytes has up to four, and its last is there and not 0
unfoldable pub is_short : List ℕ → Bool
is_short bytes = leb (size_of bytes) 4 && ltb 0 (get_or bytes (size_of bytes - 1) 0)

-- the number that begins at a place, if it is short; any other counts as none
unfoldable pub short_at : List ℕ → ℕ → Answer Numeral
short_at file place = if is_short (drop place file) then forward_at file place else failed
