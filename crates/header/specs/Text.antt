-- Strings of the file, as document 01 has them, their numbers read strictly or not.
use Rattle.std.specs.Prelude.{if◌then◌else◌, ◌+◌, ◌-◌, ◌%◌, ◌^◌}
use Rattle.numbers.specs.{Answer.{Answer, found, failed, refused, ◌>>=◌}, Prelude.{ℕ, eqb, ltb, leb, length, take, drop, Bool, List, map}}
use Rattle.numbers.specs.{Reply.{Reply, given, encoding, not_utf8, refusal, plain}, Varint.{reading_of}}
use Rattle.header.specs.{Utf8.{unmasked, is_utf8}, declared.text.{Blame.{Blame}, Text.{Text}}}
use Rattle.numbers.specs.Reply as R

-- 14 where a byte is past the end; an empty string has none, and counts as standing at 0
unfoldable pub within : List ℕ → Text → Answer Text
within file text =
    if eqb text.size 0 then found (record { start = 0; size = 0; next = text.next })
    else (if leb (text.start + text.size) (length file) then found text else refused 14)

-- a string elsewhere: its length, at most 256, stands before its bytes; reading goes on where it was
unfoldable pub remote_at : Bool → List ℕ → ℕ → ℕ → Answer Text
remote_at strict file place next = do
  number ← reading_of strict file place
  if leb number.value 256 then within file (record { start = number.place; size = number.value; next = next }) else failed

-- a length below 256 is inline; from 256 on it means a string at metadata offset + length - 256, modulo 2 ^ 32
unfoldable pub string_at : Bool → List ℕ → ℕ → ℕ → Answer Text
string_at strict file metadata place = do
  number ← reading_of strict file place
  if ltb number.value 256 then within file (record { start = number.place; size = number.value; next = number.place + number.value })
      else remote_at strict file ((metadata + number.value - 256) % 2 ^ 32) number.place

-- each byte is stored XOR 0x80
unfoldable pub bytes_of : List ℕ → Text → List ℕ
bytes_of file text = map unmasked (take text.size (drop text.start file))

-- the string where it is UTF-8, or the refusal that a bad one is blamed with; 12, 14 and 31 stay
abbrev pub or_blamed : List ℕ → Blame → Answer Text → Reply Text
or_blamed file blame (found text) = if is_utf8 (bytes_of file text) then given text else R.refused (refusal blame.number not_utf8 blame.detail)
or_blamed file blame failed = R.refused (refusal blame.number encoding blame.detail)
or_blamed file blame (refused number) = R.refused (plain number)

-- the string at a place, which must be UTF-8
unfoldable pub text_at : Bool → List ℕ → ℕ → ℕ → Blame → Reply Text
text_at strict file metadata place blame = or_blamed file blame (string_at strict file metadata place)
