-- A whole file, as RFC 8536 and RFC 9636 section 3 have it: refusals 1 and 40 to 59 in file order.
use Rattle.std.specs.Prelude.{if◌then◌else◌, ◌+◌, ◌-◌, ◌&&◌}
use Rattle.numbers.specs.{Limits.{largest_file}, Prelude.{ℕ, eqb, ltb, leb, length, Bool, true, false, List}}
use Rattle.tzif.specs.{Block.{end_of}, Header.{Rfc, rfc9636, read_block}, Number.{octet}, Reply.{Reply, given, refusal, demand, ◌>>=◌, ◌>>◌}, Text.{run_to}, declared.block.Block.{Block}}
use Rattle.tzif.specs.declared.zone.Zone.{Zone}

-- how many octets from a place on are neither NUL nor newline
abbrev pub string_size : List ℕ → ℕ → ℕ
string_size file place = run_to 10 file place (length file - place)

-- a newline stands at a place
unfoldable pub newline_at : List ℕ → ℕ → Bool
newline_at file at = ltb at (length file) && eqb (octet file at) 10

-- 58: a newline, the string, a newline; 59: nothing behind it. The string's length
unfoldable pub read_footer : List ℕ → ℕ → Reply ℕ
read_footer file at = do
  demand (newline_at file at) (refusal 58 at)
  demand (newline_at file (at + 1 + string_size file (at + 1))) (refusal 58 (at + 1 + string_size file (at + 1)))
  demand (leb (length file) (at + 1 + string_size file (at + 1) + 1)) (refusal 59 (at + 1 + string_size file (at + 1) + 1))
  given (string_size file (at + 1))

-- version 1: nothing behind its block, which answers
unfoldable pub read_short : List ℕ → Block → Reply Zone
read_short file block = do
  demand (leb (length file) (end_of block)) (refusal 59 (end_of block))
  given (record { version = 0; block = block; string = end_of block; size = 0 })

-- later versions: a second header with its block, which answers, and the footer
unfoldable pub read_long : Rfc → List ℕ → Block → Reply Zone
read_long rfc file first = do
  block ← read_block rfc file true (end_of first)
  size ← read_footer file (end_of block)
  given (record { version = octet file 4; block = block; string = end_of block + 1; size = size })

-- what the checks of a file leave: its version, the block that answers, the place and length of its TZ string
unfoldable pub read_zone_by : Rfc → List ℕ → Reply Zone
read_zone_by rfc file = do
  demand (leb (length file) largest_file) (refusal 1 0)
  first ← read_block rfc file false 0
  if eqb (octet file 4) 0 then read_short file first else read_long rfc file first

-- by the newer RFC
abbrev pub read_zone : List ℕ → Reply Zone
read_zone = read_zone_by rfc9636
