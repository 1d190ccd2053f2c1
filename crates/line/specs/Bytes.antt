-- Numbers in bytes, low byte first.
use Rattle.std.specs.Prelude.{◌+◌, ◌*◌}
use Rattle.numbers.specs.Prelude.{ℕ, get_or, List}

-- four bytes, low byte first
abbrev pub word_at : List ℕ → ℕ → ℕ
word_at bytes at = get_or bytes at 0 + 256 * get_or bytes (at + 1) 0 + 65536 * get_or bytes (at + 2) 0 + 16777216 * get_or bytes (at + 3) 0
