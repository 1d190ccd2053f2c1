-- Numbers as they are written: document 01, "shortest varints, odd only for negatives".
use Rattle.std.specs.Prelude.{if◌then◌else◌, ◌+◌, ◌*◌, ◌/◌, ◌%◌, ◌^◌, ◌≤◌, ◌∷◌, ◌≡◌}
use Rattle.numbers.specs.{Prelude.{ℕ, zero, suc, ltb, ℤ, pos, negsuc, length, sets, List, []}, Varint.{value_of, size_of}}

-- seven bits a byte, low first, the high bit set in all but the last; at most k + 1 bytes
unfoldable pub digits_of : ℕ → ℕ → List ℕ
digits_of zero n = n ∷ []
digits_of (suc k) n = if ltb n 128 then (n ∷ []) else ((128 + n % 128) ∷ digits_of k (n / 128))

-- the shortest varint of a number below 2 ^ 64
unfoldable pub varint_of : ℕ → List ℕ
varint_of n = digits_of 9 n

-- twice the size, odd only for negatives
unfoldable pub signed_form : ℤ → ℕ
signed_form (pos n) = 2 * n
signed_form (negsuc n) = 2 * suc n + 1

-- of k bits each: those of a at the even places, those of b at the odd ones
unfoldable pub interleaved : ℕ → ℕ → ℕ → ℕ
interleaved zero a b = 0
interleaved (suc k) a b = a % 2 + 2 * (b % 2) + 4 * interleaved k (a / 2) (b / 2)

-- one "whole varint of at most ten bytes": the first byte with a clear high bit is its last
pub record Whole (bytes : List ℕ) (value : ℕ) : Type 0 where
  pub complete : size_of bytes ≡ length bytes
  pub short : length bytes ≤ 10
  pub reads : value_of bytes % 2 ^ 64 ≡ value

-- the bytes stand in a buffer from a place on, as many as fit
pub record Put (before : List ℕ) (place : ℕ) (bytes after : List ℕ) (size : ℕ) : Type 0 where
  pub counted : size ≡ length bytes
  pub stored : after ≡ sets before place bytes
