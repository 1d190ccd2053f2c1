-- Document 01's worked numbers, those it marks to be proved, as one table.
use Rattle.numbers.proofs.Prelude.{ℕ, ◌-◌, ◌^◌, ℤ, pos, negsuc, List, [], ◌∷◌, map, ◌≡◌, refl}
use Rattle.numbers.specs.{Answer.{Answer, failed}, Point.{signed_of, even_bits, point_of}, Varint.{Numeral, numeral, value_of, size_of, too_long, start_of, forward_at, backward_at}}

-- a row: what is read and where, and what the document says of it
pub data Row : Type 0 where
  forward backward : List ℕ → ℕ → Answer Numeral → Row
  signed : ℕ → ℤ → Row
  point : ℕ → ℤ → ℤ → Row

-- the row with what the definitions say
pub computed : Row → Row
computed (forward file place answer) = forward file place (forward_at file place)
computed (backward file place answer) = backward file place (backward_at file place)
computed (signed value answer) = signed value (signed_of value)
computed (point value lat lon) = point value (point_of value).lat (point_of value).lon

pub marked : List Row
marked =
    forward (0x00 ∷ []) 0 (numeral 0 1) ∷ forward (0x7f ∷ []) 0 (numeral 127 1) ∷ forward (0xac ∷ 0x02 ∷ []) 0 (numeral 300 2) ∷ forward (0x80 ∷ []) 0
    (numeral 0 2) ∷ forward (0xff ∷ 0xff ∷ 0xff ∷ 0xff ∷ 0xff ∷ 0xff ∷ 0xff ∷ 0xff ∷ 0xff ∷ 0x01 ∷ []) 0 (numeral (2 ^ 64 - 1) 10) ∷ signed 2 (pos 1) ∷ signed
    3 (negsuc 0) ∷ signed 4294967296 (negsuc 2147483647) ∷ backward (0x05 ∷ 0xac ∷ 0x02 ∷ []) 2 (numeral 300 0) ∷ backward (0x05 ∷ 0xac ∷ 0x02 ∷ []) 0 failed
    ∷ point 12 (pos 1) (pos 1) ∷ point 3 (pos 0) (pos 0) ∷ point 15 (negsuc 0) (negsuc 0) ∷ []

-- the definitions and the document agree on every row
pub marked_hold : map computed marked ≡ marked
unfolding marked computed value_of size_of too_long start_of forward_at backward_at signed_of even_bits point_of
marked_hold = refl
