-- Pieces: runs of the earlier data that stand for moves of a version 1 border.
use Rattle.numbers.specs.Prelude.{ℕ, zero, suc, eqb, ltb, leb, length, take, drop, get_or, Bool, false, not, List, [], map, flat_map}
use Rattle.numbers.specs.{Answer.{Answer, found, failed, refused}, Point.{point_of}, Spelling.{varint_of}, Varint.{Numeral, is_last, forward_at}, declared.point.RawPoint.{RawPoint}}
use Rattle.std.specs.Prelude.{reverse, ◌+◌, ◌-◌, ◌*◌, ◌/◌, ◌&&◌, ◌||◌, ◌∷◌, ◌++◌, if◌then◌else◌}
use Rattle.std.proofs.Math.Seq.{slice}
use Rattle.writer.specs.{Moves.{packed_move_bytes, turned_back, same_move}, declared.write.Piece.{Piece}}

-- direction 0 is forward, others backward
abbrev pub is_forward : Piece → Bool
is_forward p = eqb p.direction 0

-- the bytes that it borrows
abbrev pub lent_by : List ℕ → Piece → List ℕ
lent_by earlier p = take p.bytes (drop p.start earlier)

-- the border's moves that it stands for, "reversed and negated when backward", as its run has them
unfoldable pub lent_moves : List RawPoint → Piece → List RawPoint
lent_moves moves p =
    let own = take p.count (drop p.first moves) in
    if is_forward p then own else reverse (map turned_back own)

-- a number was read, and it is good
unfoldable pub read_and : Answer Numeral → (Numeral → Bool) → Bool
read_and (found number) good = good number
read_and failed good = false
read_and (refused n) good = false

-- from a place on the run is whole varints of at most ten bytes, none 0, and just these moves
unfoldable pub spells : List ℕ → ℕ → List RawPoint → Bool
spells run place [] = eqb place (length run)
spells run place (m ∷ ms) =
    read_and (forward_at run place) (λ number. leb number.place (length run) && (not (eqb number.value 0) && (same_move (point_of number.value) m && spells run number.place ms)))

-- "the byte just before it, of that data, with the high bit clear"
unfoldable pub clear_before : List ℕ → ℕ → Bool
clear_before earlier place = ltb 0 place && is_last (get_or earlier (place - 1) 0)

-- when a piece is accepted; moves below `free` are in pieces before it
unfoldable pub accepted : List ℕ → List RawPoint → ℕ → Piece → Bool
accepted earlier moves free p =
    leb free p.first
    && (ltb 0 p.count
    && (leb (p.first + p.count) (length moves)
    && (leb (p.start + p.bytes) (length earlier)
    && ((is_forward p || clear_before earlier p.start)
    && spells (lent_by earlier p) 0 (lent_moves moves p)))))

-- how many pieces are accepted before the first bad one: its index, or the length of the list
unfoldable pub good_pieces : List ℕ → List RawPoint → ℕ → List Piece → ℕ
good_pieces earlier moves free [] = 0
good_pieces earlier moves free (p ∷ ps) = if accepted earlier moves free p then suc (good_pieces earlier moves (p.first + p.count) ps) else 0

-- "00 01, run start, signed length; backward, run end and the length negated"
unfoldable pub piece_bytes : Piece → List ℕ
piece_bytes p =
    0 ∷ 1 ∷
    (if is_forward p
    then (varint_of p.start ++ varint_of (2 * p.bytes))
    else (varint_of (p.start + p.bytes) ++ varint_of (2 * p.bytes + 1)))

-- version 1 from a move on: moves, those of the pieces borrowed, then 00 00
unfoldable pub packed_from : List RawPoint → ℕ → List Piece → List ℕ
packed_from moves next [] = flat_map packed_move_bytes (drop next moves) ++ (0 ∷ 0 ∷ [])
packed_from moves next (p ∷ ps) = flat_map packed_move_bytes (slice next p.first moves) ++ (piece_bytes p ++ packed_from moves (p.first + p.count) ps)

-- ---- pieces as words, five each
abbrev pub piece_at : List ℕ → ℕ → Piece
piece_at words i = record { start = get_or words (5 * i) 0; bytes = get_or words (5 * i + 1) 0; direction = get_or words (5 * i + 2) 0; first = get_or words (5 * i + 3) 0; count = get_or words (5 * i + 4) 0 }

unfoldable pub first_pieces : ℕ → List ℕ → List Piece
first_pieces zero words = []
first_pieces (suc n) words = first_pieces n words ++ (piece_at words n ∷ [])

-- a remainder of words is no piece
unfoldable pub pieces_of : List ℕ → List Piece
pieces_of words = first_pieces (length words / 5) words
