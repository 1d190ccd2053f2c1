-- What the writer writes, and when it refuses: document 01, "The writer".
use Rattle.std.specs.Prelude.{if◌then◌else◌, ◌&&◌, ◌∷◌, ◌++◌}
use Rattle.numbers.specs.{Limits.{largest_file}, Lists.{zeros, padded}, Prelude.{ℕ, eqb, ltb, leb, ℤ, nat_abs, length, take, drop, Bool, true, List, []}}
use Rattle.numbers.specs.{Prelude.{flat_map}, Reply.{Reply, given, refused, refusal, plain, demand, ◌>>◌}, Spelling.{varint_of}, declared.point.RawPoint.{RawPoint}}
use Rattle.writer.specs.{Limits.{most_points, most_pieces}, Moves.{plain_move_bytes, moves_of, is_move}, Pieces.{good_pieces, packed_from}, declared.write.Piece.{Piece}}

-- each element of the list is good
unfoldable pub every : {A : Type 0} → (A → Bool) → List A → Bool
every good [] = true
every good (x ∷ xs) = good x && every good xs

-- one to 65,535 points, the two lists of one length
unfoldable pub sized : List ℤ → List ℤ → Bool
sized lats lons = eqb (length lats) (length lons) && (ltb 0 (length lats) && leb (length lats) most_points)

unfoldable pub near : ℤ → Bool
near z = leb (nat_abs z) 1073741823

-- the checks of the border, in order
unfoldable pub checks : ℕ → List ℤ → List ℤ → List ℕ → Reply (Unit {0})
checks version lats lons earlier = do
  demand (leb (length earlier) largest_file) (plain 1)
  demand (ltb version 2) (refusal 5 0 version)
  demand (sized lats lons) (plain 19)
  demand (every near lats && every near lons) (plain 20)
  demand (every is_move (drop 1 (moves_of lats lons))) (plain 21)
  demand (every is_move (take 1 (moves_of lats lons))) (plain 22)

-- "Version 0: count, moves, then guard bytes 02 02"; it takes no pieces
unfoldable pub plain_border : List RawPoint → List Piece → Reply (List ℕ)
plain_border moves pieces = do
  demand (eqb (length pieces) 0) (plain 23)
  given (varint_of (length moves) ++ (flat_map plain_move_bytes moves ++ (2 ∷ 2 ∷ [])))

-- "Version 1: moves, 00 00", with at most 16 pieces; else the lowest bad index
unfoldable pub packed_border : List RawPoint → List Piece → List ℕ → Reply (List ℕ)
packed_border moves pieces earlier = do
  demand (leb (length pieces) most_pieces) (refusal 23 0 most_pieces)
  demand (eqb (good_pieces earlier moves 0 pieces) (length pieces)) (refusal 23 0 (good_pieces earlier moves 0 pieces))
  given (packed_from moves 0 pieces)

-- the border's bytes, in whatever room
unfoldable pub border_of : ℕ → List ℤ → List ℤ → List Piece → List ℕ → Reply (List ℕ)
border_of version lats lons pieces earlier = do
  checks version lats lons earlier
  if eqb version 0 then plain_border (moves_of lats lons) pieces else packed_border (moves_of lats lons) pieces earlier

-- ---- the reply, and all of the lent output
pub record Replied : Type 0 where
  pub reply : Reply ℕ
  pub out : List ℕ

abbrev pub replied : Reply ℕ → List ℕ → Replied
replied r out = record { reply = r; out = out }

-- 24 where the bytes do not fit; behind them, and on a refusal, all is zero
unfoldable pub fitted : ℕ → Reply (List ℕ) → Replied
fitted room (given bytes) =
    if leb (length bytes) room
    then record { reply = given (length bytes); out = padded room bytes }
    else record { reply = refused (plain 24); out = zeros room }
fitted room (refused why) = record { reply = refused why; out = zeros room }
