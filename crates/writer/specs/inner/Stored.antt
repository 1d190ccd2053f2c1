-- What the writer's inner functions say of each other.
use Rattle.std.specs.Prelude.{◌+◌, ◌≤◌, ◌-ℤ◌, ◌∷◌, ◌≡◌}
use Rattle.numbers.specs.{Prelude.{ℕ, min, ℤ, pos, length, take, get_or, sets, List, []}, declared.point.RawPoint.{RawPoint}}
use Rattle.border.specs.Place.{move_by}
use Rattle.writer.specs.{Limits.{most_pieces}, Pieces.{good_pieces}, declared.{pieces.Check.{Check}, write.Piece.{Piece}}}

-- the bytes were stored from a place on, as many as fit, and the next place is behind all of them
pub record Stored (before : List ℕ) (place : ℕ) (bytes after : List ℕ) (next : ℕ) : Type 0 where
  pub place_after : next ≡ place + length bytes
  pub stored : after ≡ sets before place bytes

-- a coordinate's difference to the one before it, of the first one to 0
unfoldable pub gap_at : List ℤ → ℕ → ℤ
gap_at zs i = get_or zs i (pos 0) -ℤ get_or (pos 0 ∷ zs) i (pos 0)

-- the move to a point, by the point's index
abbrev pub move_at : List ℤ → List ℤ → ℕ → RawPoint
move_at lats lons i = move_by (gap_at lats i) (gap_at lons i)

-- the first move behind the pieces
unfoldable pub end_of : ℕ → List Piece → ℕ
end_of free [] = free
end_of free (p ∷ ps) = end_of (p.first + p.count) ps

-- what the check of a list of pieces knows of it; of more than the most only that they are too many
pub record Checked (earlier : List ℕ) (moves : List RawPoint) (pieces : List Piece) (c : Check) : Type 0 where
  pub seen : c.seen ≡ min (length pieces) 17
  pub size : length c.kept ≡ most_pieces
  pub kept : length pieces ≤ most_pieces → take c.seen c.kept ≡ pieces
  pub good : length pieces ≤ most_pieces → c.good ≡ good_pieces earlier moves 0 pieces
  pub free : length pieces ≤ most_pieces → c.free ≡ end_of 0 pieces
