-- A border's moves stand between its bytes and its points: document 02, Q-7, "every move stays, zero moves and version 0's closing pair included".
use Rattle.std.specs.Prelude.{◌-◌, ◌∷◌, ◌++◌, if◌then◌else◌}
use Rattle.numbers.specs.Prelude.{ℕ, zero, suc, pos, length, Bool, true, false, List, [], flat_map}
use Rattle.numbers.specs.{Answer.{Answer, found, failed, refused, ◌>>=◌}, Point.{signed_of}, Spelling.{varint_of}, Varint.{reading_of}, declared.point.RawPoint.{RawPoint}}
use Rattle.writer.specs.Moves.{move_to, packed_number, plain_move_bytes}
use Rattle.border.specs.{Place.{point_at, move_by, is_still}, Reader.{Reading}, Trace.{Trace, point, closed, trace_of, border_at}, declared.{place.Point.{Point}, reader.Encoding.{Encoding}}}
use Rattle.border.specs.declared.reader.Version.{Version, TheVariants.{Plain, Packed}}
use Rattle.salvage.specs.declared.moves.pairs.Pair.{Pair}
use Rattle.border.specs.Trace as T

-- how a border ends, whatever its points
unfoldable pub end_of : Trace → Answer (Unit {0})
end_of (point p rest) = end_of rest
end_of closed = found tt
end_of T.failed = failed
end_of (T.refused n) = refused n

-- where a border begins
abbrev pub origin : Point
origin = point_at (pos 0) (pos 0)

-- ---- version 0: "a count, then moves", and the closing pair
-- a pair of signed numbers, and the place behind it
unfoldable pub pair_at : Reading → ℕ → Answer Pair
pair_at read place = do
  lat ← read place
  lon ← read lat.place
  found (record { by = move_by (signed_of lat.value) (signed_of lon.value); place = lon.place })

-- so many of them, one behind the other
unfoldable pub pairs_from : Reading → ℕ → ℕ → Answer (List RawPoint)
pairs_from read zero place = found []
pairs_from read (suc more) place = do
  pair ← pair_at read place
  rest ← pairs_from read more pair.place
  found (pair.by ∷ rest)

-- as many as the count says, and one more
unfoldable pub plain_moves : Reading → ℕ → Answer (List RawPoint)
plain_moves read place = do
  count ← read place
  pairs_from read (suc count.value) count.place

-- ---- version 1: each move gives its point, and the closing point comes last
abbrev pub goes_on : Trace → Bool
goes_on (point p rest) = true
goes_on closed = false
goes_on T.failed = false
goes_on (T.refused n) = false

-- from point to point, up to the last but one
unfoldable pub steps_from : Point → Trace → List RawPoint
steps_from p (point q rest) = if goes_on rest then (move_to p q ∷ steps_from q rest) else []
steps_from p closed = []
steps_from p T.failed = []
steps_from p (T.refused n) = []

-- ---- the moves of the border at a place; none where they can't be read
abbrev pub or_none : Answer (List RawPoint) → List RawPoint
or_none (found moves) = moves
or_none failed = []
or_none (refused n) = []

unfoldable pub moves_by : Version → List ℕ → Encoding → ℕ → List RawPoint
moves_by Plain file encoding place = or_none (plain_moves (reading_of encoding.strict file) place)
moves_by Packed file encoding place = steps_from origin (trace_of file encoding (border_at place))

unfoldable pub moves_at : List ℕ → Encoding → ℕ → List RawPoint
moves_at file encoding place = moves_by encoding.version file encoding place

-- those of a border that closes; a border that does not has none, and ends as its trace does
unfoldable pub closed_moves : List ℕ → Encoding → ℕ → Answer (List RawPoint)
closed_moves file encoding place = end_of (trace_of file encoding (border_at place)) >>= λ end. found (moves_at file encoding place)

-- ---- "written without borrowed runs"
-- "version 1's zero moves and repeated points becoming 3"
unfoldable pub step_number : RawPoint → ℕ
step_number by = if is_still by then 3 else packed_number by

unfoldable pub step_bytes : RawPoint → List ℕ
step_bytes by = varint_of (step_number by)

-- the bytes of these moves
unfoldable pub moves_bytes : Version → List RawPoint → List ℕ
moves_bytes Plain moves = varint_of (length moves - 1) ++ flat_map plain_move_bytes moves
moves_bytes Packed moves = flat_map step_bytes moves ++ (0 ∷ 0 ∷ [])
