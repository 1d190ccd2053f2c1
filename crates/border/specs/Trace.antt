-- The next point of a border, and the points of a whole border with how it ends.
use Rattle.std.specs.Prelude.{◌*◌, Option}
pub use Rattle.std.specs.Prelude.{Some as reaches, None as ended}
use Rattle.numbers.specs.{Answer.{Answer, found, ◌>>=◌}, Prelude.{ℕ, zero, suc, pos, length, false, List}}
use Rattle.border.specs.{Place.{point_at}, Reader.{Turn, gives, again, ends, turn_of}, declared.{place.Point.{Point}, reader.{Encoding.{Encoding}, Reader.{Reader}, Run.TheVariants.{Idle}}}}
use Rattle.numbers.specs.Answer as A

-- the state at the next point, which is its own; or the border's end
abbrev pub Given : Type 0
Given = Option Reader

-- a turn that gives no point is followed by the next
unfoldable pub round_again : (Reader → Answer Given) → Turn → Answer Given
round_again rest (gives s) = found (reaches s)
round_again rest (again s) = rest s
round_again rest ends = found ended

-- more turns than any border has
abbrev pub turns : List ℕ → ℕ
turns f = suc (suc (length f) * suc (length f))

-- turns up to a point or the end; that they are never used up is the law `next_step`
unfoldable pub next_within : ℕ → List ℕ → Encoding → Reader → Answer Given
next_within zero f encoding s = A.failed
next_within (suc more) f encoding s = turn_of encoding.strict f encoding.version encoding.«data» s >>= round_again (next_within more f encoding)

unfoldable pub next_point : List ℕ → Encoding → Reader → Answer Given
next_point f encoding s = next_within (turns f) f encoding s

-- the points of a border, and how it ends
pub data Trace : Type 0 where
  point : Point → Trace → Trace
  closed : Trace
  failed : Trace
  refused : ℕ → Trace

-- a point is followed by the rest of the border
unfoldable pub trace_then : Answer Given → (Reader → Trace) → Trace
trace_then (found (reaches s)) rest = point s.point (rest s)
trace_then (found ended) rest = closed
trace_then A.failed rest = failed
trace_then (A.refused n) rest = refused n

-- one point after the other; that they are never used up is the law `trace_step`
unfoldable pub trace_within : ℕ → List ℕ → Encoding → Reader → Trace
trace_within zero f encoding s = failed
trace_within (suc more) f encoding s = trace_then (next_point f encoding s) (trace_within more f encoding)

unfoldable pub trace_of : List ℕ → Encoding → Reader → Trace
trace_of f encoding s = trace_within (turns f) f encoding s

-- a border that is about to be read at a place
abbrev pub border_at : ℕ → Reader
border_at place = record { place = place; moves = 0; begun = false; closed = false; run = Idle; point = point_at (pos 0) (pos 0); first = point_at (pos 0) (pos 0) }
