-- Points of a border that change nothing about a location. No promise of a public function speaks of it.
use Rattle.numbers.specs.Prelude.{ℕ, suc, ℤ, pos, negsuc, mag, lt_z, le_z, Bool, true, false, List, w32}
use Rattle.std.specs.Prelude.{Option, Some, None, FitsSigned, ◌+◌, ◌*◌, ◌≤◌, ◌+ℤ◌, ◌-ℤ◌, ◌&&◌, ◌||◌, ◌≡◌}
use Rattle.numbers.specs.{Answer.{found}, declared.point.RawPoint.{RawPoint}}
use Rattle.border.specs.{Encoding.{encoded_by}, Place.{point_at, moved_by}, Trace.{Trace, point, trace_of}, declared.{place.Point.{Point}, reader.{Encoding.{Encoding}, Reader.{Reader}, Run.{Run}}}}
use Rattle.border.specs.declared.reader.{Run.TheVariants.{Idle, Backward}, Version.TheVariants.{Plain, Packed}}
use Rattle.verdict.specs.{Verdict.{after, passing}, declared.{field.{Field.{Field}, Span.{Span}}}}
use Rattle.verdict.specs.declared.{glide.Wide.{Wide}, step.Tally.{Tally}}
use Rattle.border.specs.Trace as T
use Rattle.verdict.specs.Step as S

-- two numbers lie on one side of x, strictly
unfoldable pub same_side : ℤ → ℤ → ℤ → Bool
same_side x a b = (lt_z x a && lt_z x b) || (lt_z a x && lt_z b x)

-- two points lie strictly inside one quadrant about the fix
unfoldable pub in_one_quadrant : Point → Point → Point → Bool
in_one_quadrant fix from to = same_side fix.lat.0 from.lat.0 to.lat.0 && same_side fix.lon.0 from.lon.0 to.lon.0

-- a number lies in a span; its ends do not count
unfoldable pub in_span : Span → ℤ → Bool
in_span span x = lt_z span.low x && lt_z x span.high

-- the numbers of a span lie all on one side of x
unfoldable pub beside : ℤ → Span → Bool
beside x span = le_z x span.low || le_z span.high x

-- a field lies strictly inside one quadrant about the fix
unfoldable pub aside : Point → Field → Bool
aside fix field = beside fix.lat.0 field.lat && beside fix.lon.0 field.lon

-- a field holds a point
unfoldable pub within : Field → Point → Bool
within field p = in_span field.lat p.lat.0 && in_span field.lon p.lon.0

-- the point of which both coordinates are held wide
abbrev pub pointed : Wide → Point
pointed w = point_at w.lat w.lon

-- they are i32s all the same
pub record Narrow (w : Wide) : Type 0 where
  pub lat_fits : FitsSigned w32 w.lat
  pub lon_fits : FitsSigned w32 w.lon

-- a move leads to a point of the field
abbrev pub LedTo : Field → Wide → RawPoint → Option Wide → Type 0
LedTo field p by (Some to) = (found (pointed to) ≡ moved_by (pointed p) by) × (within field (pointed to) ≡ true) × Narrow to
LedTo field p by None = Unit

-- a trace after a point comes to what is left of it after a later point, and all points on the way lie in the field
pub data Glides (field : Field) : Point → Trace → Point → Trace → Type 0 where
  stays : {p : Point} {trace : Trace} → Glides field p trace p trace
  glides : {from to last : Point} {trace rest : Trace} → within field to ≡ true → Glides field to trace last rest → Glides field from (point to trace) last rest

-- the same of two states
abbrev pub GlidesTo : List ℕ → Encoding → Field → Reader → Reader → Type 0
GlidesTo file encoding field s r = Glides field s.point (trace_of file encoding s) r.point (trace_of file encoding r)

-- a state between the first point and the closing one
abbrev pub standing : Point → ℕ → ℕ → Run → Point → Reader
standing first place moves run p = record { place = place; moves = moves; begun = true; closed = false; run = run; point = p; first = first }

-- version 1, outside a reference, from a place and a point to a later place and its point
pub record GlidesForth (file : List ℕ) (strict : Bool) (field : Field) (place : ℕ) (p : Point) (place' : ℕ) (p' : Point) : Type 0 where
  pub forth : (base moves : ℕ) (first : Point) → GlidesTo file (encoded_by strict Packed base) field (standing first place moves Idle p) (standing first place' moves Idle p')

-- inside a reference that is read backward
pub record GlidesBack (file : List ℕ) (field : Field) (end next : ℕ) (p : Point) (next' : ℕ) (p' : Point) : Type 0 where
  pub back : (strict : Bool) (base place moves : ℕ) (first : Point) →
      GlidesTo file (encoded_by strict Packed base) field (standing first place moves (Backward next end) p) (standing first place moves (Backward next' end) p')

-- version 0, between two moves
pub record GlidesPlain (file : List ℕ) (strict : Bool) (field : Field) (place moves : ℕ) (p : Point) (place' moves' : ℕ) (p' : Point) : Type 0 where
  pub plainly : (base : ℕ) (first : Point) → GlidesTo file (encoded_by strict Plain base) field (standing first place moves Idle p) (standing first place' moves' Idle p')

-- how many points a trace has
unfoldable pub points : Trace → ℕ
points (point p trace) = suc (points trace)
points T.closed = 0
points T.failed = 0
points (T.refused n) = 0

-- between any two points of a field a step changes nothing
pub record Calm (fix : Point) (asked : Bool) (tally : Tally) (field : Field) : Type 0 where
  pub keeps : (from to : Point) → within field from ≡ true → within field to ≡ true → passing fix asked (after from) to tally ≡ S.found tally

-- the field, if it holds the point
abbrev pub Held : Field → Point → Option Field → Type 0
Held field p (Some that) = (that ≡ field) × (within that p ≡ true)
Held field p None = Unit

-- a calm field that holds the point, or none
abbrev pub Opens : Point → Bool → Tally → Point → Option Field → Type 0
Opens fix asked tally p (Some field) = Calm fix asked tally field × (within field p ≡ true)
Opens fix asked tally p None = Unit

-- ---- fields far from the fix

-- the numbers of a span are all more than r away from x
unfoldable pub far_from : ℕ → ℤ → Span → Bool
far_from r x span = le_z (x +ℤ pos r) span.low || le_z (span.high +ℤ pos r) x

-- they are less than 2 ^ 22 in size
unfoldable pub nearby : Span → Bool
nearby span = le_z (negsuc 4194303) span.low && le_z span.high (pos 4194304)

-- a field is so far from the fix that no edge in it comes nearer than the least distance so far; neither coordinate is 0 there, which is what a NaN is cut to
pub record Remote (fix : Point) (least : ℕ) (field : Field) : Type 0 where
  pub lat_near : nearby field.lat ≡ true
  pub lon_near : nearby field.lon ≡ true
  pub lat_sign : beside (pos 0) field.lat ≡ true
  pub lon_sign : beside (pos 0) field.lon ≡ true
  pub lat_fix : mag fix.lat.0 ≤ 4194304
  pub lon_fix : mag fix.lon.0 ≤ 4194304
  pub lat_reach : ℕ
  pub lon_reach : ℕ
  pub lat_far : far_from lat_reach fix.lat.0 field.lat ≡ true
  pub lon_far : far_from lon_reach fix.lon.0 field.lon ≡ true
  pub enough : least ≤ lat_reach * lat_reach + 4 * (lon_reach * lon_reach)

-- a number counted from 2 ^ 22 below 0
abbrev pub lowered : ℕ → ℤ
lowered n = pos n -ℤ pos 4194304

-- n is x so counted, or 2 ^ 23 + 1 where x is not near 0
abbrev pub LiftedTo : ℤ → ℕ → Type 0
LiftedTo x n = (n ≤ 8388609) × (n ≤ 8388608 → x ≡ lowered n)

-- a span of numbers near 0, on one side of it and of x, all more than r away from x
pub record FarSpan (x : ℤ) (r : ℕ) (span : Span) : Type 0 where
  pub side : beside x span ≡ true
  pub near : nearby span ≡ true
  pub sign : beside (pos 0) span ≡ true
  pub far : far_from r x span ≡ true

-- a field of two such spans that holds the point, or none
abbrev pub FarAbout : ℕ → ℕ → ℕ → ℕ → Point → Option Field → Type 0
FarAbout y r x q p (Some field) = FarSpan (lowered y) r field.lat × FarSpan (lowered x) q field.lon × (within field p ≡ true)
FarAbout y r x q p None = Unit

-- a remote field that holds the point and lies inside one quadrant about the fix, or none
abbrev pub OpensFar : Point → ℕ → Point → Option Field → Type 0
OpensFar fix least p (Some field) = (aside fix field ≡ true) × Remote fix least field × (within field p ≡ true)
OpensFar fix least p None = Unit
