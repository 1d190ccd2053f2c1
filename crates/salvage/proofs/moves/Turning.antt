-- Version 1: what a turn does to a border that is not closed, and the trace by turns. Assumes nothing.
use Rattle.numbers.proofs.Prelude.{ℕ, zero, suc, ◌<◌, eqb, ℤ, pos, ◌+ℤ◌, Bool, true, false, List, ◌⊎◌, inl, inr, ◌≡◌, refl, sym, ap, subst, ◌∙◌, arith}
use Rattle.numbers.{proofs.Answers.{All, then_all, any}, specs.{Answer.{Answer, found, failed, refused, if◌then◌else◌, in_range, checked, ◌>>=◌}, Point.{signed_of, point_of}}}
use Rattle.numbers.specs.{Varint.{reading_of, backward_at}, declared.point.RawPoint.{RawPoint}}
use lib.IntN.{+ℤ_idr}
use native.Mathlib.Nat.{lt-suc_self}
use Rattle.border.{proofs.{Room.{left}, Trace.{next_step, trace_step, again_less}, reader.Turns.{open_packed, closed_ends}}, specs.Place.{point_at, move_by, moved_by, negated}}
use Rattle.border.specs.Reader.{Reading, onward, arrived, advanced, as_i64, opened, reference, marker, lent, packed_turn, turn_of}
use Rattle.border.specs.Trace.{Given, reaches, ended, round_again, next_point, Trace, point, closed, trace_then, trace_of}
use Rattle.border.specs.declared.{place.Point.{Point}, reader.{Encoding.{Encoding}, Reader.{Reader}}}
use Rattle.border.specs.declared.reader.{Run.{Run, TheVariants.{Idle, Forward, Backward}}, Version.TheVariants.{Packed}}
use Rattle.salvage.proofs.moves.Forms.{Small, point_tiny, still_tiny, negated_tiny}
use Rattle.border.specs.Trace as T
use Rattle.border.specs.declared.reader.Turn.{Turn, TheVariants.{Gives as gives, Again as again, Ended as ends}}

-- ---- the trace, turn by turn
unfoldable pub trace_by : Answer Turn → (Reader → Trace) → Trace
trace_by (found (gives t)) rest = point t.point (rest t)
trace_by (found (again t)) rest = rest t
trace_by (found ends) rest = closed
trace_by failed rest = T.failed
trace_by (refused n) rest = T.refused n

module _ (f : List ℕ) (encoding : Encoding) where
  abbrev pub turn : Reader → Answer Turn
  turn s = turn_of encoding.strict f encoding.version encoding.«data» s

  pub trace_turn : (s : Reader) → trace_of f encoding s ≡ trace_by (turn s) (trace_of f encoding)
  unfolding trace_by round_again trace_then
  trace_turn s = trace_step f encoding s ∙ ap (λ (n : Answer Given). trace_then n (trace_of f encoding)) (next_step f encoding s) ∙ go (turn s) where
    go : (t : Answer Turn) → trace_then (t >>= round_again (next_point f encoding)) (trace_of f encoding) ≡ trace_by t (trace_of f encoding)
    go (found (gives t)) = refl
    go (found (again t)) = sym (trace_step f encoding t)
    go (found ends) = refl
    go failed = refl
    go (refused n) = refl

  -- a closed border has ended
  pub closed_trace : (s : Reader) → s.closed ≡ true → trace_of f encoding s ≡ closed
  unfolding trace_by
  closed_trace s h = trace_turn s ∙ ap (λ (t : Answer Turn). trace_by t (trace_of f encoding)) (closed_ends encoding.strict f encoding.version encoding.«data» s h)

-- ---- points of an i32
pub record Ranged (p : Point) : Type 0 where
  pub lat_fits : in_range 31 p.lat.0 ≡ true
  pub lon_fits : in_range 31 p.lon.0 ≡ true

pub moved_ranged : (p : Point) (by : RawPoint) → All Ranged (moved_by p by)
unfolding moved_by checked
moved_ranged p by = go (in_range 31 (p.lat.0 +ℤ by.lat)) (in_range 31 (p.lon.0 +ℤ by.lon)) refl refl where
  lat : ℤ
  lat = p.lat.0 +ℤ by.lat

  lon : ℤ
  lon = p.lon.0 +ℤ by.lon

  go : (s t : Bool) → in_range 31 lat ≡ s → in_range 31 lon ≡ t
      → All Ranged ((if s then found lat else refused 13) >>= λ lat. (if t then found lon else refused 13) >>= λ lon. found (point_at lat lon))
  go true true a b = record { lat_fits = a; lon_fits = b }
  go true false a b = tt
  go false true a b = tt
  go false false a b = tt

stays : (p : Point) → Ranged p → moved_by p (move_by (pos 0) (pos 0)) ≡ found p
unfolding moved_by checked
stays p h = rw (+ℤ_idr p.lat.0, +ℤ_idr p.lon.0, h.lat_fits, h.lon_fits)

-- ---- what a turn does
-- a small move leads to the next point, and the border stays open
pub record Steps (s t : Reader) : Type 0 where
  pub still_open : t.closed ≡ false
  pub has_begun : t.begun ≡ true
  pub first_kept : t.first ≡ (if s.begun then s.first else t.point)
  pub by : RawPoint
  pub small : Small by
  pub moved : moved_by s.point by ≡ found t.point
  pub ranged : Ranged t.point

-- the first point again
pub record Closes (s t : Reader) : Type 0 where
  pub now_closed : t.closed ≡ true
  pub back : t.point ≡ s.first

-- only the place and the run have changed
pub record Same (s t : Reader) : Type 0 where
  pub same_open : t.closed ≡ false
  pub same_begun : t.begun ≡ s.begun
  pub same_first : t.first ≡ s.first
  pub same_point : t.point ≡ s.point

abbrev Does : Reader → Turn → Type 0
Does s (gives t) = Steps s t ⊎ Closes s t
Does s (again t) = Same s t
Does s ends = ⊥

either : {A : Type 0} (P : A → Type 0) (test : Bool) (x y : Answer A) → All P x → All P y → All P (if test then x else y)
either P true x y h k = h
either P false x y h k = k

module _ (s : Reader) where
  step_to : (u : Reader) → Same s u → (by : RawPoint) → Small by → (p : Point) → moved_by u.point by ≡ found p → Ranged p → Steps s (arrived u p)
  step_to u same by small p e r =
      record {
        still_open = same.same_open;
        has_begun = refl;
        first_kept = rw (same.same_begun, same.same_first);
        by = by;
        small = small;
        moved = rw same.same_point at e;
        ranged = r;
      }

  advance_does : (u : Reader) → Same s u → (by : RawPoint) → Small by → All (Does s) (advanced u by)
  unfolding advanced
  advance_does u same by small = go (moved_by u.point by) refl (moved_ranged u.point by) where
    go : (answer : Answer Point) → moved_by u.point by ≡ answer → All Ranged answer → All (Does s) (answer >>= λ p. found (gives (arrived u p)))
    go (found p) e r = inl (step_to u same by small p e r)
    go failed e r = tt
    go (refused n) e r = tt

  -- the same point, at another place
  moved_on : s.closed ≡ false → (place moves : ℕ) (run : Run) → Same s (onward s place moves run)
  moved_on h place moves run = record { same_open = h; same_begun = refl; same_first = refl; same_point = refl }

module _ (read : Reading) (base : ℕ) (s : Reader) (h : s.closed ≡ false) where
  reference_does : (place : ℕ) → All (Does s) (reference read base (onward s place s.moves Idle))
  unfolding reference
  reference_does place =
      then_all _ (Does s) (read place) _ (any (read place)) (λ start k. then_all _ (Does s) (read start.place) _ (any (read start.place))
      (λ size l. then_all _ (Does s) (opened base (as_i64 start.value) (signed_of size.value)) _ (any (opened base (as_i64 start.value) (signed_of size.value)))
      (λ run m. moved_on s h size.place s.moves run)))

  marker_does : Ranged s.point → (place : ℕ) → All (Does s) (marker read base (onward s place s.moves Idle))
  unfolding marker
  marker_does r place =
      then_all _ (Does s) (read place) _ (any (read place)) (λ mark k. either (Does s) (eqb mark.value 0) _ _ (inr (record { now_closed = refl; back = refl }))
      (either (Does s) (eqb mark.value 1) _ _ (reference_does mark.place) (inl (step_to s (onward s mark.place s.moves Idle)
      (moved_on s h mark.place s.moves Idle) (move_by (pos 0) (pos 0)) still_tiny s.point (stays s.point r) r))))

lent_tiny : (value : ℕ) → All Small (lent value)
unfolding lent
lent_tiny value = either Small (eqb value 0) _ _ tt (point_tiny value)

module _ (read : Reading) (f : List ℕ) (base : ℕ) (s : Reader) (h : s.closed ≡ false) (r : Ranged s.point) where
  packed_does : (run : Run) → All (Does s) (packed_turn run read f base s)
  unfolding packed_turn
  packed_does Idle =
      then_all _ (Does s) (read s.place) _ (any (read s.place)) (λ number k. either (Does s) (eqb number.value 0) _ _ (marker_does read base s h r
      number.place) (advance_does s (onward s number.place s.moves Idle) (moved_on s h number.place s.moves Idle) (point_of number.value) (point_tiny number.value)))
  packed_does (Forward next end) =
      then_all _ (Does s) (read next) _ (any (read next)) (λ number k. then_all Small (Does s) (lent number.value) _ (lent_tiny number.value)
      (λ by small. advance_does s _ (moved_on s h s.place s.moves _) by small))
  packed_does (Backward next end) =
      then_all _ (Does s) (backward_at f next) _ (any (backward_at f next)) (λ number k. then_all Small (Does s) (lent number.value) _ (lent_tiny number.value)
      (λ by small. then_all Small (Does s) (negated by) _ (negated_tiny by small) (λ back tiny. advance_does s _ (moved_on s h s.place s.moves _) back tiny)))

-- ---- up to the next point
abbrev pub DoesThere : Reader → Given → Type 0
DoesThere s (reaches t) = Steps s t ⊎ Closes s t
DoesThere s ended = ⊥

same_then : (s t : Reader) → Same s t → (g : Given) → DoesThere t g → DoesThere s g
same_then s t same (reaches u) (inl step) =
    inl (record {
      still_open = step.still_open;
      has_begun = step.has_begun;
      first_kept = rw (← same.same_begun, ← same.same_first) step.first_kept;
      by = step.by;
      small = step.small;
      moved = rw same.same_point at step.moved;
      ranged = step.ranged;
    })
same_then s t same (reaches u) (inr shut) = inr (record { now_closed = shut.now_closed; back = shut.back ∙ same.same_first })
same_then s t same ended none = none

all_same : (s t : Reader) → Same s t → (answer : Answer Given) → All (DoesThere t) answer → All (DoesThere s) answer
all_same s t same (found g) h = same_then s t same g h
all_same s t same failed h = tt
all_same s t same (refused n) h = tt

module _ (f : List ℕ) (encoding : Encoding) (packed : encoding.version ≡ Packed) where
  turn_does : (s : Reader) → s.closed ≡ false → Ranged s.point → All (Does s) (turn f encoding s)
  turn_does s h r =
      rw (packed, open_packed encoding.strict f encoding.«data» s h) (packed_does (reading_of encoding.strict f) f encoding.«data» s h r s.run)

  next_within : (n : ℕ) (s : Reader) → left f s < n → s.closed ≡ false → Ranged s.point → All (DoesThere s) (next_point f encoding s)
  unfolding round_again
  next_within zero s l h r = absurd (omega arith)
  next_within (suc n) s l h r = rw (next_step f encoding s) (go (turn f encoding s) refl (turn_does s h r) (λ t k o q. next_within n t k o q)) where
    go : (t : Answer Turn) → t ≡ turn f encoding s → All (Does s) t → ((t : Reader) → left f t < n → t.closed ≡ false → Ranged t.point → All (DoesThere t) (next_point f encoding t))
        → All (DoesThere s) (t >>= round_again (next_point f encoding))
    go (found (gives t)) e d rest = d
    go (found (again t)) e d rest =
        all_same s t d (next_point f encoding t) (rest t (omega (arith, again_less f encoding s t e)) d.same_open (subst Ranged (sym d.same_point) r))
    go (found ends) e d rest = absurd d
    go failed e d rest = tt
    go (refused n) e d rest = tt

  -- the next point of an open border is a small move away, or closes it; there is none only where reading fails or is refused
  pub next_does : (s : Reader) → s.closed ≡ false → Ranged s.point → All (DoesThere s) (next_point f encoding s)
  next_does s h r = next_within (suc (left f s)) s (lt-suc_self (left f s)) h r
