-- Which numbers a border can be refused with where it is read: 12 and 13, and 31 where it is read strictly. Assumes nothing.
use Rattle.numbers.proofs.{Prelude.{ℕ, zero, suc, ◌^◌, eqb, ltb, ℤ, pos, negsuc, mag, Bool, true, List, ◌≡◌}, Readings.{reading_numbered}, Refusals.{Numbered, as_found, as_failed, as_refused}}
use Rattle.numbers.{proofs.Refusals.{either, then_numbered, backward_numbered}, specs.{Answer.{Answer, found}, Varint.{reading_of}, declared.point.RawPoint.{RawPoint}}}
use Rattle.border.specs.{Place.{moved_by, negated}, Reader.{Turn, gives, again, ends, advanced, plain_move, plain_pair, plain_turn, opened, reference, marker, lent, packed_turn, turn_of}}
use Rattle.border.specs.{Trace.{Given, reaches, ended, round_again, turns, next_within, next_point, Trace, trace_then, trace_within, trace_of}, declared.place.Point.{Point}}
use Rattle.border.specs.declared.reader.{Encoding.{Encoding}, Reader.{Reader}, Run.{Run, TheVariants.{Idle, Forward, Backward}}, Version.{Version, TheVariants.{Plain, Packed}}}
use Rattle.numbers.specs.Answer as A
use Rattle.border.specs.Trace as T

-- a number that a trace is refused with has the property
pub data NumberedTrace (P : ℕ → Type 0) : Trace → Type 0 where
  point : {p : Point} {trace : Trace} → NumberedTrace P trace → NumberedTrace P (T.point p trace)
  closed : NumberedTrace P T.closed
  failed : NumberedTrace P T.failed
  stopped : {n : ℕ} → P n → NumberedTrace P (T.refused n)

module _ {P : ℕ → Type 0} (twelve : P 12) (thirteen : P 13) where
  -- ---- the reader
  fits : (bits : ℕ) (z : ℤ) → Numbered P (A.checked bits z)
  unfolding A.checked
  fits bits z = either (Numbered P) (ltb (mag z) (2 ^ bits)) as_found (as_refused thirteen)

  moved : (p : Point) (by : RawPoint) → Numbered P (moved_by p by)
  unfolding moved_by
  moved p by = then_numbered (fits 31 _) (λ lat. then_numbered (fits 31 _) (λ lon. as_found))

  turned_back : (by : RawPoint) → Numbered P (negated by)
  unfolding negated
  turned_back by = then_numbered (fits 31 _) (λ lat. then_numbered (fits 31 _) (λ lon. as_found))

  advance : (s : Reader) (by : RawPoint) → Numbered P (advanced s by)
  unfolding advanced
  advance s by = then_numbered (moved s.point by) (λ p. as_found)

  plain_move_lem : (s : Reader) (by : RawPoint) → Numbered P (plain_move s by)
  unfolding plain_move
  plain_move_lem s by = either (Numbered P) (eqb s.moves 0) as_found (then_numbered (moved s.point by) (λ p. as_found))

  opens : (base : ℕ) (start length : ℤ) → Numbered P (opened base start length)
  unfolding opened
  opens base start (pos zero) = as_found
  opens base start (pos (suc n)) = then_numbered (fits 63 _) (λ end. as_found)
  opens base start (negsuc n) = then_numbered (fits 63 _) (λ end. as_found)

  lends : (value : ℕ) → Numbered P (lent value)
  unfolding lent
  lends value = either (Numbered P) (eqb value 0) as_failed as_found

  -- a strict reading can also be refused with 31
  module _ (strict : Bool) (cut : strict ≡ true → P 31) (f : List ℕ) where
    forward : (place : ℕ) → Numbered P (reading_of strict f place)
    forward = reading_numbered strict twelve cut f

    plain_pair_lem : (s : Reader) → Numbered P (plain_pair (reading_of strict f) s)
    unfolding plain_pair
    plain_pair_lem s = then_numbered (forward s.place) (λ lat. then_numbered (forward lat.place) (λ lon. plain_move_lem _ _))

    plain_turn_lem : (s : Reader) → Numbered P (plain_turn (reading_of strict f) s)
    unfolding plain_turn
    plain_turn_lem s =
        either (Numbered P) s.begun (plain_pair_lem s) (then_numbered (forward s.place) (λ count. either (Numbered P) (eqb count.value 0) as_failed (plain_pair_lem _)))

    refers : (base : ℕ) (s : Reader) → Numbered P (reference (reading_of strict f) base s)
    unfolding reference
    refers base s =
        then_numbered (forward s.place) (λ start. then_numbered (forward start.place) (λ length. then_numbered (opens base _ _) (λ run. as_found)))

    marks : (base : ℕ) (s : Reader) → Numbered P (marker (reading_of strict f) base s)
    unfolding marker
    marks base s =
        then_numbered (forward s.place) (λ mark. either (Numbered P) (eqb mark.value 0) as_found (either (Numbered P) (eqb mark.value 1) (refers base _) as_found))

    packed_turn_lem : (run : Run) (base : ℕ) (s : Reader) → Numbered P (packed_turn run (reading_of strict f) f base s)
    unfolding packed_turn
    packed_turn_lem Idle base s = then_numbered (forward s.place) (λ number. either (Numbered P) (eqb number.value 0) (marks base _) (advance _ _))
    packed_turn_lem (Forward next end) base s = then_numbered (forward next) (λ number. then_numbered (lends number.value) (λ by. advance _ by))
    packed_turn_lem (Backward next end) base s =
        then_numbered (backward_numbered twelve f next) (λ number. then_numbered (lends number.value) (λ by. then_numbered (turned_back by) (λ back. advance _ back)))

    turn : (version : Version) (base : ℕ) (s : Reader) → Numbered P (turn_of strict f version base s)
    unfolding turn_of
    turn Plain base s = either (Numbered P) s.closed as_found (plain_turn_lem s)
    turn Packed base s = either (Numbered P) s.closed as_found (packed_turn_lem s.run base s)

  rounds : {rest : Reader → Answer Given} → ((s : Reader) → Numbered P (rest s)) → (t : Turn) → Numbered P (round_again rest t)
  unfolding round_again
  rounds k (gives s) = as_found
  rounds k (again s) = k s
  rounds k ends = as_found

  within : (more : ℕ) (f : List ℕ) (encoding : Encoding) → (encoding.strict ≡ true → P 31) → (s : Reader) → Numbered P (next_within more f encoding s)
  unfolding next_within
  within zero f encoding cut s = as_failed
  within (suc more) f encoding cut s = then_numbered (turn encoding.strict cut f encoding.version encoding.«data» s) (rounds (within more f encoding cut))

  pub next_numbered : (f : List ℕ) (encoding : Encoding) → (encoding.strict ≡ true → P 31) → (s : Reader) → Numbered P (next_point f encoding s)
  unfolding next_point
  next_numbered f encoding cut s = within (turns f) f encoding cut s

  -- ---- the trace
  traces : (answer : Answer Given) {rest : Reader → Trace} → Numbered P answer → ((s : Reader) → NumberedTrace P (rest s)) → NumberedTrace P (trace_then answer rest)
  unfolding trace_then
  traces (found (reaches s)) h k = point (k s)
  traces (found ended) h k = closed
  traces A.failed h k = failed
  traces (A.refused n) (as_refused h) k = stopped h

  trace_within_lem : (more : ℕ) (f : List ℕ) (encoding : Encoding) → (encoding.strict ≡ true → P 31) → (s : Reader) → NumberedTrace P (trace_within more f encoding s)
  unfolding trace_within
  trace_within_lem zero f encoding cut s = failed
  trace_within_lem (suc more) f encoding cut s = traces (next_point f encoding s) (next_numbered f encoding cut s) (trace_within_lem more f encoding cut)

  pub trace_numbered : (f : List ℕ) (encoding : Encoding) → (encoding.strict ≡ true → P 31) → (s : Reader) → NumberedTrace P (trace_of f encoding s)
  unfolding trace_of
  trace_numbered f encoding cut s = trace_within_lem (turns f) f encoding cut s
