-- A border read strictly (request Q-6): refused 31, or the points of the plain reading. Assumes nothing.
use Rattle.numbers.proofs.Prelude.{ℕ, zero, suc, eqb, true, false, List}
use Rattle.numbers.{proofs.Readings.{Strictly, cut, same, then_strictly, strictly_either, reading_strictly}, specs.{Answer.{Answer, found}, Varint.{reading_of}}}
use Rattle.border.specs.{Encoding.{encoded_by}, Reader.{Turn, gives, again, ends, onward, plain_pair, plain_turn, reference, marker, packed_turn, turn_of}}
use Rattle.border.specs.{Trace.{Given, reaches, ended, round_again, turns, next_within, next_point, Trace, trace_then, trace_within, trace_of}, declared.{place.Point.{Point}, reader.Reader.{Reader}}}
use Rattle.border.specs.declared.reader.{Run.{Run, TheVariants.{Idle, Forward, Backward}}, Version.{Version, TheVariants.{Plain, Packed}}}
use Rattle.numbers.specs.Answer as A
use Rattle.border.specs.Trace as T

-- ---- one turn
module _ (f : List ℕ) where
  pair_strictly : (s : Reader) → Strictly (plain_pair (reading_of true f) s) (plain_pair (reading_of false f) s)
  unfolding plain_pair
  pair_strictly s = then_strictly (reading_strictly f s.place) (λ lat. then_strictly (reading_strictly f lat.place) (λ lon. same))

  plain_strictly : (s : Reader) → Strictly (plain_turn (reading_of true f) s) (plain_turn (reading_of false f) s)
  unfolding plain_turn
  plain_strictly s =
      strictly_either s.begun (pair_strictly s)
      (then_strictly (reading_strictly f s.place) (λ count. strictly_either (eqb count.value 0) same (pair_strictly (onward s count.place count.value Idle))))

  reference_strictly : (base : ℕ) (s : Reader) → Strictly (reference (reading_of true f) base s) (reference (reading_of false f) base s)
  unfolding reference
  reference_strictly base s = then_strictly (reading_strictly f s.place) (λ start. then_strictly (reading_strictly f start.place) (λ length. same))

  marker_strictly : (base : ℕ) (s : Reader) → Strictly (marker (reading_of true f) base s) (marker (reading_of false f) base s)
  unfolding marker
  marker_strictly base s =
      then_strictly (reading_strictly f s.place)
      (λ mark. strictly_either (eqb mark.value 0) same (strictly_either (eqb mark.value 1) (reference_strictly base (onward s mark.place s.moves Idle)) same))

  packed_strictly : (run : Run) (base : ℕ) (s : Reader) → Strictly (packed_turn run (reading_of true f) f base s) (packed_turn run (reading_of false f) f base s)
  unfolding packed_turn
  packed_strictly Idle base s =
      then_strictly (reading_strictly f s.place) (λ number. strictly_either (eqb number.value 0) (marker_strictly base (onward s number.place s.moves Idle)) same)
  packed_strictly (Forward next end) base s = then_strictly (reading_strictly f next) (λ number. same)
  packed_strictly (Backward next end) base s = same

  turn_strictly : (version : Version) (base : ℕ) (s : Reader) → Strictly (turn_of true f version base s) (turn_of false f version base s)
  unfolding turn_of
  turn_strictly Plain base s = strictly_either s.closed same (plain_strictly s)
  turn_strictly Packed base s = strictly_either s.closed same (packed_strictly s.run base s)

-- ---- the next point
rounds : {rest rest' : Reader → Answer Given} → ((s : Reader) → Strictly (rest s) (rest' s)) → (t : Turn) → Strictly (round_again rest t) (round_again rest' t)
unfolding round_again
rounds h (gives s) = same
rounds h (again s) = h s
rounds h ends = same

module _ (f : List ℕ) (version : Version) (base : ℕ) where
  within_strictly : (more : ℕ) (s : Reader) → Strictly (next_within more f (encoded_by true version base) s) (next_within more f (encoded_by false version base) s)
  unfolding next_within
  within_strictly zero s = same
  within_strictly (suc more) s = then_strictly (turn_strictly f version base s) (rounds (within_strictly more))

  pub next_strictly : (s : Reader) → Strictly (next_point f (encoded_by true version base) s) (next_point f (encoded_by false version base) s)
  unfolding next_point
  next_strictly s = within_strictly (turns f) s

-- ---- the trace: the same points, up to where it is refused 31
pub data StrictTrace : Trace → Trace → Type 0 where
  point : {p : Point} {strict plain : Trace} → StrictTrace strict plain → StrictTrace (T.point p strict) (T.point p plain)
  cut_off : {plain : Trace} → StrictTrace (T.refused 31) plain
  alike : {trace : Trace} → StrictTrace trace trace

then_trace : {strict plain : Answer Given} {k k' : Reader → Trace} → Strictly strict plain → ((s : Reader) → StrictTrace (k s) (k' s)) → StrictTrace (trace_then strict k) (trace_then plain k')
unfolding trace_then
then_trace cut h = cut_off
then_trace (same {answer = found (reaches s)}) h = point (h s)
then_trace (same {answer = found ended}) h = alike
then_trace (same {answer = A.failed}) h = alike
then_trace (same {answer = A.refused n}) h = alike

module _ (f : List ℕ) (version : Version) (base : ℕ) where
  trace_within_lem : (more : ℕ) (s : Reader) → StrictTrace (trace_within more f (encoded_by true version base) s) (trace_within more f (encoded_by false version base) s)
  unfolding trace_within
  trace_within_lem zero s = alike
  trace_within_lem (suc more) s = then_trace (next_strictly f version base s) (trace_within_lem more)

  pub trace_strictly : (s : Reader) → StrictTrace (trace_of f (encoded_by true version base) s) (trace_of f (encoded_by false version base) s)
  unfolding trace_of
  trace_strictly s = trace_within_lem (turns f) s
