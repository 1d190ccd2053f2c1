-- Version 1: the moves between the points, and that they are read again from what is written of them. Assumes nothing.
use Rattle.numbers.proofs.Prelude.{ℕ, ◌+◌, lit<, ℤ, ◌+ℤ◌, ◌-ℤ◌, length, Bool, true, false, List, [], ◌∷◌, ◌++◌, append_assoc, flat_map, inl, inr, ◌≡◌, refl, sym, ap, subst, ◌∙◌, arith}
use Rattle.numbers.{proofs.{Answers.{All, found_one}, Spelling.{one_byte, varint_whole}, Tests.{differ}}, specs.Answer.{Answer, found, failed, refused, if◌then◌else◌, in_range, checked, ◌>>=◌}}
use Rattle.numbers.specs.{Varint.{reading_of}, declared.point.RawPoint.{RawPoint}}
use lib.IntN.{+ℤ_comm, +ℤ-neg_ℤ_cancel}
use Rattle.border.{proofs.{OnWay.{At, at_first, at_next, on_way}, Trace.{trace_step}, reader.Turns.{turn_move, turn_marker, mark_closes, advances, open_packed}}, specs.Place.{point_at, moved_by}}
use Rattle.border.specs.{Reader.{onward, closing, advanced}, Trace.{Given, reaches, ended, next_point, Trace, point, closed, trace_then, trace_of, border_at}}
use Rattle.border.specs.declared.place.Point.{Point}
use Rattle.border.specs.declared.reader.{Encoding.{Encoding}, Reader.{Reader}, Run.TheVariants.{Idle}, Version.TheVariants.{Packed}}
use Rattle.writer.specs.Moves.{move_to}
use Rattle.salvage.proofs.moves.{Ends.{unfound, unrefused}, Forms.{step_back, step_some, step_few}, Standing.{reads_both}}
use Rattle.salvage.proofs.moves.Turning.{turn, trace_by, trace_turn, closed_trace, Ranged, Steps, Closes, DoesThere, next_does}
use Rattle.salvage.specs.Moves.Moves.{end_of, origin, goes_on, steps_from, step_number, step_bytes, moves_bytes}
use Rattle.border.specs.Trace as T
use Rattle.border.specs.declared.reader.Turn.{Turn, TheVariants.{Gives as gives}}

-- ---- a point that a move leads to is that far away
sum_gap : (a b : ℤ) → (a +ℤ b) -ℤ a ≡ b
sum_gap a b = ap (λ (z : ℤ). z -ℤ a) (+ℤ_comm a b) ∙ +ℤ-neg_ℤ_cancel b a

gap_move : (p : Point) (by : RawPoint) → move_to p (point_at (p.lat.0 +ℤ by.lat) (p.lon.0 +ℤ by.lon)) ≡ by
unfolding move_to
gap_move p by = rw (sum_gap p.lat.0 by.lat, sum_gap p.lon.0 by.lon)

pub moved_is : (p q : Point) (by : RawPoint) → moved_by p by ≡ found q → move_to p q ≡ by
unfolding moved_by checked
moved_is p q by e = go (in_range 31 (p.lat.0 +ℤ by.lat)) (in_range 31 (p.lon.0 +ℤ by.lon)) e where
  lat : ℤ
  lat = p.lat.0 +ℤ by.lat

  lon : ℤ
  lon = p.lon.0 +ℤ by.lon

  go : (s t : Bool) → ((if s then found lat else refused 13) >>= λ lat. (if t then found lon else refused 13) >>= λ lon. found (point_at lat lon)) ≡ found q → move_to p q ≡ by
  go true true g = subst (λ (r : Point). move_to p r ≡ by) (found_one g) (gap_move p by)
  go true false g = unrefused g
  go false true g = unrefused g
  go false false g = unrefused g

pub origin_ranged : Ranged origin
origin_ranged = record { lat_fits = refl; lon_fits = refl }

-- ---- the moves that are found
module _ (f : List ℕ) (encoding : Encoding) (packed : encoding.version ≡ Packed) where
  -- an open border that closes has a point more
  pub open_goes : (s : Reader) → s.closed ≡ false → Ranged s.point → end_of (trace_of f encoding s) ≡ found tt → goes_on (trace_of f encoding s) ≡ true
  unfolding end_of trace_then
  open_goes s h r e = rw (trace_step f encoding s) (go (next_point f encoding s) (next_does f encoding packed s h r) (rw (trace_step f encoding s) at e)) where
    go : (n : Answer Given) → All (DoesThere s) n → end_of (trace_then n (trace_of f encoding)) ≡ found tt → goes_on (trace_then n (trace_of f encoding)) ≡ true
    go (found (reaches t)) d g = refl
    go (found ended) d g = absurd d
    go failed d g = unfound g
    go (refused n) d g = unrefused g

-- the next point of an open border that closes, and the moves from it on
pub steps_next : (p q : Point) (rest : Trace) → goes_on rest ≡ true → steps_from p (point q rest) ≡ move_to p q ∷ steps_from q rest
unfolding steps_from
steps_next p q rest e = rw e

pub steps_last : (p q : Point) → steps_from p (point q closed) ≡ []
unfolding steps_from
steps_last p q = refl

-- ---- the same moves, read again
module _ (f : List ℕ) (encoding : Encoding) (packed : encoding.version ≡ Packed) where
  -- on the way through a border that is written plainly
  abbrev there : Reader → ℕ → Reader
  there s place = on_way s.begun place 0 Idle s.first s.point

  closes_there : (s : Reader) (place : ℕ) → At f place (0 ∷ 0 ∷ []) → trace_of f encoding (there s place) ≡ point s.first closed
  unfolding trace_by
  closes_there s place here = let u = there s place in let read = reading_of encoding.strict f in
      let zero-here = reads_both encoding.strict (one_byte 0 (lit< tt)) (at_first f place (0 ∷ []) (0 ∷ []) here) in
      let zero-next = reads_both encoding.strict (one_byte 0 (lit< tt)) (at_next f place (0 ∷ []) (0 ∷ []) here) in
      let end = closing (onward (onward u (place + 1) 0 Idle) (place + 1 + 1) 0 Idle) in
      let turned : turn f encoding u ≡ found (gives end) = rw packed (open_packed encoding.strict f encoding.«data» u refl ∙ turn_marker read f
      encoding.«data» u zero-here refl ∙ mark_closes read f encoding.«data» (onward u (place + 1) 0 Idle) zero-next refl) in
      trace_turn f encoding u ∙ ap (λ (t : Answer Turn). trace_by t (trace_of f encoding)) turned ∙ ap (point s.first) (closed_trace f encoding end refl)

  arrives_there : (s t : Reader) → Steps s t → (place : ℕ) → on_way true place 0 Idle (if s.begun then s.first else t.point) t.point ≡ there t place
  arrives_there s t step place = rw (step.has_begun, step.first_kept)

  step_there : (s t : Reader) (step : Steps s t) (place : ℕ) → At f place (step_bytes step.by)
      → trace_of f encoding (there s place) ≡ point t.point (trace_of f encoding (there t (place + length (step_bytes step.by))))
  unfolding trace_by step_bytes
  step_there s t step place here =
      let u = there s place in
      let read = reading_of encoding.strict f in
      let by = step.by in
      let next = place + length (step_bytes by) in
      let number = reads_both encoding.strict (varint_whole (step_number by) (step_few by)) here in
      let turned : turn f encoding u ≡ found (gives (on_way true next 0 Idle (if s.begun then s.first else t.point) t.point)) =
      rw packed
      (open_packed encoding.strict f encoding.«data» u refl
      ∙ turn_move read f encoding.«data» u number (λ z. omega (arith, step_some by step.small))
      ∙ ap (advanced (onward u next 0 Idle)) (step_back by step.small)
      ∙ advances (onward u next 0 Idle) by (sym step.moved)) in
      trace_turn f encoding u
      ∙ ap (λ (t : Answer Turn). trace_by t (trace_of f encoding)) turned
      ∙ ap (λ (v : Reader). point t.point (trace_of f encoding v)) (arrives_there s t step next)

module _ (f f' : List ℕ) (encoding encoding' : Encoding) (packed : encoding.version ≡ Packed) (packed' : encoding'.version ≡ Packed) where
  abbrev Again : Trace → Reader → ℕ → Type 0
  Again trace s place =
      trace_of f encoding s ≡ trace → end_of trace ≡ found tt → s.closed ≡ false → Ranged s.point
      → At f' place (flat_map step_bytes (steps_from s.point trace) ++ (0 ∷ 0 ∷ [])) → trace_of f' encoding' (there f' encoding' packed' s place) ≡ trace

  -- behind a point: it closes the border, or is a move away
  behind : (q : Point) (rest : Trace) (s : Reader) (place : ℕ) → ((t : Reader) (later : ℕ) → Again rest t later) → Again (point q rest) s place
  unfolding trace_then end_of flat_map
  behind q rest s place onwards e ends h r here = go (next_point f encoding s) (next_does f encoding packed s h r) (sym (trace_step f encoding s) ∙ e) where
    closes : (t : Reader) → Closes s t → t.point ≡ q → trace_of f encoding t ≡ rest → trace_of f' encoding' (there f' encoding' packed' s place) ≡ point q rest
    closes t shut at_q at_rest = let over : rest ≡ closed = sym at_rest ∙ closed_trace f encoding t shut.now_closed in
        let none : steps_from s.point (point q rest) ≡ [] = ap (λ (x : Trace). steps_from s.point (point q x)) over ∙ steps_last s.point q in
        closes_there f' encoding' packed' s place (subst (λ (ms : List RawPoint). At f' place (flat_map step_bytes ms ++ (0 ∷ 0 ∷ []))) none here)
        ∙ ap (λ (p : Point). point p closed) (sym shut.back ∙ at_q) ∙ ap (point q) (sym over)

    goes : (t : Reader) → Steps s t → t.point ≡ q → trace_of f encoding t ≡ rest → trace_of f' encoding' (there f' encoding' packed' s place) ≡ point q rest
    goes t step at_q at_rest = let by = step.by in
        let more : goes_on rest ≡ true = subst (λ (x : Trace). goes_on x ≡ true) at_rest (open_goes f encoding packed t step.still_open step.ranged (ap end_of at_rest ∙ ends)) in
        let moves : steps_from s.point (point q rest) ≡ by ∷ steps_from q rest = steps_next s.point q rest more ∙ ap (λ (m : RawPoint). m ∷ steps_from q rest)
        (moved_is s.point q by (step.moved ∙ ap found at_q)) in
        let later = flat_map step_bytes (steps_from q rest) ++ (0 ∷ 0 ∷ []) in
        let bytes : flat_map step_bytes (steps_from s.point (point q rest)) ++ (0 ∷ 0 ∷ []) ≡ step_bytes by ++ later = ap (λ (ms : List RawPoint). flat_map step_bytes ms ++ (0 ∷ 0 ∷ [])) moves
        ∙ append_assoc (step_bytes by) (flat_map step_bytes (steps_from q rest)) (0 ∷ 0 ∷ []) in
        let both : At f' place (step_bytes by ++ later) = subst (At f' place) bytes here in
        step_there f' encoding' packed' s t step place (at_first f' place (step_bytes by) later both) ∙ ap (λ (p : Point). point p (trace_of f' encoding'
        (there f' encoding' packed' t (place + length (step_bytes by))))) at_q ∙ ap (point q) (onwards t (place + length (step_bytes by)) at_rest ends
        step.still_open step.ranged (subst (λ (p : Point). At f' (place + length (step_bytes by)) (flat_map step_bytes (steps_from p rest) ++ (0 ∷ 0 ∷ [])))
        (sym at_q) (at_next f' place (step_bytes by) later both)))

    go : (n : Answer Given) → All (DoesThere s) n → trace_then n (trace_of f encoding) ≡ point q rest → trace_of f' encoding' (there f' encoding' packed' s place) ≡ point q rest
    go (found (reaches t)) (inl step) g = let at_q : t.point ≡ q = cc in let at_rest : trace_of f encoding t ≡ rest = cc in goes t step at_q at_rest
    go (found (reaches t)) (inr shut) g = let at_q : t.point ≡ q = cc in let at_rest : trace_of f encoding t ≡ rest = cc in closes t shut at_q at_rest
    go (found ended) d g = absurd d
    go failed d g = let z : ◌≡◌ {A = ℕ} 0 1 = cc in absurd (omega arith)
    go (refused n) d g = let z : ◌≡◌ {A = ℕ} 0 1 = cc in absurd (omega arith)

  again : (trace : Trace) (s : Reader) (place : ℕ) → Again trace s place
  unfolding end_of
  again (point q rest) s place e ends h r here = behind q rest s place (λ t later. again rest t later) e ends h r here
  again closed s place e ends h r here = differ (subst (λ (x : Trace). goes_on x ≡ true) e (open_goes f encoding packed s h r (ap end_of e ∙ ends)))
  again T.failed s place e ends h r here = unfound ends
  again (T.refused n) s place e ends h r here = unrefused ends

  -- a border of version 1 that closes, written again without borrowed runs at any place of any file, strictly read or not, has the trace that it had
  pub packed_again : (place place' : ℕ) → end_of (trace_of f encoding (border_at place)) ≡ found tt
      → At f' place' (moves_bytes Packed (steps_from origin (trace_of f encoding (border_at place)))) → trace_of f' encoding' (border_at place') ≡ trace_of f encoding (border_at place)
  unfolding moves_bytes
  packed_again place place' ends here = again (trace_of f encoding (border_at place)) (border_at place) place' refl ends refl origin_ranged here
