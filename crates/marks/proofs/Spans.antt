-- The stretch from a state on: its box holds its points, and behind it the border goes on round. Assumes nothing.
use Rattle.numbers.{proofs.Prelude.{ℕ, zero, suc, ◌-◌, true, List, ◌≡◌, sym, subst, arith}, specs.Answer.{found}}
use Rattle.border.{proofs.Trace.{trace_step, point_trace}, specs.{Box.{Box, grown, holds}, Trace.{Trace, closed, ended, next_point, trace_then, trace_of}, declared.place.Point.{Point}}}
use Rattle.border.specs.declared.reader.{Encoding.{Encoding}, Reader.{Reader}}
use Rattle.verdict.specs.Stretch.{Stretch, stays, leads}
use Rattle.marks.specs.Marks.{next_or, Span, span_over}
use Rattle.marks.proofs.{Boxes.{grown_holds, taken_holds}, Rounds.{Round, closes, goes}}

module _ (file : List ℕ) (encoding : Encoding) (first : Point) where
  abbrev rest : Reader → Trace
  rest = trace_of file encoding

  pub ended_trace : (s : Reader) → next_point file encoding s ≡ found ended → rest s ≡ closed
  unfolding trace_then
  ended_trace s e = rw (trace_step file encoding s, e)

  pub record Spans (box : Box) (s : Reader) (n : ℕ) (span : Span) : Type 0 where
    pub stretch : Stretch span.box s.point (rest s) span.last.point (rest span.last)
    pub wider : (q : Point) → holds box q ≡ true → holds span.box q ≡ true
    pub behind : Round file encoding first span.last n

  pub spans : (edges : ℕ) (s : Reader) (n : ℕ) (box : Box) → Round file encoding first s n → Spans box s (n - edges) (span_over edges file encoding s box)
  unfolding span_over next_or
  spans zero s n box r = let e : n - 0 ≡ n = omega arith in record { stretch = stays; wider = λ q h. h; behind = rw e r }
  spans (suc more) s zero box (closes e p) = let z : 0 - suc more ≡ 0 = omega arith in rw (e, z) (record { stretch = stays; wider = λ q h. h; behind = closes e p })
  spans (suc more) s (suc n) box (goes {t = t} e m r) = rw e (next (spans more t n (grown box t.point) r)) where
    next : {span : Span} → Spans (grown box t.point) t (n - more) span → Spans box s (suc n - suc more) span
    next {span} later = let i : suc n - suc more ≡ n - more = omega arith in record {
      stretch =
          subst (λ (trace : Trace). Stretch span.box s.point trace span.last.point (rest span.last)) (point_trace file encoding s t (sym e))
          (leads (later.wider t.point (taken_holds box t.point)) later.stretch);
      wider = λ q h. later.wider q (grown_holds box t.point q h);
      behind = rw i later.behind;
    }
