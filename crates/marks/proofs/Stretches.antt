-- A stretch of a border that comes round, by its points or, where it may be passed so, by a leap. Assumes nothing.
use Rattle.numbers.proofs.Prelude.{ℕ, zero, suc, ◌+◌, ◌-◌, ◌*◌, ◌%◌, ◌<◌, not-true, eqb, ℤ, pos, negsuc, ◌+ℤ◌, nat_abs, Bool, true, false, not, List, ◌≡◌, refl, sym, ap, ◌∙◌, arith}
use Rattle.numbers.{proofs.Tests.{both}, specs.Answer.{if◌then◌else◌}}
use Rattle.border.{proofs.Trace.{point_trace}, specs.{Box.{Box, grown, holds}, Trace.{Trace, point, trace_of}, declared.{place.Point.{Point}, reader.{Encoding.{Encoding}, Reader.{Reader}}}}}
use Rattle.verdict.{proofs.{Stretch.{Roomy, stretch_is_leap, afar_is_leap}, Unasked.{passing_least}, Winds.{Winds, bound_winds, passing_winds, leapt_winds}}, specs.Edge.{in_box, quadrant_of}}
use Rattle.verdict.specs.{Far.{is_afar}, Step.{Step, found, meets, refused, ◌>>=◌, checked}, Stretch.{Stretch, leapt, passing_first}, Verdict.{after, passing, then_on, judge}}
use Rattle.verdict.specs.{Winding.{turned, quarter_by}, declared.step.Tally.{Tally}}
use Rattle.marks.specs.{Judging.{can_pass}, Marks.{next_or, span_over, span_from}}
use Rattle.marks.proofs.{Boxes.{own_holds, out_of_box}, Groups.{last_over}, Parts.{then_through, least_same, weaker, Keeps, keeps_here, keeps_both, JudgesAt, Judges, judges_either}}
use Rattle.marks.proofs.{Rounds.{Round, closes, goes}, Spans.{Spans, spans, ended_trace}}
use Rattle.border.specs.Trace as T

roomy : (z : ℤ) → nat_abs z < 2147483647 → Roomy z
roomy (pos n) h = h
roomy (negsuc n) h = omega (arith, h)

module _ (fix : Point) (asked : Bool) where
  edge_keeps : (p to : Point) (t : Tally) → Keeps asked t (passing fix asked (after p) to t)
  edge_keeps p to t = go asked where
    go : (b : Bool) → Keeps b t (passing fix b (after p) to t)
    go true = record { least = λ plainly u e. let z : ◌≡◌ {A = ℕ} 0 1 = cc in absurd (omega arith) }
    go false = record { least = λ plainly u e. passing_least fix p to t u e }

  first_winds : (edges : ℕ) (p : Point) (trace : Trace) (t : Tally) → Winds (nat_abs t.winding + 2 * edges) (passing_first fix asked edges (after p) trace t)
  unfolding passing_first
  first_winds zero p trace t = omega arith
  first_winds (suc more) p (point to trace) t =
      bound_winds (nat_abs t.winding + 2) (nat_abs t.winding + 2 * suc more) (passing fix asked (after p) to t) (passing_first fix asked more (after to) trace)
      (passing_winds fix asked p to t)
      (λ u g. weaker (nat_abs u.winding + 2 * more) (nat_abs t.winding + 2 * suc more) (passing_first fix asked more (after to) trace u) (omega (arith, g)) (first_winds more to trace u))
  first_winds (suc more) p T.closed t = omega arith
  first_winds (suc more) p T.failed t = omega arith
  first_winds (suc more) p (T.refused n) t = omega arith

  first_keeps : (edges : ℕ) (p : Point) (trace : Trace) (t : Tally) → Keeps asked t (passing_first fix asked edges (after p) trace t)
  unfolding passing_first
  first_keeps zero p trace t = keeps_here asked t
  first_keeps (suc more) p (point to trace) t =
      keeps_both asked t (passing fix asked (after p) to t) (passing_first fix asked more (after to) trace) (edge_keeps p to t) (λ u. first_keeps more to trace u)
  first_keeps (suc more) p T.closed t = keeps_here asked t
  first_keeps (suc more) p T.failed t = keeps_here asked t
  first_keeps (suc more) p (T.refused n) t = keeps_here asked t

module _ (file : List ℕ) (encoding : Encoding) (fix : Point) (asked : Bool) (first : Point) where
  abbrev rest : Reader → Trace
  rest = trace_of file encoding

  -- ---- a stretch that is read
  read_all : (edges : ℕ) (s : Reader) (n : ℕ) (box : Box) (t : Tally) → Round file encoding first s n
      → then_on asked t.least (passing_first fix asked edges (after s.point) (rest s) t)
      (λ u. judge fix asked (after (span_over edges file encoding s box).last.point) u (rest (span_over edges file encoding s box).last)) ≡ judge fix asked (after s.point) t (rest s)
  unfolding passing_first span_over next_or then_on judge
  read_all zero s n box t r = refl
  read_all (suc more) s zero box t (closes e p) = rw (e, ended_trace file encoding first s e)
  read_all (suc more) s (suc n) box t (goes {t = later} e m r) =
      rw (e, ← point_trace file encoding s later (sym e)) (then_through asked t.least (passing fix asked (after s.point) later.point t)
      (passing_first fix asked more (after later.point) (rest later)) _ _ (λ u g. least_same asked t.least u.least (λ plainly. (edge_keeps fix asked
      s.point later.point t).least plainly u g) (passing_first fix asked more (after later.point) (rest later) u) (λ v. judge fix asked
      (after (span_over more file encoding later (grown box later.point)).last.point) v (rest (span_over more file encoding later (grown box later.point)).last))
      ∙ read_all more later n (grown box later.point) u r))

  pub points_judge : (edges : ℕ) (s : Reader) (n : ℕ) → Round file encoding first s n → Judges file encoding fix asked edges s (passing_first fix asked edges (after s.point) (rest s))
  points_judge edges s n r t = record {
    winds = first_winds fix asked edges s.point (rest s) t;
    keeps = first_keeps fix asked edges s.point (rest s) t;
    same = λ room. read_all edges s n (record { low = s.point; high = s.point }) t r;
  }

-- ---- a stretch that is passed by a leap
-- a leap leaves the least distance so far
abbrev least_of : Step Tally → ℕ
least_of (found t) = t.least
least_of (meets v) = 0
least_of (refused n) = 0

turned_least : (by : ℤ) (t u : Tally) → turned by t ≡ found u → u.least ≡ t.least
unfolding turned
turned_least by t u = go (checked 31 (t.winding +ℤ by)) where
  go : (m : Step ℤ) → (m >>= λ w. found (record { winding = w; least = t.least })) ≡ found u → u.least ≡ t.least
  go (found w) e = sym (ap least_of e)
  go (meets v) e = let z : ◌≡◌ {A = ℕ} 0 1 = cc in absurd (omega arith)
  go (refused n) e = let z : ◌≡◌ {A = ℕ} 0 1 = cc in absurd (omega arith)

leapt_least : (fix from to : Point) (t u : Tally) → leapt fix from to t ≡ found u → u.least ≡ t.least
unfolding leapt quarter_by
leapt_least fix from to t u = go (eqb quarters 1) (eqb quarters 3) where
  quarters : ℕ
  quarters = (quadrant_of fix to + 4 - quadrant_of fix from) % 4

  go : (a b : Bool) → (if a then turned (pos 1) t else (if b then turned (negsuc 0) t else found t)) ≡ found u → u.least ≡ t.least
  go true b e = turned_least (pos 1) t u e
  go false true e = turned_least (negsuc 0) t u e
  go false false e = sym (ap least_of e)

-- a stretch that may be passed so does what the leap to its end does
passed_is_leap : (asked : Bool) (fix : Point) (box : Box) {from to : Point} {trace left : Trace} (t : Tally) → can_pass fix asked t.least box.low box.high ≡ true → holds box from ≡ true
    → Stretch box from trace to left → Roomy t.winding
    → judge fix asked (after from) t trace ≡ then_on asked t.least (leapt fix from to t) (λ u. judge fix asked (after to) u left)
unfolding can_pass judge
passed_is_leap true fix box t e start stretch room = let h = both (not (in_box box.low fix box.high)) (is_afar fix t.least box.low box.high) e in
    afar_is_leap fix box t (out_of_box box fix (not-true _ h.0)) h.1 start stretch room
passed_is_leap false fix box t e start stretch room =
    stretch_is_leap fix box t (out_of_box box fix (not-true _ (both (not (in_box box.low fix box.high)) true e).0)) start stretch room

module _ (file : List ℕ) (encoding : Encoding) (fix : Point) (asked : Bool) (first : Point) (edges : ℕ) (some : 0 < edges) (s : Reader) (n : ℕ) (r : Round file encoding first s n) where
  abbrev last : Reader
  last = last_over file encoding edges s

  abbrev box : Box
  box = (span_from edges file encoding s).box

  over : Spans file encoding first (record { low = s.point; high = s.point }) s (n - edges) (span_from edges file encoding s)
  over = spans file encoding first edges s n (record { low = s.point; high = s.point }) r

  abbrev by_leap : Tally → Step Tally
  by_leap t = leapt fix s.point last.point t

  edge_judges : (t : Tally) → can_pass fix asked t.least box.low box.high ≡ true → JudgesAt file encoding fix asked edges s t (by_leap t)
  edge_judges t can = record {
    winds = weaker (nat_abs t.winding + 2) (nat_abs t.winding + 2 * edges) (by_leap t) (omega (arith, some)) (leapt_winds fix s.point last.point t);
    keeps = record { least = λ plainly u e. leapt_least fix s.point last.point t u e };
    same = λ room. sym (passed_is_leap asked fix box t can (over.wider s.point (own_holds s.point)) over.stretch (roomy t.winding (omega (arith, room))));
  }

  -- By a leap where it may be passed so, else by what is inside.
  pub stretch_judges : (inside : Tally → Step Tally) → Judges file encoding fix asked edges s inside
      → Judges file encoding fix asked edges s (λ t. if can_pass fix asked t.least box.low box.high then by_leap t else inside t)
  stretch_judges inside j t = judges_either file encoding fix asked edges s t (can_pass fix asked t.least box.low box.high) (by_leap t) (inside t) (edge_judges t) (j t)
