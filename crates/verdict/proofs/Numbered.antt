-- Which numbers a border can be refused with where it is judged: 12 and 13, and 31 where it is read strictly. Assumes nothing.
use Rattle.numbers.proofs.{Prelude.{ℕ, ◌+◌, ◌-◌, ◌%◌, ◌^◌, eqb, ltb, ℤ, pos, negsuc, mag, lt_z, Bool, true, ◌&&◌, List, ◌≡◌}, Refusals.{either}}
use Rattle.verdict.specs.{Distance.{squared, to_segment, to_vertex, distance_of, measured}, Edge.{same_point, same_z, in_box, straight, quadrant_of, spot_of, edge_of, closest_on, cut_of}, Step.{Step}}
use Rattle.verdict.specs.{Stretch.{leapt}, Verdict.{Judgement, Last, none, after, along, passing, closed_at, then_on, judge, judged_at}, Winding.{turned, quarter_by, turn_at, across_by, clear_of}}
use Rattle.verdict.specs.{Winding.{wound_by}, declared.{edge.{Edge.{Edge, TheVariants.{Sloped, EqualLongitude, EqualLatitude}}, Spot.{Spot}}, step.{Tally.{Tally}, Verdict.{Verdict}}}}
use Rattle.border.{proofs.Numbered.{NumberedTrace, point, closed, failed, stopped, trace_numbered}, specs.{Trace.{Trace}, declared.place.{FixedLat.{FixedLat}, FixedLon.{FixedLon}, Point.{Point}}}}
use Rattle.border.specs.declared.reader.Encoding.{Encoding}
use Rattle.verdict.specs.Step as S
use Rattle.verdict.specs.Verdict as J

-- a number that it is refused with has the property: a step along a border, a judgement
pub data NumberedStep (P : ℕ → Type 0) {A : Type 0} : Step A → Type 0 where
  goes : {a : A} → NumberedStep P (S.found a)
  meets : {v : Verdict} → NumberedStep P (S.meets v)
  stops : {n : ℕ} → P n → NumberedStep P (S.refused n)

pub data NumberedJudgement (P : ℕ → Type 0) : Judgement → Type 0 where
  judged : {v : Verdict} {least : ℕ} → NumberedJudgement P (J.reached v least)
  unjudged : {least : ℕ} → NumberedJudgement P (J.failed least)
  not_judged : {n : ℕ} → P n → NumberedJudgement P (J.refused n)

pub then_step : {P : ℕ → Type 0} {A B : Type 0} {step : Step A} {next : A → Step B} → NumberedStep P step → ((a : A) → NumberedStep P (next a)) → NumberedStep P (S.◌>>=◌ step next)
then_step goes k = k _
then_step meets k = meets
then_step (stops h) k = stops h

module _ {P : ℕ → Type 0} (twelve : P 12) (thirteen : P 13) where
  -- ---- along an edge
  step_fits : (bits : ℕ) (z : ℤ) → NumberedStep P (S.checked bits z)
  unfolding S.checked
  step_fits bits z = either (NumberedStep P) (ltb (mag z) (2 ^ bits)) goes (stops thirteen)

  squares : (lat lon : ℤ) → NumberedStep P (squared lat lon)
  unfolding squared
  squares lat lon = then_step (step_fits 63 _) (λ y. then_step (step_fits 63 _) (λ x. goes))

  segment : (near at : Spot) → NumberedStep P (to_segment near at)
  unfolding to_segment
  segment near at = squares _ _

  vertex : (to fix : Point) → NumberedStep P (to_vertex to fix)
  unfolding to_vertex
  vertex to fix = then_step (step_fits 31 _) (λ lat. then_step (step_fits 31 _) (λ lon. squares lat lon))

  distance : (fix from to : Point) → NumberedStep P (distance_of fix from to)
  unfolding distance_of
  distance fix from to = let at = spot_of fix in let near = closest_on (edge_of from to) at in
      either (NumberedStep P) (in_box to (cut_of near) from) (segment near at) (vertex to fix)

  measures : (asked : Bool) (fix from to : Point) (tally : Tally) → NumberedStep P (measured asked fix from to tally)
  unfolding measured
  measures asked fix from to tally = either (NumberedStep P) asked (then_step (distance fix from to) (λ new. goes)) goes

  turns_by : (by : ℤ) (tally : Tally) → NumberedStep P (turned by tally)
  unfolding turned
  turns_by by tally = then_step (step_fits 31 _) (λ w. goes)

  quarter : (quarters : ℕ) (tally : Tally) → NumberedStep P (quarter_by quarters tally)
  unfolding quarter_by
  quarter quarters tally =
      either (NumberedStep P) (eqb quarters 1) (turns_by (pos 1) tally) (either (NumberedStep P) (eqb quarters 3) (turns_by (negsuc 0) tally) goes)

  pub leaps : (fix from to : Point) (tally : Tally) → NumberedStep P (leapt fix from to tally)
  unfolding leapt
  leaps fix from to tally = quarter _ tally

  crosses : (crossing fix : FixedLon) (q : ℕ) → NumberedStep P (turn_at crossing fix q)
  unfolding turn_at
  crosses crossing fix q =
      then_step (step_fits 31 _) (λ left. either (NumberedStep P) (lt_z crossing.0 left) goes (then_step (step_fits 31 _) (λ right. either (NumberedStep P) (lt_z right crossing.0) goes meets)))

  across : (fix : Point) (edge : Edge) (q : ℕ) (tally : Tally) → NumberedStep P (across_by fix edge q tally)
  unfolding across_by
  across fix (Sloped line) q tally = then_step (crosses _ fix.lon q) (λ by. turns_by by tally)
  across fix (EqualLongitude lon) q tally = meets
  across fix (EqualLatitude lat) q tally = meets

  clear : (fix from to : Point) (tally : Tally) → NumberedStep P (clear_of fix from to tally)
  unfolding clear_of
  clear fix from to tally = either (NumberedStep P) (straight from to && in_box to fix from) meets goes

  winds : (fix from to : Point) (tally : Tally) → NumberedStep P (wound_by fix from to tally)
  unfolding wound_by
  winds fix from to tally = let q = quadrant_of fix to in let quarters = (q + 4 - quadrant_of fix from) % 4 in
      either (NumberedStep P) (eqb quarters 2) (across fix (edge_of from to) q tally) (then_step (quarter quarters tally) (clear fix from to))

  -- ---- the verdict
  edge_numbered : (fix : Point) (asked : Bool) (last : Last) (to : Point) (tally : Tally) → NumberedStep P (along fix asked last to tally)
  unfolding along
  edge_numbered fix asked none to tally = goes
  edge_numbered fix asked (after from) to tally = then_step (winds fix from to tally) (measures asked fix from to)

  pub passes : (fix : Point) (asked : Bool) (last : Last) (to : Point) (tally : Tally) → NumberedStep P (passing fix asked last to tally)
  unfolding passing
  passes fix asked last to tally = either (NumberedStep P) (same_point to fix) meets (edge_numbered fix asked last to tally)

  pub closes : (asked : Bool) (tally : Tally) → NumberedJudgement P (closed_at asked tally)
  unfolding closed_at
  closes asked tally =
      either (NumberedJudgement P) (same_z tally.winding (negsuc 3)) judged (either (NumberedJudgement P) (same_z tally.winding (pos 4)) judged
      (either (NumberedJudgement P) (same_z tally.winding (pos 0)) judged judged))

  pub goes_on : (asked : Bool) (least : ℕ) {step : Step Tally} {rest : Tally → Judgement} → NumberedStep P step → ((tally : Tally) → NumberedJudgement P (rest tally))
      → NumberedJudgement P (then_on asked least step rest)
  unfolding then_on
  goes_on asked least goes k = k _
  goes_on asked least meets k = judged
  goes_on asked least (stops h) k = not_judged h

  judges : (fix : Point) (asked : Bool) (last : Last) (tally : Tally) {trace : Trace} → NumberedTrace P trace → NumberedJudgement P (judge fix asked last tally trace)
  unfolding judge
  judges fix asked last tally (point {p} more) = goes_on asked tally.least (passes fix asked last p tally) (λ later. judges fix asked (after p) later more)
  judges fix asked last tally closed = closes asked tally
  judges fix asked last tally failed = unjudged
  judges fix asked last tally (stopped h) = not_judged h

  pub judged_numbered : (file : List ℕ) (encoding : Encoding) → (encoding.strict ≡ true → P 31) → (place : ℕ) (lat : FixedLat) (lon : FixedLon) (asked : Bool) (least : ℕ)
      → NumberedJudgement P (judged_at file encoding place lat lon asked least)
  unfolding judged_at
  judged_numbered file encoding cut place lat lon asked least = judges _ asked none _ (trace_numbered twelve thirteen file encoding cut _)
