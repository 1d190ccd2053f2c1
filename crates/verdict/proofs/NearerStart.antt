-- A border that is judged from a lower least distance, and comes to less than that, is judged so from the least distance itself. Assumes nothing.
use Rattle.numbers.{proofs.Prelude.{ℕ, ◌≤◌, ◌<◌, min, pos, negsuc, Bool, true, false, List, ◌≡◌, refl, sym, ap, subst, ◌∙◌, arith}, specs.Answer.{if◌then◌else◌}}
use Rattle.border.specs.{Trace.{Trace, point, closed, trace_of, border_at}, declared.{place.{FixedLat.{FixedLat}, FixedLon.{FixedLon}, Point.{Point}}, reader.Encoding.{Encoding}}}
use Rattle.verdict.specs.{Distance.{distance_of, measured}, Edge.{same_z, same_point}, Step.{Step, found, meets, ◌>>=◌}}
use Rattle.verdict.specs.{Verdict.{Judgement, reached, failed, refused, Last, none, after, along, passing, on_border, closed_at, then_on, judge, judged_at}, Winding.{wound_by}}
use Rattle.verdict.specs.declared.step.{Tally.{Tally}, Verdict.TheVariants.{NotInZone, InZone, InExcludedZone, OnBorderVertex, OnBorderSegment}}
use Rattle.verdict.proofs.{OutsideBox.{tallied}, Unasked.{kept, wound_kept}}
use Rattle.border.specs.Trace as T
use Rattle.verdict.specs.Step as S

abbrev least_in : Step Tally → ℕ
least_in (found t) = t.least
least_in (meets v) = 0
least_in (S.refused n) = 0

abbrev ends : Bool → Bool → Bool → ℕ → Judgement
ends a b c d = if a then reached InZone d else (if b then reached InExcludedZone d else (if c then reached NotInZone d else on_border OnBorderSegment true d))

module _ (far : ℕ) where
  -- with no more than this
  abbrev lower : Tally → Tally
  lower t = tallied t.winding (min t.least far)

  abbrev lowered : Step Tally → Step Tally
  lowered m = m >>= λ t. found (lower t)

  -- a step that keeps the least distance
  keeps : (m : Step Tally) (d : ℕ) → m ≡ (m >>= kept d) → (m >>= kept (min d far)) ≡ lowered m
  keeps (found u) d e = ap (λ (n : ℕ). found (tallied u.winding (min n far))) (sym (ap least_in e))
  keeps (meets v) d e = refl
  keeps (S.refused n) d e = refl

  wound_lower : (fix from to : Point) (t : Tally) → wound_by fix from to (lower t) ≡ lowered (wound_by fix from to t)
  wound_lower fix from to t = wound_kept (min t.least far) fix from to t ∙ keeps (wound_by fix from to t) t.least (wound_kept t.least fix from to t)

  measured_lower : (fix from to : Point) (t : Tally) → measured true fix from to (lower t) ≡ lowered (measured true fix from to t)
  unfolding measured
  measured_lower fix from to t = go (distance_of fix from to) where
    go : (m : Step ℕ) → (m >>= λ new. found (tallied t.winding (min new (min t.least far)))) ≡ lowered (m >>= λ new. found (tallied t.winding (min new t.least)))
    go (found d) = ap (λ (n : ℕ). found (tallied t.winding n)) (omega arith)
    go (meets v) = refl
    go (S.refused n) = refl

  along_lower : (fix : Point) (last : Last) (to : Point) (t : Tally) → along fix true last to (lower t) ≡ lowered (along fix true last to t)
  unfolding along
  along_lower fix none to t = refl
  along_lower fix (after from) to t = ap (λ (m : Step Tally). m >>= measured true fix from to) (wound_lower fix from to t) ∙ go (wound_by fix from to t) where
    go : (m : Step Tally) → (lowered m >>= measured true fix from to) ≡ lowered (m >>= measured true fix from to)
    go (found u) = measured_lower fix from to u
    go (meets v) = refl
    go (S.refused n) = refl

  passing_lower : (fix : Point) (last : Last) (to : Point) (t : Tally) → passing fix true last to (lower t) ≡ lowered (passing fix true last to t)
  unfolding passing
  passing_lower fix last to t = go (same_point to fix) where
    go : (b : Bool) → (if b then meets OnBorderVertex else along fix true last to (lower t)) ≡ lowered (if b then meets OnBorderVertex else along fix true last to t)
    go true = refl
    go false = along_lower fix last to t

  -- a verdict with less than this
  abbrev pub Below : Judgement → Type 0
  Below (reached verdict least) = least < far
  Below (failed least) = ⊥
  Below (refused n) = ⊥

  closed_lower : (t : Tally) → Below (closed_at true (lower t)) → closed_at true t ≡ closed_at true (lower t)
  unfolding closed_at
  closed_lower t = go (same_z t.winding (negsuc 3)) (same_z t.winding (pos 4)) (same_z t.winding (pos 0)) where
    go : (a b c : Bool) → Below (ends a b c (min t.least far)) → ends a b c t.least ≡ ends a b c (min t.least far)
    go true b c h = ap (reached InZone) (omega (arith, h))
    go false true c h = ap (reached InExcludedZone) (omega (arith, h))
    go false false true h = ap (reached NotInZone) (omega (arith, h))
    go false false false h = refl

  -- a step, lowered, followed by what agrees below
  then_lower : (m : Step Tally) (a b : ℕ) (k : Tally → Judgement) → ((u : Tally) → Below (k (lower u)) → k u ≡ k (lower u)) → Below (then_on true b (lowered m) k)
      → then_on true a m k ≡ then_on true b (lowered m) k
  unfolding then_on
  then_lower (found u) a b k g h = g u h
  then_lower (meets v) a b k g h = refl
  then_lower (S.refused n) a b k g h = refl

  lower_judge : (fix : Point) (last : Last) (t : Tally) (trace : Trace) → Below (judge fix true last (lower t) trace) → judge fix true last t trace ≡ judge fix true last (lower t) trace
  unfolding judge
  lower_judge fix last t (point to trace) h = let rest : Tally → Judgement = λ later. judge fix true (after to) later trace in
      let e = passing_lower fix last to t in
      then_lower (passing fix true last to t) t.least (min t.least far) rest (λ u g. lower_judge fix (after to) u trace g)
      (subst (λ (m : Step Tally). Below (then_on true (min t.least far) m rest)) e h) ∙ ap (λ (m : Step Tally). then_on true (min t.least far) m rest) (sym e)
  lower_judge fix last t closed h = closed_lower t h
  lower_judge fix last t T.failed h = absurd h
  lower_judge fix last t (T.refused n) h = refl

-- Judged from a lower distance a border comes to less than that: so it does from the least distance.
pub nearer_start : (file : List ℕ) (encoding : Encoding) (place : ℕ) (lat : FixedLat) (lon : FixedLon) (far least : ℕ) → far ≤ least
    → Below far (judged_at file encoding place lat lon true far) → judged_at file encoding place lat lon true least ≡ judged_at file encoding place lat lon true far
unfolding judged_at
nearer_start file encoding place lat lon far least h low = let fix : Point = record { lat = lat; lon = lon } in
    let trace = trace_of file encoding (border_at place) in let e : min least far ≡ far = omega (arith, h) in
    lower_judge far fix none (tallied (pos 0) least) trace (subst (λ (n : ℕ). Below far (judge fix true none (tallied (pos 0) n) trace)) (sym e) low)
    ∙ ap (λ (n : ℕ). judge fix true none (tallied (pos 0) n) trace) e
