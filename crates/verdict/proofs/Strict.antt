-- A border read strictly (request Q-6): refused 31, or judged as in the plain reading. Assumes nothing.
use Rattle.numbers.proofs.Prelude.{ℕ, pos, Bool, true, false, List}
use Rattle.border.{proofs.Strict.{StrictTrace, trace_strictly, point, cut_off, alike}, specs.{Encoding.{encoded_by}, Trace.{Trace, border_at}, declared.place.FixedLat.{FixedLat}}}
use Rattle.border.specs.declared.{place.{FixedLon.{FixedLon}, Point.{Point}}, reader.Version.{Version}}
use Rattle.verdict.specs.{Step.{Step}, Verdict.{Judgement, Last, none, after, passing, then_on, judge, judged_at}, declared.step.Tally.{Tally}}
use Rattle.verdict.specs.Step as S
use Rattle.verdict.specs.Verdict as J

-- ---- the verdict: 31, or the same judgement
pub data StrictJudgement : Judgement → Judgement → Type 0 where
  refused : {plain : Judgement} → StrictJudgement (J.refused 31) plain
  equal : {judgement : Judgement} → StrictJudgement judgement judgement

module _ (fix : Point) (asked : Bool) where
  judge_strictly : {strict plain : Trace} → StrictTrace strict plain → (last : Last) (tally : Tally) → StrictJudgement (judge fix asked last tally strict) (judge fix asked last tally plain)
  unfolding judge then_on
  judge_strictly (point {p = p} h) last tally = go (passing fix asked last p tally) (judge_strictly h (after p)) where
    go : {k k' : Tally → Judgement} (step : Step Tally) → ((later : Tally) → StrictJudgement (k later) (k' later))
        → StrictJudgement (then_on asked tally.least step k) (then_on asked tally.least step k')
    go (S.found later) k = k later
    go (S.meets verdict) k = equal
    go (S.refused n) k = equal
  judge_strictly cut_off last tally = refused
  judge_strictly alike last tally = equal

-- `strict_or_plain` of a border: refused 31, or the judgement of the plain reading
pub judged_strictly : (file : List ℕ) (version : Version) (base place : ℕ) (lat : FixedLat) (lon : FixedLon) (asked : Bool) (least : ℕ)
    → StrictJudgement (judged_at file (encoded_by true version base) place lat lon asked least) (judged_at file (encoded_by false version base) place lat lon asked least)
unfolding judged_at
judged_strictly file version base place lat lon asked least =
    judge_strictly (record { lat = lat; lon = lon }) asked (trace_strictly file version base (border_at place)) none (record { winding = pos 0; least = least })
