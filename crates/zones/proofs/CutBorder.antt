-- A border (request Q-6): judged strictly it is refused 31 exactly where the judge of the plain one meets a number that the file's end cuts. Assumes nothing.
use Rattle.numbers.{proofs.Prelude.{ℕ, zero, suc, eqb, pos, Bool, true, false, ◌||◌, List}, specs.{Answer.{Answer, found}, Varint.{reading_of}}}
use Rattle.verdict.specs.{Step.{Step}, Verdict.{Judgement, Last, none, after, passing, then_on, judge, judged_at}, declared.step.Tally.{Tally}}
use Rattle.border.specs.declared.reader.Turn.{Turn, TheVariants.{Gives as gives, Again as again, Ended as ends}}
use Rattle.border.specs.{Encoding.{encoded_by}, Reader.{onward, plain_pair, plain_turn, reference, marker, packed_turn, turn_of}}
use Rattle.border.specs.{Trace.{Given, reaches, ended, round_again, turns, next_within, next_point, trace_then, trace_within, trace_of, border_at}, declared.{place.Point.{Point}, reader.Reader.{Reader}}}
use Rattle.border.specs.declared.reader.{Run.{Run, TheVariants.{Idle, Forward, Backward}}, Version.{Version, TheVariants.{Plain, Packed}}}
use Rattle.zones.proofs.Cuts.{Cuts, cut, same, then_cuts, last_cuts, either_cuts, reading_cuts}
use Rattle.zones.specs.Cut.{where_found, cut_in, EndsCut, plain_cut, marker_cut, packed_cut, turn_cut, again_cut, next_cut, step_cut, point_cut, judge_cut}
use Rattle.verdict.specs.Step as S
use Rattle.verdict.specs.Verdict as J
use Rattle.numbers.specs.Answer as A

-- ---- one turn
module _ (f : List ℕ) where
  abbrev E : Type 0
  E = EndsCut f

  pair_cuts : (s : Reader) → Cuts E (cut_in 2 f s.place) (plain_pair (reading_of true f) s) (plain_pair (reading_of false f) s)
  unfolding plain_pair cut_in
  pair_cuts s = then_cuts (reading_cuts f s.place) (λ lat. then_cuts (reading_cuts f lat.place) (λ lon. same))

  plain_cuts : (s : Reader) → Cuts E (plain_cut f s) (plain_turn (reading_of true f) s) (plain_turn (reading_of false f) s)
  unfolding plain_turn plain_cut
  plain_cuts s =
      either_cuts s.begun (pair_cuts s) (then_cuts (reading_cuts f s.place) (λ count. either_cuts (eqb count.value 0) same (pair_cuts (onward s count.place count.value Idle))))

  reference_cuts : (base : ℕ) (s : Reader) → Cuts E (cut_in 2 f s.place) (reference (reading_of true f) base s) (reference (reading_of false f) base s)
  unfolding reference cut_in
  reference_cuts base s = then_cuts (reading_cuts f s.place) (λ start. then_cuts (reading_cuts f start.place) (λ length. same))

  marker_cuts : (base : ℕ) (s : Reader) → Cuts E (marker_cut f s.place) (marker (reading_of true f) base s) (marker (reading_of false f) base s)
  unfolding marker marker_cut
  marker_cuts base s =
      then_cuts (reading_cuts f s.place) (λ mark. either_cuts (eqb mark.value 0) same (either_cuts (eqb mark.value 1) (reference_cuts base (onward s mark.place s.moves Idle)) same))

  packed_cuts : (run : Run) (base : ℕ) (s : Reader) → Cuts E (packed_cut f run s.place) (packed_turn run (reading_of true f) f base s) (packed_turn run (reading_of false f) f base s)
  unfolding packed_turn packed_cut
  packed_cuts Idle base s =
      then_cuts (reading_cuts f s.place) (λ number. either_cuts (eqb number.value 0) (marker_cuts base (onward s number.place s.moves Idle)) same)
  packed_cuts (Forward next end) base s = last_cuts _ (reading_cuts f next)
  packed_cuts (Backward next end) base s = same

  turn_cuts : (version : Version) (base : ℕ) (s : Reader) → Cuts E (turn_cut f version s) (turn_of true f version base s) (turn_of false f version base s)
  unfolding turn_of turn_cut
  turn_cuts Plain base s = either_cuts s.closed same (plain_cuts s)
  turn_cuts Packed base s = either_cuts s.closed same (packed_cuts s.run base s)

-- ---- the next point
rounds : {E : Type 0} {met : Reader → Bool} {rest rest' : Reader → Answer Given} (f : List ℕ) → ((s : Reader) → Cuts E (met s) (rest s) (rest' s)) → (t : Turn) → Cuts E (again_cut f met t)
    (round_again rest t) (round_again rest' t)
unfolding round_again
rounds f h (gives s) = same
rounds f h (again s) = h s
rounds f h ends = same

module _ (f : List ℕ) (version : Version) (base : ℕ) where
  within_cuts : (more : ℕ) (s : Reader) → Cuts (EndsCut f) (next_cut f more version base s) (next_within more f (encoded_by true version base) s) (next_within more f (encoded_by false version base) s)
  unfolding next_within next_cut
  within_cuts zero s = same
  within_cuts (suc more) s = then_cuts (turn_cuts f version base s) (rounds f (within_cuts more))

  next_cuts : (s : Reader) → Cuts (EndsCut f) (next_cut f (turns f) version base s) (next_point f (encoded_by true version base) s) (next_point f (encoded_by false version base) s)
  unfolding next_point
  next_cuts s = within_cuts (turns f) s

-- ---- the judge: 31, or the same judgement
pub data CutJudgement (E : Type 0) : Bool → Judgement → Judgement → Type 0 where
  cut_short : {plain : Judgement} → E → CutJudgement E true (J.refused 31) plain
  judged : {judgement : Judgement} → CutJudgement E false judgement judgement

module _ (f : List ℕ) (version : Version) (base : ℕ) (fix : Point) (asked : Bool) where
  steps : {met : Tally → Bool} {k k' : Tally → Judgement} (least : ℕ) (step : Step Tally) → ((later : Tally) → CutJudgement (EndsCut f) (met later) (k later) (k' later))
      → CutJudgement (EndsCut f) (step_cut f step met) (then_on asked least step k) (then_on asked least step k')
  unfolding then_on
  steps least (S.found later) h = h later
  steps least (S.meets verdict) h = judged
  steps least (S.refused n) h = judged

  judge_cuts : (more : ℕ) (last : Last) (tally : Tally) (s : Reader) → CutJudgement (EndsCut f) (judge_cut f more version base fix asked last tally s)
      (judge fix asked last tally (trace_within more f (encoded_by true version base) s)) (judge fix asked last tally (trace_within more f (encoded_by false version base) s))
  unfolding trace_within trace_then judge judge_cut
  judge_cuts zero last tally s = judged
  judge_cuts (suc more) last tally s = go (next_cuts f version base s) (judge_cuts more) where
    go : {b : Bool} {strict plain : Answer Given} → Cuts (EndsCut f) b strict plain → ((last : Last) (tally : Tally) (s : Reader) → CutJudgement (EndsCut f)
        (judge_cut f more version base fix asked last tally s) (judge fix asked last tally (trace_within more f (encoded_by true version base) s))
        (judge fix asked last tally (trace_within more f (encoded_by false version base) s))) → CutJudgement (EndsCut f)
        (b || where_found plain (point_cut f λ next. step_cut f (passing fix asked last next.point tally) λ later. judge_cut f more version base fix asked (after next.point) later next))
        (judge fix asked last tally (trace_then strict (trace_within more f (encoded_by true version base))))
        (judge fix asked last tally (trace_then plain (trace_within more f (encoded_by false version base))))
    go (cut e) rest = cut_short e
    go (same {answer = found (reaches next)}) rest = steps tally.least (passing fix asked last next.point tally) (λ later. rest (after next.point) later next)
    go (same {answer = found ended}) rest = judged
    go (same {answer = A.failed}) rest = judged
    go (same {answer = A.refused n}) rest = judged

  -- a border's judgement is refused 31 exactly where the judge of the plain one meets a number that is cut
  pub judged_cuts : (place least : ℕ) → CutJudgement (EndsCut f) (judge_cut f (turns f) version base fix asked none (record { winding = pos 0; least = least })
      (border_at place)) (judged_at f (encoded_by true version base) place fix.lat fix.lon asked least) (judged_at f (encoded_by false version base) place fix.lat fix.lon asked least)
  unfolding judged_at trace_of
  judged_cuts place least = judge_cuts (turns f) none (record { winding = pos 0; least = least }) (border_at place)
