-- Which numbers a judgement by marks can be refused with, whatever the words are: those of a border's edges, and 36. Assumes nothing.
use Rattle.numbers.proofs.{Prelude.{ℕ, zero, suc, ◌+◌, ◌-◌, ◌*◌, min, Bool, List}, Refusals.{either}}
use Rattle.border.specs.{Trace.{Trace, point, closed, trace_of}, declared.{place.{FixedLat.{FixedLat}, FixedLon.{FixedLon}, Point.{Point}}, reader.Encoding.{Encoding}}}
use Rattle.verdict.{proofs.Numbered.{NumberedStep, goes, NumberedJudgement, not_judged, then_step, leaps, passes, closes, goes_on}, specs.{Step.{Step}, Stretch.{passing_first}}}
use Rattle.verdict.specs.{Verdict.{Last, none, after}, declared.step.Tally.{Tally}}
use Rattle.marks.specs.{Judging.{end_in, can_pass, stretch_by, points_by, stretches_by, groups_by, is_inside, judged_from, near_in, is_below, judged_by}, Marks.{stretch_edges, group_wide}}
use Rattle.marks.specs.Words.{mark_wide, low_in, high_in, start_in, state_in}
use Rattle.border.specs.Trace as T

module _ {P : ℕ → Type 0} (twelve : P 12) (thirteen : P 13) (other : P 36) where
  module _ (fix : Point) (asked : Bool) where
    firsts : (edges : ℕ) (last : Last) (trace : Trace) (t : Tally) → NumberedStep P (passing_first fix asked edges last trace t)
    unfolding passing_first
    firsts zero last trace t = goes
    firsts (suc more) last (point to trace) t = then_step (passes twelve thirteen fix asked last to t) (firsts more (after to) trace)
    firsts (suc more) last closed t = goes
    firsts (suc more) last T.failed t = goes
    firsts (suc more) last (T.refused n) t = goes

    module _ (file : List ℕ) (encoding : Encoding) (words : List ℕ) (first : Point) where
      stretch : (at : ℕ) (to : Point) (inside : Tally → Step Tally) → ((t : Tally) → NumberedStep P (inside t)) → (t : Tally)
          → NumberedStep P (stretch_by file encoding fix asked words first at to inside t)
      unfolding stretch_by
      stretch at to inside h t =
          either (NumberedStep P) (can_pass fix asked t.least (low_in words at) (high_in words at)) (leaps twelve thirteen fix (start_in words at) to t) (h t)

      stretches : (count at : ℕ) (to : Point) (t : Tally) → NumberedStep P (stretches_by file encoding fix asked words first count at to t)
      unfolding stretches_by
      stretches zero at to t = goes
      stretches (suc more) at to t =
          then_step (stretch at (end_in words to more at) (points_by file encoding fix asked words first at) (firsts stretch_edges (after (start_in words at))
          (trace_of file encoding (state_in words at first))) t) (stretches more (at + mark_wide) to)

      groups : (count at left fine : ℕ) (t : Tally) → NumberedStep P (groups_by file encoding fix asked words first count at left fine t)
      unfolding groups_by
      groups zero at left fine t = goes
      groups (suc more) at left fine t = let few = min group_wide left in let to = end_in words first more at in
          then_step (stretch at to (stretches_by file encoding fix asked words first few fine to) (stretches few fine to) t) (groups more (at + mark_wide) (left - few) (fine + few * mark_wide))

  from_numbered : (file : List ℕ) (encoding : Encoding) (words : List ℕ) (at : ℕ) (fix : Point) (asked : Bool) (least : ℕ) → NumberedJudgement P (judged_from file encoding words at fix asked least)
  unfolding judged_from
  from_numbered file encoding words at fix asked least =
      either (NumberedJudgement P) (is_inside words at) (goes_on twelve thirteen asked least (then_step (passes twelve thirteen fix asked none (start_in words (at + 1)) _)
      (groups fix asked file encoding words (start_in words (at + 1)) _ _ _ _)) (closes twelve thirteen asked)) (not_judged other)

  pub marked_numbered : (file : List ℕ) (encoding : Encoding) (words : List ℕ) (at : ℕ) (lat : FixedLat) (lon : FixedLon) (asked : Bool) (least : ℕ)
      → NumberedJudgement P (judged_by file encoding words at lat lon asked least)
  unfolding judged_by
  marked_numbered file encoding words at lat lon asked least = let fix : Point = record { lat = lat; lon = lon } in
      let near = near_in words at fix asked least in
      either (NumberedJudgement P) (is_below near (judged_from file encoding words at fix asked near)) (from_numbered file encoding words at fix asked near)
      (from_numbered file encoding words at fix asked least)
