-- A border's verdict by its marks: of a stretch, or a group of stretches, whose box does not hold the location and, with the distance, is far from it, only its one edge is judged,
-- and its points are not read.
use Rattle.std.specs.Prelude.{if◌then◌else◌, ◌+◌, ◌-◌, ◌*◌, ◌/◌, ◌&&◌}
use Rattle.numbers.specs.Prelude.{ℕ, zero, suc, min, ltb, leb, pos, length, Bool, true, false, not, List}
use Rattle.border.specs.{Trace.{trace_of}, declared.{place.{FixedLat.{FixedLat}, FixedLon.{FixedLon}, Point.{Point}}, reader.Encoding.{Encoding}}}
use Rattle.verdict.specs.{Distance.{to_vertex}, Edge.{in_box}, Far.{is_afar}, Step.{Step, found, meets, ◌>>=◌}, Stretch.{leapt, passing_first}}
use Rattle.verdict.specs.{Verdict.{Judgement, reached, failed, refused, none, after, passing, closed_at, then_on}, declared.step.Tally.{Tally}}
use Rattle.marks.specs.{Marks.{stretch_edges, group_wide, groups_of}, Words.{word_at, mark_wide, low_in, high_in, start_in, state_in}}
use Rattle.verdict.specs.Step as S

-- where the stretch of a mark leads that has so many behind it: to the next one's first point, the last one to this
unfoldable pub end_in : List ℕ → Point → ℕ → ℕ → Point
end_in words last zero at = last
end_in words last (suc more) at = start_in words (at + mark_wide)

-- a stretch is passed as its one edge where its box does not hold the location and, with the distance, is afar by the least one so far
unfoldable pub can_pass : Point → Bool → ℕ → Point → Point → Bool
can_pass fix asked least low high = not (in_box low fix high) && (if asked then is_afar fix least low high else true)

module _ (file : List ℕ) (encoding : Encoding) (fix : Point) (asked : Bool) (words : List ℕ) (first : Point) where
  -- from a mark on to a point: as one edge, if its box may be passed so; else by what is inside
  unfoldable pub stretch_by : ℕ → Point → (Tally → Step Tally) → Tally → Step Tally
  stretch_by at to inside tally =
      if can_pass fix asked tally.least (low_in words at) (high_in words at)
      then leapt fix (start_in words at) to tally
      else inside tally

  -- inside a stretch are its points
  abbrev pub points_by : ℕ → Tally → Step Tally
  points_by at = passing_first fix asked stretch_edges (after (start_in words at)) (trace_of file encoding (state_in words at first))

  -- so many stretches, which lead to a point
  unfoldable pub stretches_by : ℕ → ℕ → Point → Tally → Step Tally
  stretches_by zero at to tally = found tally
  stretches_by (suc more) at to tally = stretch_by at (end_in words to more at) (points_by at) tally >>= stretches_by more (at + mark_wide) to

  -- so many groups with their marks from a place on; inside them are so many stretches, with their marks from another
  unfoldable pub groups_by : ℕ → ℕ → ℕ → ℕ → Tally → Step Tally
  groups_by zero at left fine tally = found tally
  groups_by (suc more) at left fine tally =
      let few = min group_wide left in
      let to = end_in words first more at in
      stretch_by at to (stretches_by few fine to) tally >>= groups_by more (at + mark_wide) (left - few) (fine + few * mark_wide)

-- so many stretches, at least one, and their groups have marks from a place on
abbrev pub is_inside : List ℕ → ℕ → Bool
is_inside words at = ltb at (length words) && (ltb 0 (word_at words at) && leb (word_at words at + groups_of (word_at words at)) ((length words - (at + 1)) / mark_wide))

-- how many stretches there are, 0 where there is no room for as many as it says
unfoldable pub count_in : List ℕ → ℕ → ℕ
count_in words at = if is_inside words at then word_at words at else 0

-- the judgement by them, group by group, from a least distance on; 36 where there are none
unfoldable pub judged_from : List ℕ → Encoding → List ℕ → ℕ → Point → Bool → ℕ → Judgement
judged_from file encoding words at fix asked least =
    let first = start_in words (at + 1) in
    let n = word_at words at in
    if is_inside words at
    then then_on asked least
    (passing fix asked none first (record { winding = pos 0; least = least }) >>= groups_by file encoding fix asked words first (groups_of n) (at + 1 + n * mark_wide) n (at + 1))
    (closed_at asked)
    else refused 36

-- ---- a distance to begin with: most borders come to less, and most of their stretches are afar by it
-- one more than a distance, if that is less
unfoldable pub nearer_by : Step ℕ → ℕ → ℕ
nearer_by (found squared) near = if ltb squared near then squared + 1 else near
nearer_by (meets verdict) near = near
nearer_by (S.refused n) near = near

-- the same of the first points of so many stretches
unfoldable pub nearest_of : List ℕ → Point → ℕ → ℕ → ℕ → ℕ
nearest_of words fix zero at near = near
nearest_of words fix (suc more) at near = nearest_of words fix more (at + mark_wide) (nearer_by (to_vertex (start_in words at) fix) near)

-- where the distance is asked for
abbrev pub near_in : List ℕ → ℕ → Point → Bool → ℕ → ℕ
near_in words at fix asked least = if asked then nearest_of words fix (count_in words at) (at + 1) least else least

-- a verdict with less than this
unfoldable pub is_below : ℕ → Judgement → Bool
is_below near (reached verdict least) = ltb least near
is_below near (failed least) = false
is_below near (refused n) = false

-- The judgement by the marks at a place of the words: from that distance, if it comes to less, else from the least one.
unfoldable pub judged_by : List ℕ → Encoding → List ℕ → ℕ → FixedLat → FixedLon → Bool → ℕ → Judgement
judged_by file encoding words at lat lon asked least =
    let fix : Point = record { lat = lat; lon = lon } in
    let near = near_in words at fix asked least in
    let judged = judged_from file encoding words at fix asked in
    if is_below near (judged near) then judged near else judged least
