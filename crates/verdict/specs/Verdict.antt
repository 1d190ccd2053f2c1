-- A border's verdict on a location: a judge over the trace of its points, which may answer before the trace ends.
use Rattle.std.specs.Prelude.{if◌then◌else◌, Option, Some, None, Result, Ok, Err}
use Rattle.numbers.specs.{Fault.{number_of}, Prelude.{ℕ, pos, negsuc, Bool, List}, declared.fault.Fault.{Fault}}
use Rattle.border.specs.{Trace.{Trace, point, closed, trace_of, border_at}, declared.{place.{FixedLat.{FixedLat}, FixedLon.{FixedLon}, Point.{Point}}, reader.Encoding.{Encoding}}}
use Rattle.verdict.specs.{Distance.{measured}, Edge.{same_z, same_point}, Step.{Step, found, meets, ◌>>=◌}, Winding.{wound_by}, declared.{judge.Judged.{Judged}, step.Tally.{Tally}}}
use Rattle.verdict.specs.declared.step.Verdict.{Verdict, TheVariants.{NotInZone, InZone, InExcludedZone, OnBorderVertex, OnBorderSegment}}
use Rattle.border.specs.Trace as T
use Rattle.verdict.specs.Step as S

-- A border comes to a verdict with the least squared distance, to a failure, whose distances count too, or to a refusal by its number.
pub data Judgement : Type 0 where
  reached : Verdict → ℕ → Judgement
  failed : ℕ → Judgement
  refused : ℕ → Judgement

-- what is said of it: a verdict, or none, which is a failure
abbrev pub judged_by : ℕ → Option Verdict → Judgement
judged_by least (Some verdict) = reached verdict least
judged_by least None = failed least

abbrev pub judged_as : Judged → Judgement
judged_as j = judged_by j.least j.verdict

abbrev pub told : Result Judged Fault → Judgement
told (Ok j) = judged_as j
told (Err fault) = refused (number_of fault)

-- the point before, if there is one
pub data Last : Type 0 where
  none : Last
  after : Point → Last

-- the edge from the point before: the winding, then the least distance. None leads to the first point.
unfoldable pub along : Point → Bool → Last → Point → Tally → Step Tally
along fix asked none to tally = found tally
along fix asked (after from) to tally = wound_by fix from to tally >>= measured asked fix from to

-- one more point: the vertex is tested first
unfoldable pub passing : Point → Bool → Last → Point → Tally → Step Tally
passing fix asked last to tally = if same_point to fix then meets OnBorderVertex else along fix asked last to tally

-- on the border the distance, if it is asked for, is 0
abbrev pub on_border : Verdict → Bool → ℕ → Judgement
on_border verdict asked least = reached verdict (if asked then 0 else least)

-- "winding -4 is InZone, 4 InExcludedZone, 0 NotInZone, any other sum OnBorderSegment with distance 0"
unfoldable pub closed_at : Bool → Tally → Judgement
closed_at asked tally =
    if same_z tally.winding (negsuc 3)
    then reached InZone tally.least
    else (if same_z tally.winding (pos 4)
    then reached InExcludedZone tally.least
    else (if same_z tally.winding (pos 0) then reached NotInZone tally.least else on_border OnBorderSegment asked tally.least))

-- a step that does not go on decides, with the least distance before it
unfoldable pub then_on : Bool → ℕ → Step Tally → (Tally → Judgement) → Judgement
then_on asked least (found tally) rest = rest tally
then_on asked least (meets verdict) rest = on_border verdict asked least
then_on asked least (S.refused n) rest = refused n

-- the judge
unfoldable pub judge : Point → Bool → Last → Tally → Trace → Judgement
judge fix asked last tally (point to trace) = then_on asked tally.least (passing fix asked last to tally) (λ later. judge fix asked (after to) later trace)
judge fix asked last tally closed = closed_at asked tally
judge fix asked last tally T.failed = failed tally.least
judge fix asked last tally (T.refused n) = refused n

-- The judgement of the border at a place of the file.
unfoldable pub judged_at : List ℕ → Encoding → ℕ → FixedLat → FixedLon → Bool → ℕ → Judgement
judged_at file encoding place lat lon asked least =
    judge (record { lat = lat; lon = lon }) asked none (record { winding = pos 0; least = least }) (trace_of file encoding (border_at place))
