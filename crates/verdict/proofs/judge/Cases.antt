-- What the judge says where a walk breaks off. Assumes nothing.
use Rattle.numbers.{proofs.Prelude.{ℕ, Bool, ◌≡◌, refl}, specs.declared.varint.Stop.{Stop, TheVariants.{Failed, TooLong, Incomplete, OutOfRange, PastEnd}}}
use Rattle.std.specs.Prelude.{Err}
use Rattle.verdict.specs.{Step.{told}, Verdict.{Judgement, Last, then_on, judge}, declared.step.{Halt.{Halt, TheVariants.{Meets, Over}}, Tally.{Tally}}, inner.Kept.{unread_at}}
use Rattle.border.specs.{Trace.{Trace, trace_then}, declared.{place.Point.{Point}, reader.Reader.{Reader}}}
use Rattle.numbers.specs.Varint as N

-- a step that does not go on
pub decides : (halt : Halt) (asked : Bool) (least : ℕ) (rest rest' : Tally → Judgement) → then_on asked least (told (Err halt)) rest ≡ then_on asked least (told (Err halt)) rest'
unfolding then_on
decides (Meets verdict) asked least rest rest' = refl
decides Over asked least rest rest' = refl

-- a point that can't be read
pub judge_unread : (fix : Point) (asked : Bool) (last : Last) (tally : Tally) (stop : Stop) (rest : Reader → Trace)
    → unread_at (N.told {A = Unit {0}} (Err stop)) tally.least ≡ judge fix asked last tally (trace_then (N.told (Err stop)) rest)
unfolding judge trace_then
judge_unread fix asked last tally Failed rest = refl
judge_unread fix asked last tally TooLong rest = refl
judge_unread fix asked last tally Incomplete rest = refl
judge_unread fix asked last tally OutOfRange rest = refl
judge_unread fix asked last tally PastEnd rest = refl
