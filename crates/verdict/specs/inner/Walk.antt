-- What a walk along a border comes to. No promise of a public function speaks of it.
use Rattle.std.specs.Prelude.{◌≡◌, Option, Some, None, Result, Ok, Err}
use Rattle.numbers.specs.Prelude.{ℕ, Bool, true, false, List}
use Rattle.border.specs.{Trace.{trace_of}, declared.{place.Point.{Point}, reader.{Encoding.{Encoding}, Reader.{Reader}}}}
use Rattle.verdict.specs.{Step.{Step, found, told}, Stretch.{passing_first}, Verdict.{Judgement, none, after, closed_at, then_on, judge}, declared.field.Field.{Field}}
use Rattle.verdict.specs.{declared.{judge.Break.{Break, TheVariants.{Unread, Halted}}, step.Tally.{Tally}}, inner.{Gliding.{Opens}, Kept.{unread_at}}}
use Rattle.numbers.specs.Varint as N

-- a calm field that holds the point, and no limit; or none
abbrev pub OpensUnless : Bool → Point → Bool → Tally → Point → Option Field → Type 0
OpensUnless limited fix asked tally p (Some field) = (limited ≡ false) × Opens fix asked tally p (Some field)
OpensUnless limited fix asked tally p None = Unit

-- the judgement that a walk along a whole border is
unfoldable pub judgement_of : Bool → Result Tally Break → Judgement
judgement_of asked (Ok tally) = closed_at asked tally
judgement_of asked (Err (Unread stop tally)) = unread_at (N.told {A = Unit {0}} (Err stop)) tally.least
judgement_of asked (Err (Halted halt least)) = then_on asked least (told (Err halt)) (closed_at asked)

-- the step that a walk over some edges is
unfoldable pub step_of : Result Tally Break → Step Tally
step_of (Ok tally) = found tally
step_of (Err (Unread stop tally)) = found tally
step_of (Err (Halted halt least)) = told (Err halt)

-- a walk over so many edges from a point on, or, without a limit, along the whole border
abbrev pub WalkedOn : List ℕ → Encoding → Point → Bool → Bool → ℕ → Reader → Tally → Result Tally Break → Type 0
WalkedOn file encoding fix asked true edges start tally walk = step_of walk ≡ passing_first fix asked edges (after start.point) (trace_of file encoding start) tally
WalkedOn file encoding fix asked false edges start tally walk = judgement_of asked walk ≡ judge fix asked none tally (trace_of file encoding start)
