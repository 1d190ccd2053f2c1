-- What a returned 0 means to firmware: the call was answered, whatever it was given. Each exported function's contract fixes what it returns,
-- the number said in `opening_spoken`, `found_spoken`, `many_spoken` or `local_spoken`; here, that this number is 0 exactly where the definition gives an answer. Assumes nothing.
use Rattle.numbers.proofs.Prelude.{ℕ, Float, ℤ, Bool, List, [], ◌∷◌, ◌++◌, ◌↔◌, ◌≡◌, refl, subst, arith}
use Rattle.numbers.{proofs.{Refusals.{Listed}, Saying.{Answered, never_zero, zero_said}}, specs.{Reply.{refused}, Spoken.{no_values, said_of}, declared.refusal.Refusal.{Refusal}}}
use Rattle.atlas.{proofs.NumberedAtlas.{atlas_refusals, simple_beside_refusals}, specs.{Beside.{simply_beside}, Looked.{looked_atlas}}}
use Rattle.batch.{proofs.NumberedMany.{many_numbers, many_beside_numbers, many_refusals, many_beside_refusals}, specs.{Many.{Batch, many_beside, looked_up_many}, declared.many.Totals.{Totals}}}
use Rattle.index.proofs.{NumberedThrough.{through_numbers, through_refusals, indexed_refusals}, Refusing.{tying_numbers, tied_refusals}}
use Rattle.index.specs.{Through.{looked_through, looked_indexed}, Tied.{tied_of}}
use Rattle.localtime.{proofs.Numbered.{footer_numbers, local_time_refusals}, specs.Local.{local_time, scale_at}}
use Rattle.std.specs.Prelude.{Option}
use Rattle.tzif.specs.declared.local.Local.{Local}
use Rattle.header.{proofs.Numbered.{opening_numbers, opening_refusals, strict_opening_refusals}, specs.Opening.{opened_of, opened_strictly}}
use Rattle.zones.{proofs.NumberedLookup.{lookup_numbers, lookup_refusals, strict_lookup_refusals, simple_lookup_refusals}, specs.Lookup.{looked_up, looked_strictly}}
use Rattle.zones.specs.Simple.{simply_looked}
use Rattle.table.specs.declared.location.Location.{Location}
use Rattle.uskelzar.specs.{Many.{many_said, many_spoken}, Spoken.{opening_values, zones_values, described_values, local_values, local_reply, opening_spoken, found_spoken, local_spoken}}
use Rattle.batch.specs.Many as B
use Rattle.tzif.specs.Reply as Z
use Rattle.tzif.specs.declared.refusal.Refusal as T

-- ---- for each exported function
-- `uskelzar_open`
pub open_zero : (file : List ℕ) (room : ℕ) → ((opening_spoken (opened_of file room)).said.number ≡ 0) ↔ Answered (opened_of file room).reply
open_zero file room =
    zero_said opening_values (opened_of file room).reply (λ why is. never_zero opening_numbers (λ z. z) why.number (opening_refusals file room why is))

-- `uskelzar_lookup`
pub lookup_zero : (file : List ℕ) (location : Location) (asked : Bool) (n room : ℕ)
    → ((found_spoken zones_values (looked_up file location asked n room)).said.number ≡ 0) ↔ Answered (looked_up file location asked n room).reply
lookup_zero file location asked n room =
    zero_said zones_values (looked_up file location asked n room).reply (λ why is. never_zero lookup_numbers (λ z. z) why.number (lookup_refusals file location asked n room why is))

-- `uskelzar_open_strict`
pub open_strict_zero : (file : List ℕ) (room : ℕ) → ((opening_spoken (opened_strictly file room)).said.number ≡ 0) ↔ Answered (opened_strictly file room).reply
open_strict_zero file room =
    zero_said opening_values (opened_strictly file room).reply (λ why is. never_zero (opening_numbers ++ 31 ∷ []) (λ z. z) why.number (strict_opening_refusals file room why is))

-- `uskelzar_lookup_strict`
pub lookup_strict_zero : (file : List ℕ) (location : Location) (asked : Bool) (n room : ℕ)
    → ((found_spoken zones_values (looked_strictly file location asked n room)).said.number ≡ 0) ↔ Answered (looked_strictly file location asked n room).reply
lookup_strict_zero file location asked n room =
    zero_said zones_values (looked_strictly file location asked n room).reply
    (λ why is. never_zero (lookup_numbers ++ 31 ∷ []) (λ z. z) why.number (strict_lookup_refusals file location asked n room why is))

-- `uskelzar_lookup_many`
abbrev pub AnsweredMany : Batch Totals → Type 0
AnsweredMany reply = (totals : Totals) × (reply ≡ B.given totals)

many_said_lem : (reply : Batch Totals) → ((index : ℕ) (why : Refusal) → reply ≡ B.refused index why → why.number ≡ 0 → ⊥) → ((many_said reply).number ≡ 0) ↔ AnsweredMany reply
unfolding many_said
many_said_lem (B.given totals) never = ((λ zero. (totals, refl)), (λ answered. refl))
many_said_lem (B.refused index why) never = ((λ zero. absurd (never index why refl zero)), (λ answered. cc))

pub many_zero : (file : List ℕ) (lats lons : List Float) (asked : Bool) (n room third : ℕ)
    → ((many_spoken (looked_up_many file lats lons asked n room third)).said.number ≡ 0) ↔ AnsweredMany (looked_up_many file lats lons asked n room third).reply
many_zero file lats lons asked n room third =
    many_said_lem (looked_up_many file lats lons asked n room third).reply (λ index why is. never_zero many_numbers (λ z. z) why.number (many_refusals file lats lons asked n room third index why is))

-- `uskelzar_simple_lookup`
pub simple_lookup_zero : (file : List ℕ) (location : Location) (n room : ℕ)
    → ((found_spoken described_values (simply_looked file location n room)).said.number ≡ 0) ↔ Answered (simply_looked file location n room).reply
simple_lookup_zero file location n room =
    zero_said described_values (simply_looked file location n room).reply (λ why is. never_zero lookup_numbers (λ z. z) why.number (simple_lookup_refusals file location n room why is))

-- `uskelzar_lookup_atlas`, `uskelzar_simple_atlas` and `uskelzar_many_atlas`, with any words
pub lookup_atlas_zero : (file words : List ℕ) (location : Location) (asked : Bool) (n room : ℕ)
    → ((found_spoken zones_values (looked_atlas file words location asked n room)).said.number ≡ 0) ↔ Answered (looked_atlas file words location asked n room).reply
lookup_atlas_zero file words location asked n room =
    zero_said zones_values (looked_atlas file words location asked n room).reply
    (λ why is. never_zero through_numbers (λ z. z) why.number (atlas_refusals file words location asked n room why is))

pub simple_atlas_zero : (file words : List ℕ) (location : Location) (n room : ℕ)
    → ((found_spoken described_values (simply_beside file words location n room)).said.number ≡ 0) ↔ Answered (simply_beside file words location n room).reply
simple_atlas_zero file words location n room =
    zero_said described_values (simply_beside file words location n room).reply
    (λ why is. never_zero through_numbers (λ z. z) why.number (simple_beside_refusals file words location n room why is))

pub many_atlas_zero : (file words : List ℕ) (lats lons : List Float) (asked : Bool) (n room third : ℕ)
    → ((many_spoken (many_beside file words lats lons asked n room third)).said.number ≡ 0) ↔ AnsweredMany (many_beside file words lats lons asked n room third).reply
many_atlas_zero file words lats lons asked n room third =
    many_said_lem (many_beside file words lats lons asked n room third).reply
    (λ index why is. never_zero many_beside_numbers (λ z. z) why.number (many_beside_refusals file words lats lons asked n room third index why is))

-- `uskelzar_index_tied`
pub index_tied_zero : (file words : List ℕ) → ((said_of no_values (tied_of file words)).number ≡ 0) ↔ Answered (tied_of file words)
index_tied_zero file words = zero_said no_values (tied_of file words) (λ why is. never_zero tying_numbers (λ z. z) why.number (tied_refusals file words why is))

-- `uskelzar_lookup_through`
pub lookup_through_zero : (file words : List ℕ) (location : Location) (asked : Bool) (n room : ℕ)
    → ((found_spoken zones_values (looked_through file words location asked n room)).said.number ≡ 0) ↔ Answered (looked_through file words location asked n room).reply
lookup_through_zero file words location asked n room =
    zero_said zones_values (looked_through file words location asked n room).reply
    (λ why is. never_zero through_numbers (λ z. z) why.number (through_refusals file words location asked n room why is))

-- `uskelzar_lookup_indexed`
pub lookup_indexed_zero : (file words : List ℕ) (location : Location) (asked : Bool) (n room : ℕ)
    → ((found_spoken zones_values (looked_indexed file words location asked n room)).said.number ≡ 0) ↔ Answered (looked_indexed file words location asked n room).reply
lookup_indexed_zero file words location asked n room =
    zero_said zones_values (looked_indexed file words location asked n room).reply
    (λ why is. never_zero through_numbers (λ z. z) why.number (indexed_refusals file words location asked n room why is))

-- `uskelzar_local_time`, answered with a local time or with unknown
of_local : (time : Z.Reply (Option Local)) (why : Refusal) → local_reply time ≡ refused why → ((told : T.Refusal) → time ≡ Z.refused told → Listed footer_numbers told.number) → Listed footer_numbers why.number
of_local (Z.given local) why e h = let z : ◌≡◌ {A = ℕ} 0 1 = cc in absurd (omega arith)
of_local (Z.refused told) why e h = let same : told.number ≡ why.number = cc in subst (Listed footer_numbers) same (h told refl)

pub local_time_zero : (file : List ℕ) (instant : ℤ) (room : ℕ)
    → ((local_spoken (scale_at file instant) (local_time file instant room)).said.number ≡ 0) ↔ Answered (local_reply (local_time file instant room).reply)
local_time_zero file instant room =
    zero_said (local_values (scale_at file instant)) (local_reply (local_time file instant room).reply)
    (λ why is. never_zero footer_numbers (λ z. z) why.number (of_local (local_time file instant room).reply why is (local_time_refusals file instant room)))
