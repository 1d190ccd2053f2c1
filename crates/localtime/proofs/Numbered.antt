-- Which numbers a call can be refused with. Assumes nothing.
use Rattle.numbers.proofs.{Prelude.{ℕ, eqb, ltb, ℤ, List, [], ◌∷◌, ◌++◌, ◌≡◌, refl}, Refusals.{Listed, still_listed}}
use Rattle.std.specs.Prelude.{Option, Some, None}
use Rattle.localtime.specs.{Local.{ask_in, or_sixty, string_in, rules_in, is_ruled, by_rule, answer_by, answer_at, local_time_by, local_time}}
use Rattle.tzif.{proofs.Numbered.{NumberedReply, answers, refuses, then_reply, and_then, demands, either, zone_numbered, of_lent, local_numbers}, specs.{Header.{rfc9636}, Number.{lift}}}
use Rattle.tzif.specs.{Reply.{Reply, refused}, declared.{block.Block.{Block}, refusal.Refusal.{Refusal}, zone.Zone.{Zone}}}
use Rattle.tzrule.specs.{String.{string_of}, declared.{ask.Time.{Time}, rule.Tz.{Tz}}}
use Rattle.tzrule.specs.Answer as T

-- those of Q-9, and 60 for the string, 61 for the year
abbrev pub footer_numbers : List ℕ
footer_numbers = local_numbers ++ (60 ∷ 61 ∷ [])

abbrev Mine : {A : Type 0} → Reply A → Type 0
Mine reply = NumberedReply (Listed footer_numbers) reply

wider : {A : Type 0} {reply : Reply A} → NumberedReply (Listed local_numbers) reply → Mine reply
wider answers = answers
wider (refuses {why = why} h) = refuses (still_listed local_numbers (60 ∷ 61 ∷ []) why.number h)

string_numbered : (file : List ℕ) (zone : Zone) → Mine (string_in file zone)
unfolding string_in or_sixty
string_numbered file zone = go (string_of (ltb 50 zone.version) file zone.string) where
  go : (a : T.Answer Tz) → Mine (or_sixty a)
  go (T.read tz next) = answers
  go (T.fault place) = refuses refl

rules_numbered : (file : List ℕ) (zone : Zone) → Mine (rules_in file zone)
unfolding rules_in
rules_numbered file zone = either (eqb zone.size 0) answers (then_reply (string_numbered file zone) (λ tz. and_then (demands _ _ refl) answers))

asked_numbered : (asked : Option Time) → Mine (by_rule asked)
unfolding by_rule
asked_numbered (Some time) = answers
asked_numbered None = refuses refl

by_numbered : (file : List ℕ) (block : Block) (rules : Option Tz) (instant : ℕ) → Mine (answer_by file block rules instant)
unfolding answer_by
by_numbered file block None instant = answers
by_numbered file block (Some tz) instant = either (is_ruled file block instant) (asked_numbered (ask_in file block tz instant)) answers

at_numbered : (file : List ℕ) (instant : ℤ) → Mine (answer_at rfc9636 file instant)
unfolding answer_at
at_numbered file instant = then_reply (wider (zone_numbered file)) (λ zone. then_reply (rules_numbered file zone) (λ rules. by_numbered file zone.block rules (lift instant)))

-- a call that is refused is refused with one of these
pub local_time_refusals : (file : List ℕ) (instant : ℤ) (room : ℕ) (why : Refusal) → (local_time file instant room).reply ≡ refused why → Listed footer_numbers why.number
unfolding local_time_by
local_time_refusals file instant room = of_lent (Listed footer_numbers) refl file room (at_numbered file instant)
