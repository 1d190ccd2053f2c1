-- Local time with the footer's TZ string.
use Rattle.std.specs.Prelude.{Option, Some, None, IfSome, IfOk, if◌then◌else◌, ◌-◌}
use Rattle.numbers.specs.Prelude.{ℕ, eqb, ltb, ℤ, Bool, true, List}
use Rattle.localtime.specs.{Found.{found_of, same_found}, declared.scale.Scale.{Scale}}
use Rattle.tzif.specs.{Block.{end_of}, Check.{correction_at}, Header.{Rfc, rfc9636}, Local.{type_in, type_behind, is_after_last, by_table, lent, Replied, Good, Held}, Number.{raised, lift}}
use Rattle.tzif.specs.{Reply.{Reply, given, refused, refusal, demand, ◌>>=◌, ◌>>◌}, Times.{time_in, transitions_of, occurrences_of, Rises}, Zone.{read_zone_by}, declared.block.Block.{Block}}
use Rattle.tzif.specs.declared.{local.Found.{Found}, zone.Zone.{Zone}}
use Rattle.tzrule.specs.{Ask.{corrected, ask}, String.{string_of}, declared.{ask.Time.{Time}, rule.Tz.{Tz}}, inner.String.{IsClock, IsTz}}
use Rattle.tzrule.specs.Answer as T

-- the string is in UNIX time, the file's own scale less its leap seconds
unfoldable pub ask_in : List ℕ → Block → Tz → ℕ → Option Time
ask_in file block tz instant = ask tz (corrected instant (correction_at file block instant))

-- it gives what the last transition's type has, if there is one and its year is answered
unfoldable pub same_as : List ℕ → Found → Option Time → Bool
same_as file found (Some time) = same_found file found (found_of time)
same_as file found None = true

unfoldable pub agrees : List ℕ → Block → Tz → Bool
agrees file block tz =
    if eqb block.timecnt 0 then true
    else same_as file (type_in file block (type_behind file block block.timecnt)) (ask_in file block tz (time_in file (transitions_of block) (block.timecnt - 1)))

-- 60: no TZ string, with the place of its fault. Its hours are wider from version 3 on
unfoldable pub or_sixty : T.Answer Tz → Reply Tz
or_sixty (T.read tz next) = given tz
or_sixty (T.fault place) = refused (refusal 60 place)

unfoldable pub string_in : List ℕ → Zone → Reply Tz
string_in file zone = or_sixty (string_of (ltb 50 zone.version) file zone.string)

-- 60: it contradicts the last transition, with the place of the newline before it
unfoldable pub rules_in : List ℕ → Zone → Reply (Option Tz)
rules_in file zone =
    if eqb zone.size 0 then given None
    else (do
      tz ← string_in file zone
      demand (agrees file zone.block tz) (refusal 60 (end_of zone.block))
      given (Some tz))

-- the rule is asked after the last transition, and throughout where there are none
unfoldable pub is_ruled : List ℕ → Block → ℕ → Bool
is_ruled file block instant = if eqb block.timecnt 0 then true else is_after_last file block instant

-- 61: outside the years 1 to 9999
unfoldable pub by_rule : Option Time → Reply (Option Found)
by_rule (Some time) = given (Some (found_of time))
by_rule None = refused (refusal 61 0)

unfoldable pub answer_by : List ℕ → Block → Option Tz → ℕ → Reply (Option Found)
answer_by file block None instant = given (by_table file block instant)
answer_by file block (Some tz) instant = if is_ruled file block instant then by_rule (ask_in file block tz instant) else given (by_table file block instant)

unfoldable pub answer_at : Rfc → List ℕ → ℤ → Reply (Option Found)
answer_at rfc file instant = do
  zone ← read_zone_by rfc file
  rules ← rules_in file zone
  answer_by file zone.block rules (lift instant)

-- local time in a file at an instant, with so much text lent
unfoldable pub local_time_by : Rfc → List ℕ → ℤ → ℕ → Replied
local_time_by rfc file instant room = lent file room (answer_at rfc file instant)

-- by the newer RFC
abbrev pub local_time : List ℕ → ℤ → ℕ → Replied
local_time = local_time_by rfc9636

-- ---- the scale on which the instant was read
-- UNIX time's, 1, where the block that answers has no leap-second records; else the file's own, 2, with the bits of the correction at the instant
unfoldable pub scale_in : List ℕ → Block → ℕ → Scale
scale_in file block instant =
    if eqb block.leapcnt 0 then record { kind = 1; correction = 0 }
    else record { kind = 2; correction = raised (correction_at file block instant) }

-- none, 0, where the file is refused
unfoldable pub scale_or : Reply Scale → Scale
scale_or (given scale) = scale
scale_or (refused why) = record { kind = 0; correction = 0 }

-- of a file at an instant, whether or not it says what holds there
unfoldable pub scale_by : Rfc → List ℕ → ℤ → Scale
scale_by rfc file instant = scale_or (do
  zone ← read_zone_by rfc file
  rules ← rules_in file zone
  given (scale_in file zone.block (lift instant)))

-- by the newer RFC
abbrev pub scale_at : List ℕ → ℤ → Scale
scale_at = scale_by rfc9636

-- ---- what the checks leave behind
-- a block in which nothing is at fault
pub record Sound (file : List ℕ) (block : Block) : Type 0 where
  pub good : Good file block
  pub leaps : Rises file (occurrences_of block)

-- a rule whose names the file holds
abbrev pub HeldRules : ℕ → Option Tz → Type 0
HeldRules end rules = IfSome rules (IsTz end)

-- an abbreviation that the file holds, where there is one
abbrev pub HeldSaid : ℕ → Reply (Option Found) → Type 0
HeldSaid end said = IfOk said (λ answer. IfSome answer (Held end))

-- a clock whose name the file holds
abbrev pub HeldAsked : ℕ → Option Time → Type 0
HeldAsked end asked = IfSome asked (λ time. IsClock end time.clock)
