-- S-3, step 6: what a match says of the instant. Its zone's name, the local time by that zone's file, and what a clock shows there.
use Rattle.std.specs.Prelude.{Option, ok_or, ◌+◌, ◌∷◌}
use Rattle.numbers.specs.Prelude.{ℕ, min, eqb, ℤ, not, List, []}
use Rattle.numbers.specs.{Reply.{Reply, given, refused, refusal, plain, demand, ◌>>=◌, ◌>>◌}, declared.refusal.Refusal.{Refusal}}
use Rattle.bundle.specs.Bundle.{find_of}
use Rattle.calendar.specs.{Civil.{civil_at}, declared.civil.Reading.{Reading}}
use Rattle.header.specs.declared.header.Head.{Head}
use Rattle.localtime.specs.Local.{answer_at, scale_at}
use Rattle.table.specs.declared.hits.Hit.{Hit}
use Rattle.tzif.specs.{Header.{rfc9636}, Text.{slice}, declared.local.Found.{Found}}
use Rattle.zones.specs.Simple.{description_at}
use Rattle.tzif.specs.Reply as Z

-- what a match says: the zone's name, its abbreviation and offset at the instant, and what a clock shows there
pub record Hour : Type 0 where
  pub name : List ℕ
  pub abbreviation : List ℕ
  pub offset : ℤ
  pub reading : Reading

-- ---- the name
-- 87: the map has not both names; else prefix and id, joined
abbrev pub named : Option (List ℕ) → Reply (List ℕ)
named name = ok_or name (plain 87)

-- the zone's name of a metadata id; 87 too where the map is not one of time zones. Names and type are the map's: they are missing for all matches or for none
unfoldable pub name_of : List ℕ → Head → ℕ → Reply (List ℕ)
name_of map head metadata = do
  demand (eqb head.preamble.kind 0x54) (plain 87)
  description ← description_at map head metadata
  named description

-- ---- the local time
-- a refusal of a zone's file has no cause of its own
abbrev pub plainly : {A : Type 0} → Z.Reply A → Reply A
plainly (Z.given a) = given a
plainly (Z.refused why) = refused (refusal why.number 0 why.detail)

-- 90: no local time is known
abbrev pub known : Option Found → Reply Found
known found = ok_or found (plain 90)

-- by a zone's file: 91 where the block that answers has leap-second records, so that its scale is not the instant's. A file that is refused (1, 40 to 60) has no scale; then 61, 90
unfoldable pub local_in : List ℕ → ℤ → Reply Found
local_in file instant = do
  demand (not (eqb (scale_at file instant).kind 2)) (plain 91)
  answer ← plainly (answer_at rfc9636 file instant)
  known answer

-- 61: the clock is outside the years 1 to 9999
abbrev pub shown : Option Reading → Reply Reading
shown reading = ok_or reading (plain 61)

-- ---- the match
-- by the file that the bundle has under a name: 89, 88; its own; the clock's. The abbreviation stands in the file
unfoldable pub hour_in : List ℕ → ℤ → List ℕ → Reply Hour
hour_in zones instant name = do
  file ← find_of zones name
  found ← local_in (slice zones file.start file.length) instant
  reading ← shown (civil_at instant found.offset)
  given (record { name = name; abbreviation = slice zones (file.start + found.place) found.length; offset = found.offset; reading = reading })

-- the first fault of a match is said with the match's number from 1, and 255 from the 255th on
abbrev pub blamed : ℕ → Refusal → Refusal
blamed number why = refusal why.number (min number 255) why.detail

abbrev pub of_match : {A : Type 0} → ℕ → Reply A → Reply A
of_match number (given a) = given a
of_match number (refused why) = refused (blamed number why)

module _ (map : List ℕ) (head : Head) (zones : List ℕ) (instant : ℤ) where
  -- what the match with this number says
  unfoldable pub hour_of : ℕ → Hit → Reply Hour
  hour_of number match = do
    name ← name_of map head match.metadata
    of_match number (hour_in zones instant name)

  -- each match in order; the first fault is the one said
  unfoldable pub hours_from : ℕ → List Hit → Reply (List Hour)
  hours_from number [] = given []
  hours_from number (match ∷ matches) = do
    hour ← hour_of number match
    hours ← hours_from (number + 1) matches
    given (hour ∷ hours)
