-- What the code's answers say: names, abbreviations and lines by where they stand in what was lent.
use Rattle.std.specs.Prelude.{◌+◌, ◌≤◌, ◌||◌, ◌∷◌, ◌++◌, ◌≡◌, if◌then◌else◌}
use Rattle.numbers.specs.Prelude.{ℕ, eqb, ℤ, length, Bool, false, List, []}
use Rattle.numbers.specs.{Lists.{zeros, padded}, Reply.{Reply, given, refused, refusal, demand, ◌>>=◌, ◌>>◌}}
use Rattle.atlas.specs.Beside.{zones_beside}
use Rattle.header.specs.{Text.{bytes_of}, declared.header.Head.{Head}}
use Rattle.calendar.specs.declared.civil.Reading.{Reading}
use Rattle.line.specs.Put.{Put}
use Rattle.request.specs.declared.read.Fix.{Fix}
use Rattle.slip.specs.{Hour.{Hour, name_of, hour_of, hours_from}, Line.{between, zone_text, zones_from, line_of}, Slip.{Slip, Replied, place_of, agreed, fitted, replied_of, replied, have_offset}}
use Rattle.slip.specs.declared.{hour.Spot.{Spot}, hours.All.{All}, slip.Stamped.{Stamped}}
use Rattle.table.specs.declared.hits.Hit.{Hit}
use Rattle.tzif.specs.{Local.{Held}, Text.{slice}, declared.local.Found.{Found}}
use Rattle.zones.specs.{Simple.{same, LiesParts}, declared.simple.Parts.{Parts}}

-- ---- a name in the map
abbrev pub name_in : List ℕ → Parts → List ℕ
name_in map name = bytes_of map name.one ++ bytes_of map name.two

-- ---- what a match says
abbrev pub hour_at : List ℕ → List ℕ → Spot → Hour
hour_at map zones spot = record { name = name_in map spot.name; abbreviation = slice zones spot.place spot.size; offset = spot.offset; reading = spot.reading }

-- name and abbreviation lie in map and bundle
pub record Stands (map zones : ℕ) (spot : Spot) : Type 0 where
  pub name : LiesParts map spot.name
  pub abbreviation : spot.place + spot.size ≤ zones

-- ---- what all matches say
-- the hours, by the first of them and whether all have its offset
pub record Seen (map zones : List ℕ) (hours : List Hour) (all : All) : Type 0 where
  pub others : List Hour
  pub are : hours ≡ hour_at map zones all.first ∷ others
  pub agree : all.agree ≡ have_offset all.first.offset hours
  pub stands : Stands (length map) (length zones) all.first

-- the first match says what stands at a spot
pub record FirstAt (map : List ℕ) (head : Head) (zones : List ℕ) (instant : ℤ) (first : Hit) (spot : Spot) : Type 0 where
  pub says : hour_of map head zones instant 1 first ≡ given (hour_at map zones spot)
  pub stands : Stands (length map) (length zones) spot

-- ---- the line
-- one of these matches has the name
unfoldable pub is_named : Reply (List ℕ) → List ℕ → Bool
is_named (given name) other = same name other
is_named (refused why) other = false

unfoldable pub is_named_in : List ℕ → Head → List ℕ → List Hit → Bool
is_named_in map head name [] = false
is_named_in map head name (match ∷ matches) = is_named (name_of map head match.metadata) name || is_named_in map head name matches

-- what a match adds, by whether one before it has the name
unfoldable pub added_by : Bool → ℕ → Hour → List ℕ
added_by stands before hour = if stands then [] else (between before ++ zone_text hour)

-- the zones of the hours stand in a buffer, where there are hours; its length stays
pub record Lined (hours : Reply (List Hour)) (before : List ℕ) (at : ℕ) (after : List ℕ) (next : ℕ) : Type 0 where
  pub zones : {hs : List Hour} → hours ≡ given hs → Put before at (zones_from [] hs) after next
  pub kept : length after ≡ length before

-- and so does the line
pub record Inked (hours : Reply (List Hour)) (hour : Hour) (before after : List ℕ) (next : ℕ) : Type 0 where
  pub line : {hs : List Hour} → hours ≡ given hs → Put before 0 (line_of hour hs) after next
  pub kept : length after ≡ length before

-- ---- the slip
-- steps 5 to 8, of so many matches: what is stamped, and the line
pub record Ink : Type 0 where
  pub stamped : Stamped
  pub line : List ℕ

abbrev pub ink_of : Fix → List ℕ → Head → List ℕ → ℕ → List Hit → Reply Ink
ink_of fix map head zones size matches = do
  hours ← hours_from map head zones fix.instant 1 matches
  hour ← agreed hours
  line ← fitted size (line_of hour hours)
  given (record { stamped = record { length = length line; matches = length hours; offset = hour.offset }; line = line })

-- steps 2 to 8, of a map with this header
abbrev pub slip_with : Fix → List ℕ → Head → List ℕ → List ℕ → ℕ → ℕ → ℕ → Reply Slip
slip_with fix map head atlas zones n room size = do
  looked ← zones_beside map head atlas (place_of fix) false n room
  demand (eqb looked.answer.mark 1) (refusal 85 0 looked.answer.mark)
  hours ← hours_from map head zones fix.instant 1 looked.matches
  hour ← agreed hours
  line ← fitted size (line_of hour hours)
  given (record { stamped = record { length = length line; matches = length hours; offset = hour.offset }; line = line; matches = looked.matches; text = looked.text })

-- the line in a lent buffer
pub record Wrote (size : ℕ) (out : List ℕ) (ink : Ink) (stamped : Stamped) : Type 0 where
  pub said : stamped ≡ ink.stamped
  pub kept : out ≡ padded size ink.line

-- the lent lists hold a slip
abbrev pub Filled : ℕ → ℕ → ℕ → List ℕ → List ℕ → List ℕ → Slip → Stamped → Type 0
Filled n room size hits text out slip stamped = replied (given stamped) hits text out ≡ replied_of n room size (given slip)

-- zeros throughout where it is refused
abbrev pub zeroed_unless : Reply Stamped → List ℕ → List ℕ → List ℕ → Replied
zeroed_unless (given stamped) hits text out = replied (given stamped) hits text out
zeroed_unless (refused why) hits text out = replied (refused why) (zeros (length hits)) (zeros (length text)) (zeros (length out))
