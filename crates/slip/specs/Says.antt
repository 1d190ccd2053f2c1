-- What a stamped slip says of its search and of its matches: the words of its theorems.
use Rattle.std.specs.Prelude.{if◌then◌else◌, ◌+◌, ◌≤◌, ◌<◌, ◌+ℤ◌, ◌&&◌, ◌||◌, ◌∷◌, ◌++◌, ◌≡◌}
use Rattle.numbers.specs.{Answer.{found}, Lists.{padded}, Prelude.{ℕ, leb, ℤ, length, take, Bool, false, List, []}, Reply.{given}}
use Rattle.bundle.specs.{Bundle.{find_of}, declared.find.File.{File}}
use Rattle.calendar.specs.{Civil.{Shows}, declared.civil.Reading.{Reading}}
use Rattle.header.specs.{Header.{head_of}, declared.header.Head.{Head}}
use Rattle.localtime.specs.Local.{scale_at}
use Rattle.request.specs.{Request.{request_of}, declared.read.Fix.{Fix}}
use Rattle.slip.specs.{Hour.{Hour, name_of, local_in, hours_from}, Line.{clock_text, is_among, zones_from}, ReadBack.{read_back}, Slip.{place_of}, declared.slip.Stamped.{Stamped}}
use Rattle.table.specs.{Hits.{words}, declared.hits.Hit.{Hit}}
use Rattle.tzif.specs.{Text.{slice}, declared.local.Found.{Found}}
use Rattle.zones.specs.{Lent.{replied}, Lookup.{looked_up}, Unstopped.{looked_through_all}, declared.lookup.Zones.{Zones}}

-- a request means a fix, of which this holds
pub record Meant (request : List ℕ) (Holds : Fix → Type 0) : Type 0 where
  pub fix : Fix
  pub asked : request_of request ≡ given fix
  pub holds : Holds fix

-- the fix was looked up in the map without safezone; the answer, which is in hits and text, has mark 1; it is that of a search that never stops early
pub record Whole (fix : Fix) (map : List ℕ) (n room : ℕ) (hits text : List ℕ) : Type 0 where
  pub zones : Zones
  pub looked : looked_up map (place_of fix) false n room ≡ replied (given zones) hits text
  pub mark : zones.mark ≡ 1
  pub whole : looked_up map (place_of fix) false n room ≡ looked_through_all map (place_of fix) false n room

-- there is a TZif file under the match's joined name, it counts UNIX time at the instant, and its local time there has the offset
pub record Says (map : List ℕ) (head : Head) (zones : List ℕ) (instant offset : ℤ) (match : Hit) : Type 0 where
  pub name : List ℕ
  pub named : name_of map head match.metadata ≡ given name
  pub file : File
  pub held : find_of zones name ≡ given file
  pub unix : (scale_at (slice zones file.start file.length) instant).kind ≡ 1
  pub found : Found
  pub local : local_in (slice zones file.start file.length) instant ≡ given found
  pub same : found.offset ≡ offset

unfoldable pub EachSays : List ℕ → Head → List ℕ → ℤ → ℤ → List Hit → Type 0
EachSays map head zones instant offset [] = Unit {0}
EachSays map head zones instant offset (match ∷ matches) = Says map head zones instant offset match × EachSays map head zones instant offset matches

-- there is a match, every match says the printed offset, and the line is the one civil reading of instant and offset, and behind it the zones of the matches' hours
pub record AllSay (map zones : List ℕ) (fix : Fix) (matches : List Hit) (offset : ℤ) (line : List ℕ) : Type 0 where
  pub head : Head
  pub opened : head_of map ≡ given head
  pub some : 0 < length matches
  pub each : EachSays map head zones fix.instant offset matches
  pub reading : Reading
  pub shows : Shows (fix.instant +ℤ offset) reading
  pub hours : List Hour
  pub said : hours_from map head zones fix.instant 1 matches ≡ given hours
  pub printed : line ≡ clock_text reading offset ++ zones_from [] hours

-- the matches in the lent hits, as many as the reply says, and the line in the lent output; and that all say so
pub record Agreed (fix : Fix) (map zones : List ℕ) (n size : ℕ) (stamped : Stamped) (hs os : List ℕ) : Type 0 where
  pub matches : List Hit
  pub hits : hs ≡ padded n (words matches)
  pub counted : stamped.matches ≡ length matches
  pub line : List ℕ
  pub out : os ≡ padded size line
  pub long : stamped.length ≡ length line
  pub says : AllSay map zones fix matches stamped.offset line

-- the printed bytes, read back, are the one civil reading of instant and offset, and the offset
pub record Clocked (fix : Fix) (stamped : Stamped) (os : List ℕ) : Type 0 where
  pub reading : Reading
  pub shows : Shows (fix.instant +ℤ stamped.offset) reading
  pub back : read_back (take stamped.length os) ≡ found (record { reading = reading; offset = stamped.offset })

-- ---- the numbers of a refusal
abbrev pub from : ℕ → ℕ → ℕ → Bool
from low high n = leb low n && leb n high

-- at a fix: the map's, 1 to 18; a zone file's, 40 to 61; the slip's own, from 84 on
unfoldable pub is_at_number : ℕ → Bool
is_at_number n = from 1 18 n || from 40 61 n || from 84 92 n

-- of a request: the request's own too, from 80 on
unfoldable pub is_slip_number : ℕ → Bool
is_slip_number n = from 1 18 n || from 40 61 n || from 80 92 n

-- ---- the longest line
-- for each different zone at most two bytes before it, its abbreviation, a space and forty bytes of name
unfoldable pub zones_most : List Hour → List Hour → ℕ
zones_most before [] = 0
zones_most before (hour ∷ hours) = (if is_among hour.name before then 0 else 43 + length hour.abbreviation) + zones_most (before ++ (hour ∷ [])) hours

-- the line is no longer than the clock with its offset, 37 bytes, and the zones of the matches in the lent hits; before the first of them stands one byte
pub record Short (fix : Fix) (map zones : List ℕ) (n : ℕ) (stamped : Stamped) (hs : List ℕ) : Type 0 where
  pub matches : List Hit
  pub hits : hs ≡ padded n (words matches)
  pub head : Head
  pub opened : head_of map ≡ given head
  pub hours : List Hour
  pub said : hours_from map head zones fix.instant 1 matches ≡ given hours
  pub short : stamped.length ≤ 36 + zones_most [] hours
