-- The printed line: "Wed 2026-07-01 13:59:59 +02:00 CEST Europe/Berlin".
use Rattle.std.specs.Prelude.{if◌then◌else◌, ◌||◌, ◌∷◌, ◌++◌}
use Rattle.numbers.specs.Prelude.{ℕ, zero, suc, ℤ, length, Bool, false, List, [], map}
use Rattle.calendar.specs.declared.civil.Reading.{Reading}
use Rattle.line.specs.Clock.{weekday_text, date_text, time_text, offset_text, shown}
use Rattle.slip.specs.Hour.{Hour}
use Rattle.zones.specs.Simple.{same}

-- weekday, date, time, offset
unfoldable pub clock_text : Reading → ℤ → List ℕ
clock_text reading offset = weekday_text reading.weekday ++ (32 ∷ (date_text reading ++ (32 ∷ (time_text reading ++ (32 ∷ offset_text offset)))))

-- one of these hours has the name
unfoldable pub is_among : List ℕ → List Hour → Bool
is_among name [] = false
is_among name (hour ∷ hours) = same hour.name name || is_among name hours

-- a space before the first zone, `, ` before one behind others
unfoldable pub between : ℕ → List ℕ
between zero = 32 ∷ []
between (suc others) = 44 ∷ 32 ∷ []

-- a text, with a `?` for each byte outside 33 to 126
abbrev pub shown_text : List ℕ → List ℕ
shown_text text = map shown text

-- abbreviation, space, name
unfoldable pub zone_text : Hour → List ℕ
zone_text hour = shown_text hour.abbreviation ++ (32 ∷ shown_text hour.name)

-- what a match adds to the line: its zone, unless one before it has the name
unfoldable pub added : List Hour → Hour → List ℕ
added before hour = if is_among hour.name before then [] else (between (length before) ++ zone_text hour)

-- each different zone, in order of its first match
unfoldable pub zones_from : List Hour → List Hour → List ℕ
zones_from before [] = []
zones_from before (hour ∷ hours) = added before hour ++ zones_from (before ++ (hour ∷ [])) hours

-- the line, by what the clock shows at all matches
unfoldable pub line_of : Hour → List Hour → List ℕ
line_of hour hours = clock_text hour.reading hour.offset ++ zones_from [] hours
