-- The lines that are printed: "hour 2026-07-01 13:59:59 3 7200 1 CEST", "unknown", "refused 60 685".
use Rattle.std.specs.Prelude.{◌∷◌, ◌++◌}
use Rattle.numbers.specs.Prelude.{ℕ, suc, ℤ, pos, negsuc, List, [], map}
use Rattle.calendar.specs.declared.civil.Reading.{Reading}
use Rattle.line.specs.{Clock.{date_text, time_text, shown}, Put.{decimal}}
use Rattle.tzif.specs.declared.{local.Local.{Local}, refusal.Refusal.{Refusal}}

-- "-" before a negative number
unfoldable pub signed_text : ℤ → List ℕ
signed_text (pos n) = decimal n
signed_text (negsuc n) = 45 ∷ decimal (suc n)

-- "hour", date, time, weekday
unfoldable pub clock_text : Reading → List ℕ
clock_text reading = (104 ∷ 111 ∷ 117 ∷ 114 ∷ 32 ∷ []) ++ (date_text reading ++ (32 ∷ (time_text reading ++ (32 ∷ decimal reading.weekday))))

-- and seconds east, daylight flag, abbreviation
unfoldable pub hour_line : Reading → Local → List ℕ → List ℕ
hour_line reading local name = clock_text reading ++ ((32 ∷ signed_text local.offset) ++ ((32 ∷ decimal local.daylight) ++ ((32 ∷ map shown name) ++ (10 ∷ []))))

-- "unknown"
abbrev pub unknown_line : List ℕ
unknown_line = 117 ∷ 110 ∷ 107 ∷ 110 ∷ 111 ∷ 119 ∷ 110 ∷ 10 ∷ []

-- "refused", number, detail
unfoldable pub refused_line : Refusal → List ℕ
refused_line why = (114 ∷ 101 ∷ 102 ∷ 117 ∷ 115 ∷ 101 ∷ 100 ∷ []) ++ ((32 ∷ decimal why.number) ++ ((32 ∷ decimal why.detail) ++ (10 ∷ [])))
