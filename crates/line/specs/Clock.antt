-- What a clock shows, and texts, as they are printed.
use Rattle.std.specs.Prelude.{if◌then◌else◌, ◌*◌, ◌/◌, ◌%◌, ◌&&◌, ◌∷◌, ◌++◌}
use Rattle.numbers.specs.Prelude.{ℕ, suc, eqb, ltb, ℤ, pos, negsuc, take, drop, List, []}
use Rattle.calendar.specs.declared.civil.Reading.{Reading}
use Rattle.line.specs.Put.{decimal, two_digits}

-- `Sun` to `Sat`
abbrev pub weekdays : List ℕ
weekdays =
    83 ∷ 117 ∷ 110 ∷ 77 ∷ 111 ∷ 110 ∷ 84 ∷ 117 ∷ 101 ∷ 87 ∷ 101 ∷ 100 ∷ 84 ∷ 104 ∷ 117 ∷ 70 ∷ 114 ∷ 105 ∷ 83 ∷ 97 ∷ 116 ∷ []

-- weekday 0 is Sunday
unfoldable pub weekday_text : ℕ → List ℕ
weekday_text weekday = take 3 (drop (3 * weekday) weekdays)

-- a year's four digits, "-", the month's two, "-", the day's
unfoldable pub date_text : Reading → List ℕ
date_text reading = two_digits (reading.year / 100) ++ (two_digits reading.year ++ (45 ∷ (two_digits reading.month ++ (45 ∷ two_digits reading.day))))

-- two digits of the hour, ":", the minute, ":", the second
unfoldable pub time_text : Reading → List ℕ
time_text reading = two_digits reading.hour ++ (58 ∷ (two_digits reading.minute ++ (58 ∷ two_digits reading.second)))

-- two digits or more
unfoldable pub hours_text : ℕ → List ℕ
hours_text hours = if ltb hours 100 then two_digits hours else decimal hours

-- ":" and two digits, where there are seconds
unfoldable pub seconds_text : ℕ → List ℕ
seconds_text seconds = if eqb seconds 0 then [] else (58 ∷ two_digits seconds)

-- so many seconds in hours, minutes, and seconds where there are some
unfoldable pub span_text : ℕ → List ℕ
span_text seconds = hours_text (seconds / 3600) ++ (58 ∷ (two_digits (seconds / 60 % 60) ++ seconds_text (seconds % 60)))

-- seconds east of UT: "-" below zero, else "+"
unfoldable pub offset_text : ℤ → List ℕ
offset_text (pos n) = 43 ∷ span_text n
offset_text (negsuc n) = 45 ∷ span_text (suc n)

-- a byte that would not stand on a line as a letter is "?"
unfoldable pub shown : ℕ → ℕ
shown byte = if (ltb 32 byte && ltb byte 127) then byte else 63
