-- Dates, times of day and instants that a request spells.
use Rattle.std.specs.Prelude.{if◌then◌else◌, ◌+◌, ◌-◌, ◌*◌, ◌^◌, ◌&&◌, ◌∷◌}
use Rattle.numbers.specs.{Answer.{Answer}, Prelude.{ℕ, eqb, ltb, leb, ℤ, pos, negsuc, length, Bool, List, []}}
use Rattle.calendar.specs.{Calendar.{is_leap, month_length, day_number}, Moments.{instant_of}}
use Rattle.request.specs.{Number.{spelled, part_of, value_of, has_form, unsigned, is_minus}, Text.{digits, formed}}

pub record Date : Type 0 where
  pub year : ℕ
  pub month : ℕ
  pub day : ℕ

pub record Time : Type 0 where
  pub hour : ℕ
  pub minute : ℕ
  pub second : ℕ

-- a date of the years 1 to 9999
unfoldable pub is_date : Date → Bool
is_date d =
    leb 1 d.year && leb d.year 9999 && leb 1 d.month && leb d.month 12 && leb 1 d.day && leb d.day (month_length (is_leap d.year) d.month)

-- hours to 23, minutes and seconds to 59: a leap second is out of range
unfoldable pub is_time : Time → Bool
is_time t = leb t.hour 23 && leb t.minute 59 && leb t.second 59

-- ---- of a sentence
-- hhmmss, or hhmmss. and digits, which are dropped
unfoldable pub time_of : List ℕ → Answer Time
time_of text =
    let time : Time = record { hour = part_of 0 2 text; minute = part_of 2 2 text; second = part_of 4 2 text } in
    spelled (has_form 6 255 text) (is_time time) time

-- 80 to 99 are 1980 to 1999
unfoldable pub full_year : ℕ → ℕ
full_year year = if ltb year 80 then 2000 + year else 1900 + year

-- ddmmyy
unfoldable pub date_of : List ℕ → Answer Date
date_of text =
    let date : Date = record { year = full_year (part_of 4 2 text); month = part_of 2 2 text; day = part_of 0 2 text } in
    spelled (has_form 6 0 text) (is_date date) date

-- ---- of a plain line
-- an instant is said by its date and time in UTC, or by its seconds from 1970
pub data When : Type 0 where
  utc : Date → Time → When
  since : ℤ → When

-- 0000-00-00T00:00:00Z
abbrev pub moment_form : List ℕ
moment_form = 48 ∷ 48 ∷ 48 ∷ 48 ∷ 45 ∷ 48 ∷ 48 ∷ 45 ∷ 48 ∷ 48 ∷ 84 ∷ 48 ∷ 48 ∷ 58 ∷ 48 ∷ 48 ∷ 58 ∷ 48 ∷ 48 ∷ 90 ∷ []

abbrev pub moment_date : List ℕ → Date
moment_date text = record { year = part_of 0 4 text; month = part_of 5 2 text; day = part_of 8 2 text }

abbrev pub moment_time : List ℕ → Time
moment_time text = record { hour = part_of 11 2 text; minute = part_of 14 2 text; second = part_of 17 2 text }

unfoldable pub moment_of : List ℕ → Answer When
moment_of text = spelled (formed moment_form text) (is_date (moment_date text) && is_time (moment_time text)) (utc (moment_date text) (moment_time text))

-- a size with its sign
abbrev pub signed_of : Bool → ℕ → ℤ
signed_of minus size = if minus then (if eqb size 0 then pos 0 else negsuc (size - 1)) else pos size

-- an optional sign and one to nineteen digits, in the range of an i64
unfoldable pub seconds_of : List ℕ → Answer When
seconds_of text =
    let size = value_of (unsigned text) in
    spelled (leb 1 (length (unsigned text)) && leb (length (unsigned text)) 19 && digits (unsigned text))
    (leb size (if is_minus text then 2 ^ 63 else 2 ^ 63 - 1))
    (since (signed_of (is_minus text) size))

unfoldable pub when_of : List ℕ → Answer When
when_of text = if formed moment_form text then moment_of text else seconds_of text

-- ---- what it means
abbrev pub day_of : Date → ℕ
day_of d = day_number d.year d.month d.day

abbrev pub second_of : Time → ℕ
second_of t = 3600 * t.hour + 60 * t.minute + t.second

-- the instant whose date and time in UTC are those said, on a scale without leap seconds
unfoldable pub instant_at : When → ℤ
instant_at (utc date time) = instant_of (day_of date) (second_of time)
instant_at (since seconds) = seconds
