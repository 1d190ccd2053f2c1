-- The grammar of the numbers and times of a TZ string.
use Rattle.std.specs.Prelude.{if◌then◌else◌, ◌+◌, ◌-◌, ◌*◌, ◌≤◌}
use Rattle.numbers.specs.Prelude.{ℕ, ltb, List}
use Rattle.tzrule.specs.{Answer.{Answer, read, fault, ◌>>=◌, give, if_byte}, Text.{digits_of}, declared.number.{Digits.{Digits}, Shape.{Shape}}}
use Rattle.calendar.specs.declared.rule.When.{When, TheVariants.{Julian, Zero, Month}}

-- so many digits, and a number in a range
pub record IsShape (shape : Shape) : Type 0 where
  pub least : shape.least ≤ shape.most
  pub most : shape.most ≤ 3
  pub high : shape.high ≤ 999

-- too few digits: a fault where one is wanted; out of range: at the first
unfoldable pub ranged : Shape → ℕ → Digits → Answer ℕ
ranged shape at digits =
    if ltb digits.next (at + shape.least) then fault digits.next
    else if ltb digits.value shape.low then fault at
    else if ltb shape.high digits.value then fault at
    else read digits.value digits.next

-- a number
unfoldable pub number_of : Shape → List ℕ → ℕ → Answer ℕ
number_of shape text at = ranged shape at (digits_of shape.most text at 0)

-- minutes and seconds: two digits, 0 to 59
abbrev pub sixty : Shape
sixty = record { least = 2; most = 2; low = 0; high = 59 }

-- [:ss], more what was read before
unfoldable pub seconds_of : List ℕ → ℕ → ℕ → Answer ℕ
seconds_of text sum = if_byte text 58 (do
  seconds ← number_of sixty text
  give (sum + seconds)) (give sum)

-- [:mm[:ss]]
unfoldable pub minutes_of : List ℕ → ℕ → ℕ → Answer ℕ
minutes_of text sum = if_byte text 58 (do
  minutes ← number_of sixty text
  seconds_of text (sum + 60 * minutes)) (give sum)

-- hh[:mm[:ss]] in seconds
unfoldable pub clock_of : Shape → List ℕ → ℕ → Answer ℕ
clock_of hours text = do
  hour ← number_of hours text
  minutes_of text (3600 * hour)

-- a time after midnight, more 604800
unfoldable pub later_of : Shape → List ℕ → ℕ → Answer ℕ
later_of hours text = do
  time ← clock_of hours text
  give (604800 + time)

-- a time before it
unfoldable pub earlier_of : Shape → List ℕ → ℕ → Answer ℕ
earlier_of hours text = do
  time ← clock_of hours text
  give (604800 - time)

-- with or without a sign, which is of the whole
unfoldable pub signed_of : Shape → List ℕ → ℕ → Answer ℕ
signed_of hours text = if_byte text 45 (earlier_of hours text) (if_byte text 43 (later_of hours text) (later_of hours text))

-- a number behind a full stop
unfoldable pub dotted_of : Shape → List ℕ → ℕ → Answer ℕ
dotted_of shape text = if_byte text 46 (number_of shape text) fault

-- one digit to three
abbrev pub days : ℕ → Shape
days low = record { least = 1; most = 3; low = low; high = 365 }

abbrev pub months : Shape
months = record { least = 1; most = 2; low = 1; high = 12 }

abbrev pub weeks : Shape
weeks = record { least = 1; most = 1; low = 1; high = 5 }

abbrev pub weekdays : Shape
weekdays = record { least = 1; most = 1; low = 0; high = 6 }

-- J n, behind the J
unfoldable pub julian_of : List ℕ → ℕ → Answer When
julian_of text = do
  n ← number_of (days 1) text
  give (Julian n)

-- n
unfoldable pub zero_of : List ℕ → ℕ → Answer When
zero_of text = do
  n ← number_of (days 0) text
  give (Zero n)

-- M month.week.weekday, behind the M, behind the month, and behind the week
unfoldable pub weekday_from : ℕ → ℕ → List ℕ → ℕ → Answer When
weekday_from month week text = do
  weekday ← dotted_of weekdays text
  give (Month month week weekday)

unfoldable pub week_from : ℕ → List ℕ → ℕ → Answer When
week_from month text = do
  week ← dotted_of weeks text
  weekday_from month week text

unfoldable pub month_from : List ℕ → ℕ → Answer When
month_from text = do
  month ← number_of months text
  week_from month text

-- a date
unfoldable pub date_of : List ℕ → ℕ → Answer When
date_of text = if_byte text 74 (julian_of text) (if_byte text 77 (month_from text) (zero_of text))
