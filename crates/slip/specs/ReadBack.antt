-- A printed line read back as numbers: weekday, date, time and offset, from their letters and digits. Digits count as a request's do.
use Rattle.std.specs.Prelude.{if◌then◌else◌, ◌+◌, ◌*◌, ◌&&◌, ◌||◌, ◌∷◌}
use Rattle.numbers.specs.{Answer.{Answer, found, failed, ◌>>=◌}, Prelude.{ℕ, zero, suc, leb, ℤ, length, take, drop, get_or, Bool, List, []}}
use Rattle.calendar.specs.declared.civil.Reading.{Reading}
use Rattle.line.specs.Clock.{weekday_text}
use Rattle.request.specs.{Clock.{signed_of}, Number.{value_of, part_of, is_sign, is_minus}, Text.{digits, formed, until, word}}
use Rattle.zones.specs.Simple.{same}

-- what a line says: what the clock shows, and seconds east of UT
pub record Printed : Type 0 where
  pub reading : Reading
  pub offset : ℤ

-- the weekday, of so many, whose letters these are
unfoldable pub weekday_in : ℕ → List ℕ → Answer ℕ
weekday_in zero letters = failed
weekday_in (suc n) letters = if same letters (weekday_text n) then found n else weekday_in n letters

-- " 0000-00-00 00:00:00 ", behind the weekday's three letters
abbrev pub clock_form : List ℕ
clock_form = 32 ∷ 48 ∷ 48 ∷ 48 ∷ 48 ∷ 45 ∷ 48 ∷ 48 ∷ 45 ∷ 48 ∷ 48 ∷ 32 ∷ 48 ∷ 48 ∷ 58 ∷ 48 ∷ 48 ∷ 58 ∷ 48 ∷ 48 ∷ 32 ∷ []

-- ":00", or ":00:00"
unfoldable pub is_minutes : List ℕ → Bool
is_minutes text = formed (58 ∷ 48 ∷ 48 ∷ []) text || formed (58 ∷ 48 ∷ 48 ∷ 58 ∷ 48 ∷ 48 ∷ []) text

-- hours of two digits or more up to the first ":", minutes, and seconds where they stand
unfoldable pub span_in : List ℕ → Answer ℕ
span_in text =
    let hours = until 58 58 text in
    let rest = drop (length hours) text in
    if leb 2 (length hours) && digits hours && is_minutes rest then found (3600 * value_of hours + 60 * part_of 1 2 rest + part_of 4 2 rest) else failed

-- "+" or "-" before it
unfoldable pub offset_in : List ℕ → Answer ℤ
offset_in text = if is_sign (get_or text 0 0) then (span_in (drop 1 text) >>= λ size. found (signed_of (is_minus text) size)) else failed

-- the numbers of date and time at their places
unfoldable pub reading_in : ℕ → List ℕ → Reading
reading_in weekday line =
    record {
      year = part_of 4 4 line;
      month = part_of 9 2 line;
      day = part_of 12 2 line;
      hour = part_of 15 2 line;
      minute = part_of 18 2 line;
      second = part_of 21 2 line;
      weekday = weekday;
    }

-- the line's first four words: weekday, date, time, offset
unfoldable pub read_back : List ℕ → Answer Printed
read_back line = do
  weekday ← weekday_in 7 (take 3 line)
  offset ← offset_in (word (drop 24 line))
  if formed clock_form (take 21 (drop 3 line)) then found (record { reading = reading_in weekday line; offset = offset }) else failed
