-- What the code's answers say, and what its inner functions say to each other.
use Rattle.std.specs.Prelude.{if◌then◌else◌, ◌-◌, ◌*◌, ◌/◌, ◌^◌, ◌<◌, ◌&&◌, ◌||◌}
use Rattle.numbers.specs.{Answer.{Answer, found}, Prelude.{ℕ, eqb, leb, ℤ, Bool}, Reply.{Reply, given, ◌>>=◌}}
use Rattle.request.specs.{Clock.{Date, Time, is_date, is_time, day_of, second_of, signed_of}, Number.{Size}, Text.{is_digit, is_capital}, declared.degrees.Ratio.{Ratio}}
use Rattle.numbers.specs.Answer as A

-- ---- pieces of the definitions
-- what is given is shown as something else
abbrev pub shown : {A B : Type 0} → Reply A → (A → B) → Reply B
shown reply as-that = reply >>= λ a. given (as-that a)

-- a byte that `every` takes, and one as a form has it
abbrev pub taken : Bool → ℕ → Bool
taken letters byte = is_digit byte || (letters && is_capital byte)

abbrev pub likened : ℕ → ℕ → Bool
likened mark byte = if eqb mark 48 then is_digit byte else eqb byte mark

-- at most so many degrees
abbrev pub limited_to : ℕ → ℕ → ℕ → Answer Size
limited_to limit num den = if leb num (limit * den) then found (record { num = num; den = den }) else A.refused 84

-- in its range
abbrev pub timely : Time → Answer ℕ
timely time = if is_time time then found (second_of time) else A.refused 84

-- a month of the years 1 to 9999, and a day
unfoldable pub is_month : Date → Bool
is_month d = leb 1 d.year && leb d.year 9999 && leb 1 d.month && leb d.month 12 && leb 1 d.day

abbrev pub dated : Date → Answer ℕ
dated date = if is_date date then found (day_of date) else A.refused 84

-- a size with its sign, in the range of an i64
abbrev pub signed_to : Bool → ℕ → Answer ℤ
signed_to minus size = if leb size (if minus then 2 ^ 63 else 2 ^ 63 - 1) then found (signed_of minus size) else A.refused 84

-- ---- bounds
-- a size that rounds as it should
unfoldable pub IsSize : Ratio → Type 0
IsSize size = (0 < size.den) × (size.num / size.den < 16777216)
