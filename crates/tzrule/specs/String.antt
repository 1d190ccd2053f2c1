-- The whole TZ string: std offset [dst [offset] , date [/time] , date [/time]], and the newline that closes it.
use Rattle.std.specs.Prelude.{if◌then◌else◌, ◌-◌}
use Rattle.numbers.specs.Prelude.{ℕ, eqb, Bool, List}
use Rattle.tzrule.specs.{Answer.{Answer, read, fault, ◌>>=◌, give, if_byte}, Grammar.{later_of, signed_of, date_of}, Names.{name_of}, Text.{byte_at}, declared.number.Shape.{Shape}}
use Rattle.tzrule.specs.declared.rule.{Change.{Change}, Clock.{Clock}, Tz.{Tz, TheVariants.{Fixed, Changing}}}

-- hours of an offset, and of a time of version 2: 0 to 24; of a time from version 3 on: 0 to 167, with a sign
abbrev pub day_hours : Shape
day_hours = record { least = 1; most = 2; low = 0; high = 24 }

abbrev pub week_hours : Shape
week_hours = record { least = 1; most = 3; low = 0; high = 167 }

-- what must stand here, and what comes behind it
abbrev pub behind : {A : Type 0} → List ℕ → ℕ → (ℕ → Answer A) → ℕ → Answer A
behind text byte next = if_byte text byte next fault

-- a time behind the slash, by the version
unfoldable pub hours_of : Bool → List ℕ → ℕ → Answer ℕ
hours_of wide text = if wide then signed_of week_hours text else later_of day_hours text

-- [/time], else 02:00:00
unfoldable pub time_of : Bool → List ℕ → ℕ → Answer ℕ
time_of wide text = if_byte text 47 (hours_of wide text) (give 612000)

-- ,date[/time]
unfoldable pub change_of : Bool → List ℕ → ℕ → Answer Change
change_of wide text = behind text 44 (do
  when ← date_of text
  time ← time_of wide text
  give (record { when = when; time = time }))

-- name offset, by what an offset is
unfoldable pub clock_of : (ℕ → Answer ℕ) → List ℕ → ℕ → Answer Clock
clock_of offset text = do
  name ← name_of text
  west ← offset
  give (record { name = name; west = west })

-- the offset of summer time: an hour east of standard time where a comma follows at once
unfoldable pub summer_of : ℕ → List ℕ → ℕ → Answer ℕ
summer_of standard text at = if eqb (byte_at text at) 44 then read (standard - 3600) at else signed_of day_hours text at

-- dst[offset],date[/time],date[/time]
unfoldable pub changing_of : Bool → Clock → List ℕ → ℕ → Answer Tz
changing_of wide standard text = do
  daylight ← clock_of (summer_of standard.west text) text
  start ← change_of wide text
  end ← change_of wide text
  behind text 10 (give (Changing (record { standard = standard; daylight = daylight; start = start; end = end })))

-- the string: standard time all the year, or summer time too
unfoldable pub string_of : Bool → List ℕ → ℕ → Answer Tz
string_of wide text = do
  standard ← clock_of (signed_of day_hours text) text
  if_byte text 10 (give (Fixed standard)) (changing_of wide standard text)
