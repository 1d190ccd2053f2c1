-- Summer time. Instants are seconds from the first midnight of the first year, more 1209600: a week for the time and one for the offset.
use Rattle.std.specs.Prelude.{if◌then◌else◌, ◌+◌, ◌*◌, ◌≤◌, ◌<◌}
use Rattle.numbers.specs.Prelude.{ℕ, zero, suc, ltb, leb, Bool, true, false}
use Rattle.calendar.specs.Rules.{day_of, IsWhen}
use Rattle.tzrule.specs.declared.rule.{Change.{Change}, Rule.{Rule}}

-- the instant of a change in a year, by the offset that it ends
unfoldable pub change_of : Change → ℕ → ℕ → ℕ
change_of change west year = 86400 * day_of change.when year + change.time + west

unfoldable pub start_of : Rule → ℕ → ℕ
start_of rule year = change_of rule.start rule.standard.west year

unfoldable pub end_of : Rule → ℕ → ℕ
end_of rule year = change_of rule.end rule.daylight.west year

-- where the summer of a year closes: at its end, or at the next year's where that comes before the start
unfoldable pub close_of : Rule → ℕ → ℕ
close_of rule year = if ltb (end_of rule year) (start_of rule year) then end_of rule (suc year) else end_of rule year

-- the instant is in the summer of a year
pub record InSummer (rule : Rule) (year instant : ℕ) : Type 0 where
  pub from : start_of rule year ≤ instant
  pub to : instant < close_of rule year

-- it is summer: of some year
pub record IsSummer (rule : Rule) (instant : ℕ) : Type 0 where
  pub year : ℕ
  pub inside : InSummer rule year instant

-- the same as a test: in that of one of the first so many years
unfoldable pub in_summer : Rule → ℕ → ℕ → Bool
in_summer rule year instant = if leb (start_of rule year) instant then ltb instant (close_of rule year) else false

unfoldable pub summer_among : ℕ → Rule → ℕ → Bool
summer_among zero rule instant = false
summer_among (suc year) rule instant = if in_summer rule year instant then true else summer_among year rule instant

-- no year begins before as many seconds as its number, so later ones need not be asked
unfoldable pub is_summer : Rule → ℕ → Bool
is_summer rule instant = summer_among (suc instant) rule instant

-- times and offsets are less than a week
pub record IsChange (change : Change) : Type 0 where
  pub when : IsWhen change.when
  pub time : change.time ≤ 1209600

pub record IsRule (rule : Rule) : Type 0 where
  pub standard : rule.standard.west ≤ 1209600
  pub daylight : rule.daylight.west ≤ 1209600
  pub start : IsChange rule.start
  pub end : IsChange rule.end

-- an instant of the years 1 to 9999
pub record InYears (instant : ℕ) : Type 0 where
  pub from : 12623990400 ≤ instant
  pub to : instant < 328161888000

-- what an answer says of a fact
unfoldable pub Says : Type 0 → Bool → Type 0
Says fact true = fact
Says fact false = fact → ⊥
