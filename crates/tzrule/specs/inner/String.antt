-- What the functions that read a TZ string say of each other.
use Rattle.std.specs.Prelude.{◌≤◌}
use Rattle.numbers.specs.Prelude.{ℕ}
use Rattle.tzrule.specs.{Answer.{Answer, read, fault}, Summer.{IsRule}, declared.rule.{Clock.{Clock}, Rule.{Rule}, Tz.{Tz, TheVariants.{Fixed, Changing}}}}
use Rattle.tzrule.specs.declared.string.StringAt.{StringAt}
use Rattle.tzrule.specs.declared.fault.Fault.{Fault}
use Rattle.std.specs.Prelude.{Result, Ok, Err}

-- what the code's answer says
unfoldable pub told_string : Result StringAt Fault → Answer Tz
told_string (Ok at) = read at.tz at.next
told_string (Err at) = fault at.place

-- the name is in the text, and the offset less than a week
pub record IsClock (end : ℕ) (clock : Clock) : Type 0 where
  pub ordered : clock.name.start ≤ clock.name.end
  pub inside : clock.name.end ≤ end
  pub west : clock.west ≤ 1209600

pub record IsChanging (end : ℕ) (rule : Rule) : Type 0 where
  pub standard : IsClock end rule.standard
  pub daylight : IsClock end rule.daylight
  pub good : IsRule rule

unfoldable pub IsTz : ℕ → Tz → Type 0
IsTz end (Fixed clock) = IsClock end clock
IsTz end (Changing rule) = IsChanging end rule

unfoldable pub GoodString : ℕ → Result StringAt Fault → Type 0
GoodString end (Ok at) = IsTz end at.tz
GoodString end (Err at) = at.place ≤ end
