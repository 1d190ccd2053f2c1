-- What a TZ string says of an instant.
use Rattle.std.specs.Prelude.{Option, Some, None, if◌then◌else◌, ◌+◌, ◌-◌, ◌^◌, ◌&&◌}
use Rattle.numbers.specs.Prelude.{ℕ, leb, Bool}
use Rattle.tzrule.specs.{Summer.{is_summer, IsRule}, declared.{ask.Time.{Time}, rule.Tz.{Tz, TheVariants.{Fixed, Changing}}}}

-- an instant, which is given more 2 ^ 63, less a correction, which is given more 2 ^ 31
unfoldable pub corrected : ℕ → ℕ → ℕ
corrected instant correction = instant + 2 ^ 31 - correction

-- it is in the years 1 to 9999 in UT: from -62,135,596,800 to 253,402,300,799
unfoldable pub in_years : ℕ → Bool
in_years u = leb (2 ^ 63 - 62135596800) u && leb u (2 ^ 63 + 253402300799)

-- counted as the rule's instants are: from 400 years before the year 1, and two weeks more
unfoldable pub since : ℕ → ℕ
since u = u + 74759587200 - 2 ^ 63

-- the numbers of its rule are in their ranges
unfoldable pub Ruled : Tz → Type 0
Ruled (Fixed clock) = Unit {0}
Ruled (Changing rule) = IsRule rule

-- which clock holds, and whether it is summer time
unfoldable pub clock_at : Tz → ℕ → Time
clock_at (Fixed clock) u = record { clock = clock; daylight = 0 }
clock_at (Changing rule) u =
    if is_summer rule (since u) then record { clock = rule.daylight; daylight = 1 }
    else record { clock = rule.standard; daylight = 0 }

-- the string answers in these years alone
unfoldable pub ask : Tz → ℕ → Option Time
ask tz u = if in_years u then Some (clock_at tz u) else None
