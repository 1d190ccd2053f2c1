-- What the numbers of a rule's instants are in the calendar. Assumes nothing.
use Rattle.numbers.proofs.Prelude.{ℕ, ◌+◌, ◌-◌, ◌/◌, ◌%◌, ◌^◌, le-leb, true, ◌≡◌, arith}
use Rattle.calendar.{proofs.Laws.{days_closed, days_in_all, epoch}, specs.{Calendar.{days_of_years}, Moments.{seconds_to, InDays}}}
use Rattle.tzrule.proofs.ask.Ways.{years_range}
use Rattle.tzrule.specs.Ask.{in_years, since}

-- an instant, given more 2 ^ 63, is this second of this day of the years 1 to 9999: it is as far from the start of 1970
pub record SecondOf (u day second : ℕ) : Type 0 where
  pub inside : InDays day second
  pub there : u + seconds_to (days_of_years 1969) 0 ≡ 2 ^ 63 + seconds_to day second

-- and it is one of them
pub record OfYears (u : ℕ) : Type 0 where
  pub day : ℕ
  pub second : ℕ
  pub is : SecondOf u day second

-- 1970 begins 62135596800 seconds after the year 1
epoch_seconds : seconds_to (days_of_years 1969) 0 ≡ 62135596800
unfolding seconds_to
epoch_seconds = rw epoch (omega arith)

module _ (u : ℕ) where
  from_years : in_years u ≡ true → OfYears u
  unfolding seconds_to
  from_years e = let range = years_range u e in record {
    day = (u - 9223371974719179008) / 86400;
    second = (u - 9223371974719179008) % 86400;
    is = record { inside = record { day_to = omega (arith, range, days_in_all); second_to = omega arith }; there = omega (arith, range, epoch_seconds) };
  }

  to_years : OfYears u → in_years u ≡ true
  unfolding in_years seconds_to
  to_years o =
      simp (
        le-leb (2 ^ 63 - 62135596800) u (omega (arith, o.is.there, epoch_seconds)),
        le-leb u (2 ^ 63 + 253402300799) (omega (arith, o.is.there, o.is.inside.day_to, o.is.inside.second_to, days_in_all, epoch_seconds)),
      )

  -- `in_years` is exactly the seconds of the days of the years 1 to 9999
  pub in_years_days : (in_years u ≡ true → OfYears u) × (OfYears u → in_years u ≡ true)
  in_years_days = (from_years, to_years)

  -- `since` is the same second of the same day, counted from 400 years before the year 1, and two weeks more
  pub since_days : (day second : ℕ) → SecondOf u day second → since u ≡ seconds_to (days_of_years 400 + day) second + 1209600
  unfolding since seconds_to
  since_days day second s = omega (arith, s.there, epoch_seconds, days_closed 400)
