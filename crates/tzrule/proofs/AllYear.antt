-- Summer time all the year: where each summer lasts until the next begins. Assumes nothing.
use Rattle.numbers.{proofs.Prelude.{ℕ, suc, ◌+◌, ◌-◌, ◌*◌, ◌/◌, ◌≤◌, ◌<◌, le-ltb, ltb, Bool, true, false, ◌≡◌, refl, ap, arith}, specs.Answer.{if◌then◌else◌}}
use Rattle.calendar.{proofs.Rising.{Between, passes}, specs.{Calendar.{is_leap, year_length, days_of_years}, Rules.{leap_day, day_of}, declared.rule.When.TheVariants.{Julian, Zero}}}
use Rattle.tzrule.proofs.{Guess.{start_low}, Latest.{summer_then, summer_if}}
use Rattle.tzrule.specs.{Summer.{change_of, start_of, end_of, close_of, IsSummer, IsRule}, declared.rule.Rule.{Rule}}

module _ (rule : Rule) (good : IsRule rule) where
  -- some year began last
  pub last_begun : (instant : ℕ) → start_of rule 0 ≤ instant → Between (start_of rule) instant
  last_begun instant h = passes (start_of rule) instant (instant / 31556952 + 2) h (omega (arith, start_low rule good (instant / 31556952 + 2)))

  -- each summer lasts until the next begins: then it is always summer
  pub all_year : ((year : ℕ) → start_of rule (suc year) ≤ close_of rule year) → (instant : ℕ) → start_of rule 0 ≤ instant → IsSummer rule instant
  all_year lasts instant h = let b = last_begun instant h in summer_if rule good b.step instant b.from b.to (omega (arith, b.to, lasts b.step))

  -- and only then
  pub all_year_only : ((instant : ℕ) → start_of rule 0 ≤ instant → IsSummer rule instant) → (year : ℕ) → start_of rule 0 ≤ start_of rule year → start_of rule year < start_of rule (suc year) →
      start_of rule (suc year) ≤ close_of rule year
  all_year_only always year first up =
      omega (arith, summer_then rule good year (start_of rule (suc year) - 1) (omega arith) (omega arith) (always (start_of rule (suc year) - 1) (omega arith)))

-- the last day of a year, by cases
last_cases : (leap : Bool) → 365 + (if leap then (if ltb 365 60 then 0 else 1) else 0) ≡ (if leap then 366 else 365)
last_cases true = refl
last_cases false = refl

last_day : (year : ℕ) → days_of_years year + (365 - 1) + leap_day year 365 + 1 ≡ days_of_years (suc year)
unfolding days_of_years year_length leap_day
last_day year = omega (arith, last_cases (is_leap (suc year)))

-- from 1 January to 31 December: `0/0,J365/25` with the offsets of EST5EDT, and longer
module _ (rule : Rule) (good : IsRule rule) (s : rule.start.when ≡ Zero 0) (e : rule.end.when ≡ Julian 365) where
  start_plain : (year : ℕ) → start_of rule year ≡ 86400 * (days_of_years year + 0) + rule.start.time + rule.standard.west
  unfolding start_of change_of day_of
  start_plain year = ap (λ w. 86400 * day_of w year + rule.start.time + rule.standard.west) s

  end_plain : (year : ℕ) → end_of rule year ≡ 86400 * (days_of_years year + (365 - 1) + leap_day year 365) + rule.end.time + rule.daylight.west
  unfolding end_of change_of day_of
  end_plain year = ap (λ w. 86400 * day_of w year + rule.end.time + rule.daylight.west) e

  -- the end is a day's length or more after the start's time
  pub whole_year : rule.start.time + rule.standard.west + 86400 ≤ rule.end.time + rule.daylight.west → (instant : ℕ) → start_of rule 0 ≤ instant → IsSummer rule instant
  unfolding close_of
  whole_year h = all_year rule good
      (λ year. simp (le-ltb (end_of rule year) (start_of rule year) (omega (arith, start_plain year, end_plain year))) (omega (arith, start_plain (suc year), end_plain year, last_day year)))

  -- a second less leaves the last second of each year
  pub last_second : rule.start.time + rule.standard.west + 86400 ≡ rule.end.time + rule.daylight.west + 1 → (year : ℕ) → IsSummer rule (end_of rule year) → ⊥
  unfolding close_of
  last_second h year summer =
      omega (
        arith,
        closes,
        summer_then rule good year (end_of rule year) (omega (arith, start_plain year, end_plain year)) (omega (
          arith,
          start_plain (suc year),
          end_plain year,
          last_day year,
        )) summer,
      ) where
        closes : close_of rule year ≡ end_of rule year
        closes = simp (le-ltb (end_of rule year) (start_of rule year) (omega (arith, start_plain year, end_plain year)))
