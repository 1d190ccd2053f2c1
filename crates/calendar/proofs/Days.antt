-- The date of a day, by the years and the months that have ended. Assumes nothing.
use Rattle.numbers.proofs.Prelude.{ℕ, suc, ◌+◌, ◌-◌, ◌≤◌, ◌<◌, Bool, refl, arith}
use native.Mathlib.Numerals.{sub-one}
use Rattle.calendar.proofs.{Dates.{place_short, placed_date, years_up}, Months.{months_up, placed}, Rising.{Between, rises}}
use Rattle.calendar.specs.{Calendar.{is_leap, days_of_years, days_of_months, InYear}, Dates.{PlaceOf, DateOf}}

module _ (number : ℕ) (short : number < days_of_years 9999) (years : Between days_of_years number) where
  in_year : InYear (suc years.step) number
  in_year = let past : 9999 ≤ years.step → ⊥ = λ h. omega (arith, rises days_of_years years_up 9999 years.step h, years.from) in
      record { range = record { from = omega arith; to = omega arith }; begun = rw sub-one years.from; lasts = years.to }

  abbrev leap : Bool
  leap = is_leap (suc years.step)

  pub short_year : number - days_of_years years.step < days_of_months leap 12
  short_year = place_short in_year (rw sub-one) refl

  module _ (months : Between (days_of_months leap) (number - days_of_years years.step)) where
    in_months : PlaceOf leap (number - days_of_years years.step) (suc months.step) (number - days_of_years years.step - days_of_months leap months.step + 1)
    in_months =
        let past : 12 ≤ months.step → ⊥ = λ h. omega (arith, rises (days_of_months leap) (months_up leap) 12 months.step h, months.from, short_year) in
        rw sub-one at (placed leap (number - days_of_years years.step) (suc months.step) (omega arith) (omega arith) (rw sub-one months.from) months.to)

    pub day_date : DateOf number (suc years.step) (suc months.step) (number - days_of_years years.step - days_of_months leap months.step + 1)
    day_date = placed_date in_year (rw sub-one) refl in_months
