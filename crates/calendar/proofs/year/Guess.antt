-- The guess of a day's year by the mean year. Assumes nothing.
use Rattle.numbers.proofs.Prelude.{ℕ, zero, suc, ◌+◌, ◌-◌, ◌*◌, ◌≤◌, ◌<◌, ◌≡◌, subst, arith}
use Rattle.calendar.proofs.Laws.{mean_low, mean_high}
use Rattle.calendar.specs.Calendar.{days_of_years, InYear}

some : (day n : ℕ) → day < days_of_years n → 1 ≤ n
unfolding days_of_years
some day zero h = absurd (omega arith)
some day (suc n) h = omega arith

module _ (day n : ℕ) (short : day < 3652059) (low : 146097 * n ≤ 400 * day) (high : 400 * day < 146097 * (n + 1)) where
  -- the guess is a year late
  pub late : day < days_of_years n → InYear n day
  late h = record { range = record { from = some day n h; to = omega arith }; begun = omega (arith, mean_high (n - 1), some day n h); lasts = h }

  -- it is right
  pub right : days_of_years n ≤ day → day < days_of_years (n + 1) → InYear (n + 1) day
  right h k = record { range = omega arith; begun = subst (λ (x : ℕ). days_of_years x ≤ day) (let e : n ≡ n + 1 - 1 = omega arith in e) h; lasts = k }

  -- it is a year early
  pub early : days_of_years (n + 1) ≤ day → InYear (n + 1 + 1) day
  early h = record {
    range = omega (arith, mean_low (n + 1));
    begun = subst (λ (x : ℕ). days_of_years x ≤ day) (let e : n + 1 ≡ n + 1 + 1 - 1 = omega arith in
        e) h;
    lasts = omega (arith, mean_low (n + 1 + 1));
  }
