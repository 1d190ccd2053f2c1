-- The count of the days in closed form. Assumes nothing.
use Rattle.numbers.{proofs.Prelude.{ℕ, zero, suc, ◌+◌, ◌-◌, ◌*◌, ◌/◌, ◌%◌, ◌≤◌, eqb-true, eqb-false, eqb, Bool, true, false, ◌≡◌, refl, sym, arith}, specs.Answer.{if◌then◌else◌}}
use Rattle.calendar.specs.Calendar.{is_leap, year_length, days_of_years, next_weekday, weekday_of}

-- the days of the years from 1 to this one, in closed form
abbrev pub closed : ℕ → ℕ
closed n = 365 * n + n / 4 - n / 100 + n / 400

-- a quotient grows by one where the division leaves nothing, and else stays
module _ (n : ℕ) where
  up4 : suc n % 4 ≡ 0 → suc n / 4 ≡ n / 4 + 1
  up4 h = omega arith

  up100 : suc n % 100 ≡ 0 → suc n / 100 ≡ n / 100 + 1
  up100 h = omega arith

  up400 : suc n % 400 ≡ 0 → suc n / 400 ≡ n / 400 + 1
  up400 h = omega arith

  same4 : (suc n % 4 ≡ 0 → ⊥) → suc n / 4 ≡ n / 4 + 0
  same4 h = omega arith

  same100 : (suc n % 100 ≡ 0 → ⊥) → suc n / 100 ≡ n / 100 + 0
  same100 h = omega arith

  same400 : (suc n % 400 ≡ 0 → ⊥) → suc n / 400 ≡ n / 400 + 0
  same400 h = omega arith

  by100 : suc n % 400 ≡ 0 → suc n % 100 ≡ 0
  by100 h = omega arith

  by4 : suc n % 100 ≡ 0 → suc n % 4 ≡ 0
  by4 h = omega arith

  pub fewer : n / 100 ≤ n / 4
  fewer = omega arith

-- the sum, where the quotients grow by i, j and k: a year more, and a leap day where i + k is one more than j
grown : (n a b c i j k : ℕ) (leap : Bool) {a' b' c' : ℕ} → b ≤ a → b' ≤ a' → a' ≡ a + i → b' ≡ b + j → c' ≡ c + k → i + k ≡ j + (if leap then 1 else 0) →
    365 * suc n + a' - b' + c' ≡ 365 * n + a - b + c + (if leap then 366 else 365)
grown n a b c i j k true h h' p q r e = omega arith
grown n a b c i j k false h h' p q r e = omega arith

-- one more year adds its length
closed_next : (n : ℕ) (a b c : Bool) → eqb (suc n % 100) 0 ≡ a → eqb (suc n % 400) 0 ≡ b → eqb (suc n % 4) 0 ≡ c → closed (suc n) ≡ closed n + (if (if a then b else c) then 366 else 365)
closed_next n true true c p q r = grown n _ _ _ 1 1 1 true (fewer n) (fewer (suc n)) (up4 n (by4 n (eqb-true _ _ p))) (up100 n (eqb-true _ _ p)) (up400 n (eqb-true _ _ q)) refl
closed_next n true false c p q r = grown n _ _ _ 1 1 0 false (fewer n) (fewer (suc n)) (up4 n (by4 n (eqb-true _ _ p))) (up100 n (eqb-true _ _ p)) (same400 n (eqb-false _ _ q)) refl
closed_next n false b true p q r = grown n _ _ _ 1 0 0 true (fewer n) (fewer (suc n)) (up4 n (eqb-true _ _ r)) (same100 n (eqb-false _ _ p)) (same400 n (λ h. eqb-false _ _ p (by100 n h))) refl
closed_next n false b false p q r = grown n _ _ _ 0 0 0 false (fewer n) (fewer (suc n)) (same4 n (eqb-false _ _ r)) (same100 n (eqb-false _ _ p)) (same400 n (λ h. eqb-false _ _ p (by100 n h))) refl

pub days_closed : (n : ℕ) → days_of_years n ≡ closed n
unfolding days_of_years year_length is_leap
days_closed zero = refl
days_closed (suc n) = rw (days_closed n) (sym (closed_next n _ _ _ refl refl refl))

-- the years by their mean, 146097 days in 400 years
closed_low : (n : ℕ) → 146097 * n ≤ 400 * closed n + 699
closed_low n = omega (arith, fewer n)

closed_high : (n : ℕ) → 400 * closed n ≤ 146097 * n + 400
closed_high n = omega (arith, fewer n)

pub mean_low : (n : ℕ) → 146097 * n ≤ 400 * days_of_years n + 699
mean_low n = rw days_closed (closed_low n)

pub mean_high : (n : ℕ) → 400 * days_of_years n ≤ 146097 * n + 400
mean_high n = rw days_closed (closed_high n)

-- the years end after 9999, where day 3652059 begins
pub days_in_all : days_of_years 9999 ≡ 3652059
days_in_all = days_closed 9999

-- day 719162 is 1 January 1970
pub epoch : days_of_years 1969 ≡ 719162
epoch = days_closed 1969

-- seven weekdays, one after the other
weekday_after : (n k : ℕ) (last : Bool) → k ≡ (n + 1) % 7 → eqb k 6 ≡ last → (if last then 0 else suc k) ≡ (suc n + 1) % 7
weekday_after n k true p q = omega (arith, eqb-true k 6 q)
weekday_after n k false p q = let h = eqb-false k 6 q in omega arith

pub weekday_closed : (n : ℕ) → weekday_of n ≡ (n + 1) % 7
unfolding weekday_of next_weekday
weekday_closed zero = refl
weekday_closed (suc n) = weekday_after n _ _ (weekday_closed n) refl

-- 1 January 1970 is a Thursday
pub epoch_weekday : weekday_of 719162 ≡ 4
epoch_weekday = weekday_closed 719162
