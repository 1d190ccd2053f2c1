-- The count from the year 1 and the count from 1970 are one: 719162 days apart, and 146097 more for each 400 years. Assumes nothing.
use Rattle.numbers.proofs.Prelude.{ℕ, zero, suc, ◌+◌, ◌-◌, ◌*◌, ◌/◌, ◌%◌, ◌≤◌, ◌<◌, eq-eqb, ne_eqb, eqb, ◌≡◌, refl, sym, ap, ◌∙◌, arith}
use Rattle.calendar.proofs.Laws.{closed, days_closed, fewer, epoch, weekday_closed}
use Rattle.calendar.specs.{Calendar.{is_leap, year_length, days_of_years, weekday_of}, Epoch.{forwards, unsigned, backwards}}

-- 400 years are 146097 days
round_sum : (n a b c : ℕ) → b ≤ a → 365 * (n + 400) + (a + 100) - (b + 4) + (c + 1) ≡ 365 * n + a - b + c + 146097
round_sum n a b c h = omega arith

round_4 : (n : ℕ) → (n + 400) / 4 ≡ n / 4 + 100
round_4 n = omega arith

round_100 : (n : ℕ) → (n + 400) / 100 ≡ n / 100 + 4
round_100 n = omega arith

round_400 : (n : ℕ) → (n + 400) / 400 ≡ n / 400 + 1
round_400 n = omega arith

round_days : (n : ℕ) → days_of_years (n + 400) ≡ days_of_years n + 146097
round_days n = rw (days_closed (n + 400), days_closed n, round_4, round_100, round_400) (round_sum n (n / 4) (n / 100) (n / 400) (fewer n))

-- the calendar comes round in 400 years
pub rounds : (n c : ℕ) → days_of_years (n + 400 * c) ≡ days_of_years n + 146097 * c
rounds n zero = omega (arith, ap days_of_years (let e : n + 400 * 0 ≡ n = omega arith in e))
rounds n (suc c) = omega (arith, ap days_of_years (let e : n + 400 * suc c ≡ n + 400 * c + 400 = omega arith in e), round_days (n + 400 * c), rounds n c)

-- a year more, by whatever names for it and for the year before
one_more : (n year before : ℕ) → year ≡ suc n → before ≡ n → days_of_years year ≡ days_of_years before + year_length year
unfolding days_of_years
one_more n year before e f = rw (e, f)

forwards_days : (k : ℕ) → days_of_years (1969 + k) ≡ 719162 + forwards k
unfolding forwards
forwards_days zero = epoch
forwards_days (suc k) =
    omega (arith, one_more (1969 + k) (1969 + suc k) (1969 + k) (omega arith) refl, forwards_days k, ap year_length (let same : 1969 + suc k ≡ 1970 + k = omega arith in same))

-- both numbers are zero or neither
both_zero : (a b : ℕ) → (a ≡ 0 → b ≡ 0) → (b ≡ 0 → a ≡ 0) → eqb a 0 ≡ eqb b 0
both_zero zero b f g = sym (eq-eqb b 0 (f refl))
both_zero (suc a) b f g = ne_eqb (suc a) 0 (λ e. omega arith) ∙ sym (ne_eqb b 0 (λ e. let z = g e in omega arith))

-- a year before the year 0 is a leap year as one whole rounds of 400 years later is
module _ (c k : ℕ) (few : k < 1969 + 400 * c) where
  same_4 : eqb (unsigned 1969 k % 4) 0 ≡ eqb ((1969 + 400 * c - k) % 4) 0
  unfolding unsigned
  same_4 = both_zero (unsigned 1969 k % 4) ((1969 + 400 * c - k) % 4) (λ h. omega arith) (λ h. omega arith)

  same_100 : eqb (unsigned 1969 k % 100) 0 ≡ eqb ((1969 + 400 * c - k) % 100) 0
  unfolding unsigned
  same_100 = both_zero (unsigned 1969 k % 100) ((1969 + 400 * c - k) % 100) (λ h. omega arith) (λ h. omega arith)

  same_400 : eqb (unsigned 1969 k % 400) 0 ≡ eqb ((1969 + 400 * c - k) % 400) 0
  unfolding unsigned
  same_400 = both_zero (unsigned 1969 k % 400) ((1969 + 400 * c - k) % 400) (λ h. omega arith) (λ h. omega arith)

  same_length : year_length (unsigned 1969 k) ≡ year_length (1969 + 400 * c - k)
  unfolding year_length is_leap
  same_length = simp (same_4, same_100, same_400)

backwards_days : (c k : ℕ) → k ≤ 1969 + 400 * c → days_of_years (1969 + 400 * c - k) + backwards k ≡ 719162 + 146097 * c
unfolding backwards
backwards_days c zero h = omega (arith, ap days_of_years (let e : 1969 + 400 * c - 0 ≡ 1969 + 400 * c = omega arith in e), rounds 1969 c, epoch)
backwards_days c (suc k) h =
    omega (arith, one_more (1969 + 400 * c - suc k) (1969 + 400 * c - k) (1969 + 400 * c - suc k) (omega arith) refl, same_length c k h, backwards_days c k (omega arith))

-- counted from 1970, forwards and backwards, 1 January of every year has its day number; years before the year 1 are told by one whole
-- rounds of 400 years later
pub days_from_1970 : (c k : ℕ) → (days_of_years (1969 + k + 400 * c) ≡ 719162 + forwards k + 146097 * c) × (k ≤ 1969 + 400 * c → days_of_years (1969 + 400 * c - k) + backwards k ≡ 719162 + 146097 * c)
days_from_1970 c k = (omega (arith, rounds (1969 + k) c, forwards_days k), backwards_days c k)

-- so the closed form is the count: from the year -799, c = 2 and k = 2769, to any later one
pub closed_from_1970 : (c k : ℕ) → (719162 + forwards k + 146097 * c ≡ closed (1969 + k + 400 * c)) × (k ≤ 1969 + 400 * c → closed (1969 + 400 * c - k) + backwards k ≡ 719162 + 146097 * c)
closed_from_1970 c k = (sym (days_from_1970 c k).0 ∙ days_closed _, λ h. rw days_closed at ((days_from_1970 c k).1 h))

-- weekdays come round too, and leap years
pub round_weekday : (day : ℕ) → weekday_of (day + 146097) ≡ weekday_of day
round_weekday day = omega (arith, weekday_closed day, weekday_closed (day + 146097))

pub round_leap : (year : ℕ) → is_leap (year + 400) ≡ is_leap year
unfolding is_leap
round_leap year = rw (let a : (year + 400) % 100 ≡ year % 100 = omega arith in a, let b : (year + 400) % 400 ≡ year % 400 = omega arith in b, let d : (year + 400) % 4 ≡ year % 4 = omega arith in d)
