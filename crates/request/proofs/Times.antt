-- Dates, times and instants, as the code works them out. Assumes nothing.
use Rattle.numbers.proofs.Prelude.{ℕ, suc, ◌+◌, ◌-◌, ◌*◌, ◌/◌, ◌^◌, ◌≤◌, ◌<◌, sfits_of, ne_eqb, lt-ltb, ltb-true, le-leb, le-ltb, leb-true, lt-leb, ltb, leb, ℤ, pos, negsuc, ◌-ℤ◌, length, mag, Bool, true, false}
use Rattle.numbers.proofs.Prelude.{◌&&◌, cond, List, ◌≡◌, refl, sym, ap, subst, ◌∙◌, w64, SFits, to_z, arith}
use Rattle.numbers.{proofs.Tests.{both}, specs.{Answer.{found, if◌then◌else◌}, Reply.{given, refused, refusal}, declared.refusal.Refusal.{Refusal}}}
use mir.ValLaws.{to_z_pos}
use Rattle.calendar.{proofs.{Dates.{number_short}, Laws.{epoch}, Months.{month_more, months_closed}}, specs.{Calendar.{is_leap, month_length, days_of_months, day_number, IsDate}, Moments.{seconds_to, instant_of}}}
use Rattle.calendar.specs.{Rules.{day_of}, declared.rule.When.TheVariants.{Zero}}
use Rattle.request.specs.Clock.{Date, Time, is_date, is_time, time_of, full_year, date_of, moment_form, moment_date, moment_time, moment_of, signed_of, seconds_of, when_of, second_of, instant_at}
use Rattle.request.specs.{Number.{spelled, value_of, part_of, has_form, unsigned, is_minus}, Request.{at}, Text.{digits, formed}, Told.{shown, timely, is_month, dated, signed_to}}
use Rattle.request.specs.Clock as C
use Rattle.numbers.specs.Answer as A

-- ---- times
pub in_time : (t : Time) → is_time t ≡ true → (t.hour ≤ 23) × (t.minute ≤ 59) × (t.second ≤ 59)
unfolding is_time
in_time t e = let s = both (leb t.hour 23 && leb t.minute 59) (leb t.second 59) e in let h = both (leb t.hour 23) (leb t.minute 59) s.0 in
    (leb-true _ _ h.0, leb-true _ _ h.1, leb-true _ _ s.1)

pub second_short : (t : Time) → is_time t ≡ true → second_of t < 86400
second_short t e = let h = in_time t e in omega arith

module _ (text : List ℕ) (place : ℕ) where
  abbrev time : Time
  time = record { hour = part_of 0 2 text; minute = part_of 2 2 text; second = part_of 4 2 text }

  pub time_formless : has_form 6 255 text ≡ false → refused (refusal 80 0 place) ≡ shown (at place (time_of text)) second_of
  unfolding time_of spelled
  time_formless e = simp e

  pub time_timely : has_form 6 255 text ≡ true → at place (timely time) ≡ shown (at place (time_of text)) second_of
  unfolding time_of spelled
  time_timely e = simp e (go (is_time time)) where
    go : (t : Bool) → at place (if t then found (second_of time) else A.refused 84) ≡ shown (at place (if t then found time else A.refused 84)) second_of
    go true = refl
    go false = refl

pub no_time : (t : Time) (place : ℕ) → is_time t ≡ false → refused (refusal 84 0 place) ≡ at place (timely t)
no_time t place e = simp e

pub time_given : (t : Time) (place : ℕ) → is_time t ≡ true → given (second_of t) ≡ at place (timely t)
time_given t place e = simp e

pub same_time : {h i m n s t : ℕ} → h ≡ i → m ≡ n → s ≡ t → ◌≡◌ {A = Time} (record { hour = h; minute = m; second = s }) (record { hour = i; minute = n; second = t })
same_time e f g = cc

pub same_date : {h i m n s t : ℕ} → h ≡ i → m ≡ n → s ≡ t → ◌≡◌ {A = Date} (record { year = h; month = m; day = s }) (record { year = i; month = n; day = t })
same_date e f g = cc

-- ---- dates
pub in_date : (d : Date) → is_date d ≡ true → IsDate d.year d.month d.day
unfolding is_date
in_date d e = let f = both _ (leb d.day (month_length (is_leap d.year) d.month)) e in let g = both _ (leb 1 d.day) f.0 in
    let h = both _ (leb d.month 12) g.0 in let i = both _ (leb 1 d.month) h.0 in
    let j = both (leb 1 d.year) (leb d.year 9999) i.0 in record {
      range = record { from = leb-true _ _ j.0; to = leb-true _ _ j.1 };
      months = record { month_from = leb-true _ _ i.1; month_to = leb-true _ _ h.1; day_from = leb-true _ _ g.1; day_to = leb-true _ _ f.1 };
    }

pub day_short : (d : Date) → is_date d ≡ true → C.day_of d < 3652059
day_short d e = number_short (in_date d e)

pub in_month : (d : Date) → is_month d ≡ true → (1 ≤ d.year) × (d.year ≤ 9999) × (1 ≤ d.month) × (d.month ≤ 12) × (1 ≤ d.day)
unfolding is_month
in_month d e = let g = both _ (leb 1 d.day) e in let h = both _ (leb d.month 12) g.0 in let i = both _ (leb 1 d.month) h.0 in
    let j = both (leb 1 d.year) (leb d.year 9999) i.0 in
    (leb-true _ _ j.0, leb-true _ _ j.1, leb-true _ _ i.1, leb-true _ _ h.1, leb-true _ _ g.1)

module _ (d : Date) (place : ℕ) where
  pub no_month : is_month d ≡ false → refused (refusal 84 0 place) ≡ at place (dated d)
  unfolding is_date is_month
  no_month e = simp e

  module _ (e : is_month d ≡ true) where
    pub date_over : month_length (is_leap d.year) d.month < d.day → refused (refusal 84 0 place) ≡ at place (dated d)
    unfolding is_date is_month
    date_over h = simp (e, lt-leb d.day (month_length (is_leap d.year) d.month) h)

    pub date_is : d.day ≤ month_length (is_leap d.year) d.month → is_date d ≡ true
    unfolding is_date is_month
    date_is h = simp (e, le-leb d.day (month_length (is_leap d.year) d.month) h)

pub months_few : (leap : Bool) (month : ℕ) → month ≤ 12 → days_of_months leap month ≤ 366
months_few leap month h = let few = go (ltb month 2) refl leap in omega (arith, months_closed leap month h, few) where
  go : (t : Bool) → ltb month 2 ≡ t → (leap : Bool) → (367 * month + 5) / 12 - (if t then 0 else if leap then 1 else 2) ≤ 366
  go true e leap = omega (arith, ltb-true month 2 e, h)
  go false e true = omega (arith, h)
  go false e false = omega (arith, h)

-- the month's length as the code has it, and the day's number
module _ (year month : ℕ) {leap : Bool} {before upto : ℕ} (l : leap ≡ is_leap year) (b : before ≡ days_of_months leap (month - 1)) (u : upto ≡ days_of_months leap month) (from : 1 ≤ month) where
  pub length_is : upto ≡ before + month_length (is_leap year) month
  length_is = u ∙ month_more leap month from ∙ ap (λ (x : ℕ). x + month_length leap month) (sym b) ∙ ap (λ (t : Bool). before + month_length t month) l

  pub day_is : (day : ℕ) {value : ℕ} → value ≡ day_of (Zero (before + (day - 1))) (year - 1) → value ≡ day_number year month day
  unfolding day_of day_number
  day_is day e = let c : before ≡ days_of_months (is_leap year) (month - 1) = b ∙ ap (λ (t : Bool). days_of_months t (month - 1)) l in omega (arith, e)

pub date_given : (d : Date) (place : ℕ) → is_date d ≡ true → {value : ℕ} → value ≡ C.day_of d → given value ≡ at place (dated d)
date_given d place e f = ap given f ∙ simp e

-- 80 to 99 are of the last century
pub year_new : (year : ℕ) → year < 80 → 2000 + year ≡ full_year year
unfolding full_year
year_new year h = simp (lt-ltb year 80 h)

pub year_old : (year : ℕ) → 80 ≤ year → 1900 + year ≡ full_year year
unfolding full_year
year_old year h = simp (le-ltb year 80 h)

module _ (text : List ℕ) (place : ℕ) where
  pub date_formless : has_form 6 0 text ≡ false → refused (refusal 80 0 place) ≡ shown (at place (date_of text)) C.day_of
  unfolding date_of spelled
  date_formless e = simp e

  pub date_dated : has_form 6 0 text ≡ true → {y : ℕ} → y ≡ full_year (part_of 4 2 text)
      → at place (dated (record { year = y; month = part_of 2 2 text; day = part_of 0 2 text })) ≡ shown (at place (date_of text)) C.day_of
  unfolding date_of spelled
  date_dated e f = simp (e, f) (go (is_date date)) where
    date : Date
    date = record { year = full_year (part_of 4 2 text); month = part_of 2 2 text; day = part_of 0 2 text }

    go : (t : Bool) → at place (if t then found (C.day_of date) else A.refused 84) ≡ shown (at place (if t then found date else A.refused 84)) C.day_of
    go true = refl
    go false = refl

-- ---- instants
-- as the machine works it out
module _ (day second : ℕ) (d : day < 3652059) (s : second < 86400) where
  sum_is : to_z w64 (86400 * day + second) ≡ pos (86400 * day + second)
  sum_is = to_z_pos w64 (86400 * day + second) (omega arith)

  instant_plain : pos (86400 * day + second) -ℤ pos 62135596800 ≡ instant_of day second
  unfolding instant_of seconds_to
  instant_plain = rw epoch

  difference_fits : (n : ℕ) → n < 2 ^ 62 → SFits w64 (pos n -ℤ pos 62135596800)
  difference_fits n h = sfits_of (go (ltb n 62135596800)) where
    go : (t : Bool) → mag (cond t (negsuc (62135596800 - suc n)) (pos (n - 62135596800))) < 2 ^ 63
    go true = omega arith
    go false = omega arith

  pub instant_fits : SFits w64 (to_z w64 (86400 * day + second) -ℤ pos 62135596800)
  instant_fits = subst (λ (z : ℤ). SFits w64 (z -ℤ pos 62135596800)) (sym sum_is) (difference_fits (86400 * day + second) (omega arith))

  pub instant_is : to_z w64 (86400 * day + second) -ℤ pos 62135596800 ≡ instant_of day second
  instant_is = ap (λ (z : ℤ). z -ℤ pos 62135596800) sum_is ∙ instant_plain

-- a word that is a date and a time
module _ (text : List ℕ) (place : ℕ) (form : formed moment_form text ≡ true) where
  pub moment_day : is_date (moment_date text) ≡ false → refused (refusal 84 0 place) ≡ shown (at place (moment_of text)) instant_at
  unfolding moment_of spelled
  moment_day e = simp (form, e)

  module _ (d : is_date (moment_date text) ≡ true) where
    pub no_moment_time : is_time (moment_time text) ≡ false → refused (refusal 84 0 place) ≡ shown (at place (moment_of text)) instant_at
    unfolding moment_of spelled
    no_moment_time e = simp (form, d, e)

    pub moment_is : is_time (moment_time text) ≡ true → {z : ℤ} → z ≡ instant_of (C.day_of (moment_date text)) (second_of (moment_time text)) → given z ≡ shown (at place (moment_of text)) instant_at
    unfolding moment_of instant_at spelled
    moment_is e f = ap given f ∙ simp (form, d, e)

-- what a time or a date that was looked at says of its range
pub timely_given : (t : Time) (place : ℕ) {value : ℕ} → given value ≡ at place (timely t) → (is_time t ≡ true) × (value ≡ second_of t)
timely_given t place e = go (is_time t) refl e where
  go : (b : Bool) {value : ℕ} → is_time t ≡ b → given value ≡ at place (if b then found (second_of t) else A.refused 84) → (is_time t ≡ true) × (value ≡ second_of t)
  go true f e = (f, cc)
  go false f e = absurd (let z : ◌≡◌ {A = ℕ} 0 1 = cc in omega arith)

pub dated_given : (d : Date) (place : ℕ) {value : ℕ} → given value ≡ at place (dated d) → (is_date d ≡ true) × (value ≡ C.day_of d)
dated_given d place e = go (is_date d) refl e where
  go : (b : Bool) {value : ℕ} → is_date d ≡ b → given value ≡ at place (if b then found (C.day_of d) else A.refused 84) → (is_date d ≡ true) × (value ≡ C.day_of d)
  go true f e = (f, cc)
  go false f e = absurd (let z : ◌≡◌ {A = ℕ} 0 1 = cc in omega arith)

pub timely_refused : (t : Time) (place : ℕ) {why : Refusal} → refused why ≡ at place (timely t) → (is_time t ≡ false) × (why ≡ refusal 84 0 place)
timely_refused t place e = go (is_time t) refl e where
  go : (b : Bool) {why : Refusal} → is_time t ≡ b → refused why ≡ at place (if b then found (second_of t) else A.refused 84) → (is_time t ≡ false) × (why ≡ refusal 84 0 place)
  go true f e = absurd (let z : ◌≡◌ {A = ℕ} 0 1 = cc in omega arith)
  go false f e = (f, cc)

pub dated_refused : (d : Date) (place : ℕ) {why : Refusal} → refused why ≡ at place (dated d) → (is_date d ≡ false) × (why ≡ refusal 84 0 place)
dated_refused d place e = go (is_date d) refl e where
  go : (b : Bool) {why : Refusal} → is_date d ≡ b → refused why ≡ at place (if b then found (C.day_of d) else A.refused 84) → (is_date d ≡ false) × (why ≡ refusal 84 0 place)
  go true f e = absurd (let z : ◌≡◌ {A = ℕ} 0 1 = cc in omega arith)
  go false f e = (f, cc)

-- ---- seconds from 1970
module _ (minus : Bool) (size place : ℕ) where
  module _ (m : minus ≡ true) where
    pub minus_none : size ≡ 0 → given (pos 0) ≡ at place (signed_to minus size)
    minus_none e = rw (m, e) refl

    pub minus_over : 2 ^ 63 < size → refused (refusal 84 0 place) ≡ at place (signed_to minus size)
    minus_over h = simp (m, lt-leb size (2 ^ 63) h)

    pub minus_is : (size ≡ 0 → ⊥) → size ≤ 2 ^ 63 → {z : ℤ} → z ≡ negsuc (size - 1) → given z ≡ at place (signed_to minus size)
    minus_is n h e = ap given e ∙ simp (m, le-leb size (2 ^ 63) h, ne_eqb size 0 n)

  module _ (m : minus ≡ false) where
    pub plus_over : 2 ^ 63 - 1 < size → refused (refusal 84 0 place) ≡ at place (signed_to minus size)
    plus_over h = simp (m, lt-leb size (2 ^ 63 - 1) h)

    pub plus_is : size ≤ 2 ^ 63 - 1 → {z : ℤ} → z ≡ pos size → given z ≡ at place (signed_to minus size)
    plus_is h e = ap given e ∙ simp (m, le-leb size (2 ^ 63 - 1) h)

module _ (text : List ℕ) (place : ℕ) where
  pub seconds_none : length (unsigned text) < 1 → refused (refusal 80 0 place) ≡ shown (at place (seconds_of text)) instant_at
  unfolding seconds_of spelled
  seconds_none h = simp (lt-leb 1 (length (unsigned text)) h)

  module _ (l : 1 ≤ length (unsigned text)) where
    pub seconds_long : 19 < length (unsigned text) → refused (refusal 80 0 place) ≡ shown (at place (seconds_of text)) instant_at
    unfolding seconds_of spelled
    seconds_long h = simp (le-leb 1 (length (unsigned text)) l, lt-leb (length (unsigned text)) 19 h)

    module _ (h : length (unsigned text) ≤ 19) where
      pub seconds_formless : digits (unsigned text) ≡ false → refused (refusal 80 0 place) ≡ shown (at place (seconds_of text)) instant_at
      unfolding seconds_of spelled
      seconds_formless e = simp (le-leb 1 (length (unsigned text)) l, le-leb (length (unsigned text)) 19 h, e)

      pub seconds_signed : digits (unsigned text) ≡ true → at place (signed_to (is_minus text) (value_of (unsigned text))) ≡ shown (at place (seconds_of text)) instant_at
      unfolding seconds_of instant_at spelled
      seconds_signed e = simp (le-leb 1 (length (unsigned text)) l, le-leb (length (unsigned text)) 19 h, e) (go (leb (value_of (unsigned text)) (if is_minus text then 2 ^ 63 else 2 ^ 63 - 1))) where
        go : (t : Bool) → at place (if t then found (signed_of (is_minus text) (value_of (unsigned text))) else A.refused 84) ≡ shown (at place (if t then found (C.since (signed_of (is_minus text)
            (value_of (unsigned text)))) else A.refused 84)) instant_at
        go true = refl
        go false = refl

-- the two forms of an instant
module _ (text : List ℕ) where
  pub when_moment : formed moment_form text ≡ true → moment_of text ≡ when_of text
  unfolding when_of
  when_moment e = simp e

  pub when_seconds : formed moment_form text ≡ false → seconds_of text ≡ when_of text
  unfolding when_of
  when_seconds e = simp e
