-- A printed line read back: digits count what they spell, and each part stops where the next begins. Assumes nothing.
use Rattle.numbers.proofs.Prelude.{ℕ, zero, suc, ◌+◌, ◌-◌, ◌*◌, ◌/◌, ◌%◌, ◌^◌, ◌≤◌, ◌<◌, ne_eqb, le-leb, le-ltb, ltb-true, eqb-true, ltb-false, eqb, ltb, leb, ℤ, pos, negsuc, length, take, drop}
use Rattle.numbers.proofs.Prelude.{length-append, drop-append_seam, mag, Bool, true, false, ◌&&◌, ◌||◌, cond, List, [], ◌∷◌, ◌++◌, append_assoc, append-nil, ◌≡◌, refl, sym, ap, subst, ◌∙◌, pow-suc}
use Rattle.numbers.{proofs.{Prelude.{arith}, Tests.{both, differ}}, specs.Answer.{Answer, found, failed, if◌then◌else◌, ◌>>=◌}}
use Rattle.calendar.specs.declared.civil.Reading.{Reading}
use Rattle.line.specs.{Clock.{weekday_text, date_text, time_text, hours_text, seconds_text, span_text, offset_text}, Put.{digit, decimal_of, decimal, two_digits}}
use Rattle.request.specs.{Clock.{signed_of}, Number.{digit_of, value_from, value_of, part_of}, Text.{is_digit, every, digits, formed, until, word}}
use Rattle.slip.specs.{Line.{clock_text}, ReadBack.{Printed, weekday_in, clock_form, is_minutes, span_in, offset_in, reading_in, read_back}}
use Rattle.zones.specs.Simple.{same}
use mathlib.Core.Bool.{or-true}

-- ---- digits
digit_is : (n : ℕ) → is_digit (digit n) ≡ true
digit_is n = rw (le-leb 48 (48 + n % 10) (omega arith), le-leb (48 + n % 10) 57 (omega arith)) refl

digit_counts : (n : ℕ) → digit_of (digit n) ≡ n % 10
digit_counts n = ap (λ (t : Bool). if t then digit n - 48 else 0) (digit_is n) ∙ omega arith

-- of two texts one behind the other
digits_append : (xs ys : List ℕ) → digits xs ≡ true → digits ys ≡ true → digits (xs ++ ys) ≡ true
digits_append [] ys h k = k
digits_append (x ∷ xs) ys h k = let b = both (is_digit x || false) (digits xs) h in
    ap (λ (t : Bool). t && digits (xs ++ ys)) b.0 ∙ digits_append xs ys b.1 k

value_append : (n : ℕ) (xs ys : List ℕ) → value_from n (xs ++ ys) ≡ value_from (value_from n xs) ys
unfolding value_from
value_append n [] ys = refl
value_append n (x ∷ xs) ys = value_append (10 * n + digit_of x) xs ys

-- one digit more
value_next : (xs : List ℕ) (n : ℕ) → value_of (xs ++ (digit n ∷ [])) ≡ 10 * value_of xs + n % 10
unfolding value_from
value_next xs n = value_append 0 xs (digit n ∷ []) ∙ ap (λ (d : ℕ). 10 * value_of xs + d) (digit_counts n)

two_are_digits : (n : ℕ) → digits (two_digits n) ≡ true
two_are_digits n = rw (digit_is (n / 10), digit_is n) refl

two_value : (n : ℕ) → n < 100 → value_of (two_digits n) ≡ n
unfolding value_from
two_value n h = ap (λ (d : ℕ). 10 * (10 * 0 + d) + digit_of (digit n)) (digit_counts (n / 10)) ∙ ap (λ (d : ℕ). 10 * (10 * 0 + n / 10 % 10) + d) (digit_counts n) ∙ omega (arith, h)

four_value : (n : ℕ) → n ≤ 9999 → value_of (two_digits (n / 100) ++ two_digits n) ≡ n
unfolding value_from
four_value n h =
    value_append 0 (two_digits (n / 100)) (two_digits n) ∙ ap (λ (m : ℕ). value_from m (two_digits n)) (two_value (n / 100) (omega (arith, h))) ∙ behind_two (n / 100) ∙ omega (arith, h) where
      behind_two : (m : ℕ) → value_from m (two_digits n) ≡ 10 * (10 * m + n / 10 % 10) + n % 10
      behind_two m = ap (λ (d : ℕ). 10 * (10 * m + d) + digit_of (digit n)) (digit_counts (n / 10)) ∙ ap (λ (d : ℕ). 10 * (10 * m + n / 10 % 10) + d) (digit_counts n)

-- ---- a number in decimal
decimal_digits : (k n : ℕ) → digits (decimal_of k n) ≡ true
unfolding decimal_of
decimal_digits zero n = rw (digit_is n) refl
decimal_digits (suc k) n = go (ltb n 10) (decimal_digits k (n / 10)) where
  one : digits (digit n ∷ []) ≡ true
  one = rw (digit_is n) refl

  go : (t : Bool) → digits (decimal_of k (n / 10)) ≡ true → digits (cond t (digit n ∷ []) (decimal_of k (n / 10) ++ (digit n ∷ []))) ≡ true
  go true h = one
  go false h = digits_append (decimal_of k (n / 10)) (digit n ∷ []) h one

decimal_value : (k n : ℕ) → n < 10 ^ suc k → value_of (decimal_of k n) ≡ n
unfolding decimal_of value_from
decimal_value zero n h = value_next [] n ∙ omega (arith, h, pow-suc 10 0)
decimal_value (suc k) n h = go (ltb n 10) refl (decimal_value k (n / 10)) where
  go : (t : Bool) → ltb n 10 ≡ t → (n / 10 < 10 ^ suc k → value_of (decimal_of k (n / 10)) ≡ n / 10) → value_of (cond t (digit n ∷ []) (decimal_of k (n / 10) ++ (digit n ∷ []))) ≡ n
  go true e r = value_next [] n ∙ omega (arith, ltb-true n 10 e)
  go false e r = value_next (decimal_of k (n / 10)) n ∙ ap (λ (m : ℕ). 10 * m + n % 10) (r (omega (arith, h, pow-suc 10 (suc k)))) ∙ omega arith

decimal_some : (k n : ℕ) → 1 ≤ length (decimal_of k n)
unfolding decimal_of
decimal_some zero n = omega arith
decimal_some (suc k) n = go (ltb n 10) where
  go : (t : Bool) → 1 ≤ length (cond t (digit n ∷ []) (decimal_of k (n / 10) ++ (digit n ∷ [])))
  go true = omega arith
  go false = omega (arith, length-append (decimal_of k (n / 10)) (digit n ∷ []))

decimal_two : (k n : ℕ) → 10 ≤ n → 2 ≤ length (decimal_of (suc k) n)
unfolding decimal_of
decimal_two k n h = rw (le-ltb n 10 h) (omega (arith, length-append (decimal_of k (n / 10)) (digit n ∷ []), decimal_some k (n / 10)))

-- ---- hours, of two digits or more
record Hours (hours : ℕ) : Type 0 where
  spelt : digits (hours_text hours) ≡ true
  two : 2 ≤ length (hours_text hours)
  count : value_of (hours_text hours) ≡ hours

hours_back : (hours : ℕ) → hours < 10 ^ 20 → Hours hours
unfolding hours_text decimal
hours_back hours h = go (ltb hours 100) refl where
  text : Bool → List ℕ
  text t = if t then two_digits hours else decimal hours

  go : (t : Bool) → ltb hours 100 ≡ t → Hours hours
  go true e = record {
    spelt = ap (λ (t : Bool). digits (text t)) e ∙ two_are_digits hours;
    two = subst (λ (t : Bool). 2 ≤ length (text t)) (sym e) (omega arith);
    count = ap (λ (t : Bool). value_of (text t)) e ∙ two_value hours (ltb-true hours 100 e);
  }
  go false e = record {
    spelt = ap (λ (t : Bool). digits (text t)) e ∙ decimal_digits 19 hours;
    two = subst (λ (t : Bool). 2 ≤ length (text t)) (sym e) (decimal_two 18 hours (omega (arith, ltb-false hours 100 e)));
    count = ap (λ (t : Bool). value_of (text t)) e ∙ decimal_value 19 hours h;
  }

-- ---- up to a byte that is no digit
until_digits : (a b : ℕ) (xs ys : List ℕ) → is_digit a ≡ false → is_digit b ≡ false → digits xs ≡ true → until a b (xs ++ ys) ≡ xs ++ until a b ys
unfolding until
until_digits a b [] ys na nb h = refl
until_digits a b (x ∷ xs) ys na nb h = let p = both (is_digit x || false) (digits xs) h in let digit-x : is_digit x ≡ true = plain (is_digit x) p.0 in
    let other : (c : ℕ) → is_digit c ≡ false → eqb x c ≡ false = λ c n. ne_eqb x c (λ e. differ (sym n ∙ ap is_digit (sym e) ∙ digit-x)) in
    ap (λ (t : Bool). if t || eqb x b then [] else (x ∷ until a b (xs ++ ys))) (other a na) ∙ ap (λ (t : Bool). if t then [] else (x ∷ until a b (xs ++ ys)))
    (other b nb) ∙ ap (λ (l : List ℕ). x ∷ l) (until_digits a b xs ys na nb p.1) where
      plain : (t : Bool) → (t || false) ≡ true → t ≡ true
      plain true e = refl
      plain false e = e

-- a digit has its form
formed_digit : (form : List ℕ) (n : ℕ) (more : List ℕ) → formed (48 ∷ form) (digit n ∷ more) ≡ formed form more
unfolding formed
formed_digit form n more = ap (λ (t : Bool). t && formed form more) (digit_is n)

formed_two : (form : List ℕ) (n : ℕ) (more : List ℕ) → formed (48 ∷ 48 ∷ form) (two_digits n ++ more) ≡ formed form more
formed_two form n more = formed_digit (48 ∷ form) (n / 10) (digit n ∷ more) ∙ formed_digit form n more

-- ---- hours, minutes and seconds
-- by the bytes before the first ":" and those from it on
abbrev span_by : List ℕ → List ℕ → Answer ℕ
span_by hours rest = if leb 2 (length hours) && digits hours && is_minutes rest then found (3600 * value_of hours + 60 * part_of 1 2 rest + part_of 4 2 rest) else failed

-- what stands behind the hours
abbrev rest_of : ℕ → ℕ → List ℕ
rest_of minutes seconds = 58 ∷ (two_digits minutes ++ seconds_text seconds)

record Rest (minutes seconds : ℕ) : Type 0 where
  formed_so : is_minutes (rest_of minutes seconds) ≡ true
  minutes_so : part_of 1 2 (rest_of minutes seconds) ≡ minutes
  seconds_so : part_of 4 2 (rest_of minutes seconds) ≡ seconds

rest_back : (minutes seconds : ℕ) → minutes < 100 → seconds < 100 → Rest minutes seconds
unfolding seconds_text is_minutes formed part_of value_from
rest_back minutes seconds h k = go (eqb seconds 0) refl where
  text : Bool → List ℕ
  text t = 58 ∷ (two_digits minutes ++ (if t then [] else (58 ∷ two_digits seconds)))

  none : is_minutes (text true) ≡ true
  none = ap (λ (t : Bool). t || formed (58 ∷ 48 ∷ 48 ∷ 58 ∷ 48 ∷ 48 ∷ []) (text true)) (formed_two [] minutes [])

  some : is_minutes (text false) ≡ true
  some =
      ap (λ (t : Bool). formed (58 ∷ 48 ∷ 48 ∷ []) (text false) || t) (formed_two (58 ∷ 48 ∷ 48 ∷ []) minutes (58 ∷ two_digits seconds) ∙ formed_two [] seconds [])
      ∙ or-true (formed (58 ∷ 48 ∷ 48 ∷ []) (text false))

  minutes_in : (t : Bool) → part_of 1 2 (text t) ≡ minutes
  minutes_in t = two_value minutes h

  no_seconds : part_of 4 2 (text true) ≡ 0
  no_seconds = refl

  seconds_in : part_of 4 2 (text false) ≡ seconds
  seconds_in = two_value seconds k

  go : (t : Bool) → eqb seconds 0 ≡ t → Rest minutes seconds
  go true e = record {
    formed_so = ap (λ (t : Bool). is_minutes (text t)) e ∙ none;
    minutes_so = minutes_in (eqb seconds 0);
    seconds_so = ap (λ (t : Bool). part_of 4 2 (text t)) e ∙ no_seconds ∙ sym (eqb-true seconds 0 e);
  }
  go false e = record {
    formed_so = ap (λ (t : Bool). is_minutes (text t)) e ∙ some;
    minutes_so = minutes_in (eqb seconds 0);
    seconds_so = ap (λ (t : Bool). part_of 4 2 (text t)) e ∙ seconds_in;
  }

span_back : (n : ℕ) → n < 10 ^ 20 → span_in (span_text n) ≡ found n
unfolding span_in span_text until
span_back n h = let hs = hours_back (n / 3600) (omega (arith, h)) in let r = rest_back (n / 60 % 60) (n % 60) (omega arith) (omega arith) in
    let H = hours_text (n / 3600) in let R = rest_of (n / 60 % 60) (n % 60) in
    ap (λ (hours : List ℕ). span_by hours (drop (length hours) (H ++ R))) (until_digits 58 58 H R refl refl hs.spelt ∙ append-nil H) ∙ ap (span_by H)
    (drop-append_seam H R) ∙ ap (λ (t : Bool). if t && digits H && is_minutes R then found (3600 * value_of H + 60 * part_of 1 2 R + part_of 4 2 R) else failed)
    (le-leb 2 (length H) hs.two) ∙ ap (λ (t : Bool). if t && is_minutes R then found (3600 * value_of H + 60 * part_of 1 2 R + part_of 4 2 R) else failed) hs.spelt
    ∙ ap (λ (t : Bool). if t then found (3600 * value_of H + 60 * part_of 1 2 R + part_of 4 2 R) else failed) r.formed_so ∙ ap found (omega (arith, hs.count, r.minutes_so, r.seconds_so))

-- ---- the offset
offset_back : (z : ℤ) → mag z < 2 ^ 31 → offset_in (offset_text z) ≡ found z
unfolding offset_in offset_text
offset_back (pos n) h = ap (λ (a : Answer ℕ). a >>= λ size. found (signed_of false size)) (span_back n (omega (arith, h)))
offset_back (negsuc n) h =
    ap (λ (a : Answer ℕ). a >>= λ size. found (signed_of true size)) (span_back (suc n) (omega (arith, h))) ∙ ap (λ (t : Bool). found (if t then pos 0 else negsuc (suc n - 1)))
    (ne_eqb (suc n) 0 (λ e. omega (arith, e))) ∙ ap (λ (m : ℕ). found (negsuc m)) (let e : suc n - 1 ≡ n = omega arith in e)

-- it is the word up to the next blank
seconds_word : (seconds : ℕ) (rest : List ℕ) → until 32 9 (seconds_text seconds ++ (32 ∷ rest)) ≡ seconds_text seconds
unfolding seconds_text until
seconds_word seconds rest = go (eqb seconds 0) where
  text : Bool → List ℕ
  text t = if t then [] else (58 ∷ two_digits seconds)

  go : (t : Bool) → until 32 9 (text t ++ (32 ∷ rest)) ≡ text t
  go true = refl
  go false = ap (λ (l : List ℕ). 58 ∷ l) (until_digits 32 9 (two_digits seconds) (32 ∷ rest) refl refl (two_are_digits seconds))

span_word : (n : ℕ) (rest : List ℕ) → n < 10 ^ 20 → until 32 9 (span_text n ++ (32 ∷ rest)) ≡ span_text n
unfolding span_text until
span_word n rest h = let H = hours_text (n / 3600) in let M = two_digits (n / 60 % 60) in let S = seconds_text (n % 60) in
    ap (until 32 9) (append_assoc H (58 ∷ (M ++ S)) (32 ∷ rest)) ∙ until_digits 32 9 H (58 ∷ (M ++ (S ++ (32 ∷ rest)))) refl refl (hours_back (n / 3600) (omega (arith, h))).spelt
    ∙ ap (λ (l : List ℕ). H ++ (58 ∷ l)) (until_digits 32 9 M (S ++ (32 ∷ rest)) refl refl (two_are_digits (n / 60 % 60)) ∙ ap (λ (l : List ℕ). M ++ l) (seconds_word (n % 60) rest))

offset_word : (z : ℤ) (rest : List ℕ) → mag z < 2 ^ 31 → word (offset_text z ++ (32 ∷ rest)) ≡ offset_text z
unfolding offset_text until
offset_word (pos n) rest h = ap (λ (l : List ℕ). 43 ∷ l) (span_word n rest (omega (arith, h)))
offset_word (negsuc n) rest h = ap (λ (l : List ℕ). 45 ∷ l) (span_word (suc n) rest (omega (arith, h)))

-- ---- the weekday
pub record Letters (weekday : ℕ) : Type 0 where
  pub a : ℕ
  pub b : ℕ
  pub c : ℕ
  pub are : weekday_text weekday ≡ a ∷ b ∷ c ∷ []
  pub back : weekday_in 7 (a ∷ b ∷ c ∷ []) ≡ found weekday

pub letters : (weekday : ℕ) → weekday < 7 → Letters weekday
unfolding weekday_text weekday_in same
letters zero h = record { a = 83; b = 117; c = 110; are = refl; back = refl }
letters (suc zero) h = record { a = 77; b = 111; c = 110; are = refl; back = refl }
letters (suc (suc zero)) h = record { a = 84; b = 117; c = 101; are = refl; back = refl }
letters (suc (suc (suc zero))) h = record { a = 87; b = 101; c = 100; are = refl; back = refl }
letters (suc (suc (suc (suc zero)))) h = record { a = 84; b = 104; c = 117; are = refl; back = refl }
letters (suc (suc (suc (suc (suc zero))))) h = record { a = 70; b = 114; c = 105; are = refl; back = refl }
letters (suc (suc (suc (suc (suc (suc zero)))))) h = record { a = 83; b = 97; c = 116; are = refl; back = refl }
letters (suc (suc (suc (suc (suc (suc (suc n))))))) h = absurd (omega arith)

-- ---- the line
-- numbers that have their digits' room
pub record Fitting (reading : Reading) : Type 0 where
  pub year : reading.year ≤ 9999
  pub month : reading.month < 100
  pub day : reading.day < 100
  pub hour : reading.hour < 100
  pub minute : reading.minute < 100
  pub second : reading.second < 100
  pub weekday : reading.weekday < 7

module _ (a b c : ℕ) (reading : Reading) (behind : List ℕ) where
  abbrev begins : List ℕ
  begins = a ∷ b ∷ c ∷ (32 ∷ (date_text reading ++ (32 ∷ (time_text reading ++ (32 ∷ behind)))))

  begins_formed : formed clock_form (take 21 (drop 3 begins)) ≡ true
  unfolding date_text time_text formed
  begins_formed =
      rw (
        digit_is (reading.year / 100 / 10),
        digit_is (reading.year / 100),
        digit_is (reading.year / 10),
        digit_is reading.year,
        digit_is (reading.month / 10),
        digit_is reading.month,
        digit_is (reading.day / 10),
        digit_is reading.day,
        digit_is (reading.hour / 10),
        digit_is reading.hour,
        digit_is (reading.minute / 10),
        digit_is reading.minute,
        digit_is (reading.second / 10),
        digit_is reading.second,
      )
      refl

  begins_behind : drop 24 begins ≡ behind
  unfolding date_text time_text
  begins_behind = refl

  begins_reading : Fitting reading → reading_in reading.weekday begins ≡ reading
  unfolding reading_in date_text time_text part_of
  begins_reading f = λ i. record {
    year = four_value reading.year f.year i;
    month = two_value reading.month f.month i;
    day = two_value reading.day f.day i;
    hour = two_value reading.hour f.hour i;
    minute = two_value reading.minute f.minute i;
    second = two_value reading.second f.second i;
    weekday = reading.weekday;
  }

-- a line that begins with what a clock shows, and a blank behind it, says that
pub reads_back : (reading : Reading) (offset : ℤ) (rest : List ℕ) → Fitting reading → mag offset < 2 ^ 31
    → read_back (clock_text reading offset ++ (32 ∷ rest)) ≡ found (record { reading = reading; offset = offset })
unfolding read_back clock_text date_text time_text
reads_back reading offset rest f h = let l = letters reading.weekday f.weekday in
    let line = begins l.a l.b l.c reading (offset_text offset ++ (32 ∷ rest)) in
    let says : ℕ → ℤ → Printed = λ w o. record { reading = reading_in w line; offset = o } in
    ap read_back (shape l.are) ∙ ap (λ (x : Answer ℕ). x >>= λ w. offset_in (word (drop 24 line)) >>= λ o. if formed clock_form (take 21 (drop 3 line)) then
    found (says w o) else failed) l.back ∙ ap (λ (x : Answer ℤ). x >>= λ o. if formed clock_form (take 21 (drop 3 line)) then found (says reading.weekday o) else failed)
    (ap (λ (t : List ℕ). offset_in (word t)) (begins_behind l.a l.b l.c reading (offset_text offset ++ (32 ∷ rest))) ∙ ap offset_in (offset_word offset rest h)
    ∙ offset_back offset h) ∙ ap (λ (t : Bool). if t then found (says reading.weekday offset) else failed) (begins_formed l.a l.b l.c reading
    (offset_text offset ++ (32 ∷ rest))) ∙ ap (λ (r : Reading). found (record { reading = r; offset = offset })) (begins_reading l.a l.b l.c reading (offset_text offset ++ (32 ∷ rest)) f)
  where
    shape : {a b c : ℕ} → weekday_text reading.weekday ≡ a ∷ b ∷ c ∷ [] → clock_text reading offset ++ (32 ∷ rest) ≡ begins a b c reading (offset_text offset ++ (32 ∷ rest))
    shape e = ap (λ (w : List ℕ). (w ++ (32 ∷ (date_text reading ++ (32 ∷ (time_text reading ++ (32 ∷ offset_text offset)))))) ++ (32 ∷ rest)) e
