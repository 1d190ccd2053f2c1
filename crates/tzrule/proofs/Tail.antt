-- A TZ string is read from its place on: two texts of one length that are the same from there are read alike, and its names stand there. Assumes nothing.
use Rattle.numbers.{proofs.Prelude.{ℕ, zero, suc, ◌+◌, ◌-◌, ◌*◌, ◌≤◌, eqb, ltb, length, get_or, Bool, true, false, List, ◌≡◌, refl, subst, arith}, specs.Answer.{if◌then◌else◌}}
use Rattle.tzrule.specs.{Answer.{Answer, read, fault, onward}, Grammar.{ranged, number_of, sixty, seconds_of, minutes_of, clock_of, later_of, earlier_of, signed_of, dotted_of, days, months, weeks}}
use Rattle.tzrule.specs.{Grammar.{weekdays, julian_of, zero_of, weekday_from, week_from, month_from, date_of}, Names.{in_name, name_end, end_of, bare_of, quoted_of, name_of}, String.{day_hours, week_hours}}
use Rattle.tzrule.specs.{String.{hours_of, time_of, change_of, summer_of, changing_of, string_of}, Text.{byte_at, is_digit, digits_of}, declared.{name.Span.{Span}, number.Digits.{Digits}}}
use Rattle.tzrule.specs.declared.{number.Shape.{Shape}, rule.{Clock.{Clock}, Tz.{Tz, TheVariants.{Fixed, Changing}}}}
use Rattle.tzrule.specs.String as string

-- both fault at one place, or both read one thing, of which a fact holds, up to one place, which is not before the first
pub data Alike (from : ℕ) {A : Type 0} (fact : A → Type 0) : Answer A → Answer A → Type 0 where
  faults : {place : ℕ} → Alike from fact (fault place) (fault place)
  reads : {a : A} {next : ℕ} → from ≤ next → fact a → Alike from fact (read a next) (read a next)

-- ---- what is known of what was read
abbrev Any : {A : Type 0} → A → Type 0
Any a = Unit {0}

-- its names stand from a place on
pub record ClockFrom (from : ℕ) (clock : Clock) : Type 0 where
  pub start : from ≤ clock.name.start

unfoldable pub TzFrom : ℕ → Tz → Type 0
TzFrom from (Fixed clock) = ClockFrom from clock
TzFrom from (Changing rule) = ClockFrom from rule.standard × ClockFrom from rule.daylight

module _ (text other : List ℕ) (from : ℕ) (size : length text ≡ length other) (same : (p : ℕ) → from ≤ p → get_or text p 0 ≡ get_or other p 0) where
  byte : (at : ℕ) → from ≤ at → byte_at text at ≡ byte_at other at
  unfolding byte_at
  byte at h = same at h

  -- ---- one thing after another
  and_on : {A B : Type 0} {fact : A → Type 0} {fact' : B → Type 0} {a b : Answer A} {k l : A → ℕ → Answer B} → Alike from fact a b →
      ((x : A) (next : ℕ) → from ≤ next → fact x → Alike from fact' (k x next) (l x next)) → Alike from fact' (onward a k) (onward b l)
  unfolding onward
  and_on faults go = faults
  and_on (reads h f) go = go _ _ h f

  if_byte : {A : Type 0} {fact : A → Type 0} (at stop : ℕ) {a b c d : Answer A} → from ≤ at → Alike from fact a b → Alike from fact c d →
      Alike from fact (if eqb (byte_at text at) stop then a else c) (if eqb (byte_at other at) stop then b else d)
  if_byte {fact = fact} at stop {a} {b} {c} {d} h there away =
      subst (λ (n : ℕ). Alike from fact (if eqb (byte_at text at) stop then a else c) (if eqb n stop then b else d)) (byte at h) (go (eqb (byte_at text at) stop)) where
        go : (t : Bool) → Alike from fact (if t then a else c) (if t then b else d)
        go true = there
        go false = away

  -- ---- numbers and times
  record DigitsFrom (digits digits' : Digits) : Type 0 where
    is : digits ≡ digits'
    next : from ≤ digits.next

  digits : (most at value : ℕ) → from ≤ at → DigitsFrom (digits_of most text at value) (digits_of most other at value)
  unfolding digits_of
  digits zero at value h = record { is = refl; next = h }
  digits (suc more) at value h = rw (← byte at h) (go (is_digit (byte_at text at)) (digits more (at + 1) (10 * value + (byte_at text at - 48)) (omega arith))) where
    go : (t : Bool) → DigitsFrom (digits_of more text (at + 1) (10 * value + (byte_at text at - 48))) (digits_of more other (at + 1) (10 * value + (byte_at text at - 48)))
        → DigitsFrom (if t then digits_of more text (at + 1) (10 * value + (byte_at text at - 48)) else record { value = value; next = at })
        (if t then digits_of more other (at + 1) (10 * value + (byte_at text at - 48)) else record { value = value; next = at })
    go true d = d
    go false d = record { is = refl; next = h }

  in_range : (shape : Shape) (at : ℕ) (d : Digits) → from ≤ d.next → Alike from Any (ranged shape at d) (ranged shape at d)
  unfolding ranged
  in_range shape at d h = go (ltb d.next (at + shape.least)) (ltb d.value shape.low) (ltb shape.high d.value) where
    go : (s t u : Bool) → Alike from Any (if s then fault d.next else if t then fault at else if u then fault at else read d.value d.next)
        (if s then fault d.next else if t then fault at else if u then fault at else read d.value d.next)
    go true t u = faults
    go false true u = faults
    go false false true = faults
    go false false false = reads h tt

  number : (shape : Shape) (at : ℕ) → from ≤ at → Alike from Any (number_of shape text at) (number_of shape other at)
  unfolding number_of
  number shape at h = let d = digits shape.most at 0 h in rw (← d.is) (in_range shape at (digits_of shape.most text at 0) d.next)

  seconds : (sum at : ℕ) → from ≤ at → Alike from Any (seconds_of text sum at) (seconds_of other sum at)
  unfolding seconds_of
  seconds sum at h = if_byte at 58 h (and_on (number sixty (at + 1) (omega arith)) (λ n next g f. reads g tt)) (reads h tt)

  minutes : (sum at : ℕ) → from ≤ at → Alike from Any (minutes_of text sum at) (minutes_of other sum at)
  unfolding minutes_of
  minutes sum at h = if_byte at 58 h (and_on (number sixty (at + 1) (omega arith)) (λ n next g f. seconds (sum + 60 * n) next g)) (reads h tt)

  clock : (hours : Shape) (at : ℕ) → from ≤ at → Alike from Any (clock_of hours text at) (clock_of hours other at)
  unfolding clock_of
  clock hours at h = and_on (number hours at h) (λ n next g f. minutes (3600 * n) next g)

  later : (hours : Shape) (at : ℕ) → from ≤ at → Alike from Any (later_of hours text at) (later_of hours other at)
  unfolding later_of
  later hours at h = and_on (clock hours at h) (λ n next g f. reads g tt)

  earlier : (hours : Shape) (at : ℕ) → from ≤ at → Alike from Any (earlier_of hours text at) (earlier_of hours other at)
  unfolding earlier_of
  earlier hours at h = and_on (clock hours at h) (λ n next g f. reads g tt)

  signed : (hours : Shape) (at : ℕ) → from ≤ at → Alike from Any (signed_of hours text at) (signed_of hours other at)
  unfolding signed_of
  signed hours at h = if_byte at 45 h (earlier hours (at + 1) (omega arith)) (if_byte at 43 h (later hours (at + 1) (omega arith)) (later hours at h))

  -- ---- dates
  dotted : (shape : Shape) (at : ℕ) → from ≤ at → Alike from Any (dotted_of shape text at) (dotted_of shape other at)
  unfolding dotted_of
  dotted shape at h = if_byte at 46 h (number shape (at + 1) (omega arith)) faults

  julian : (at : ℕ) → from ≤ at → Alike from Any (julian_of text at) (julian_of other at)
  unfolding julian_of
  julian at h = and_on (number (days 1) at h) (λ n next g f. reads g tt)

  zero_day : (at : ℕ) → from ≤ at → Alike from Any (zero_of text at) (zero_of other at)
  unfolding zero_of
  zero_day at h = and_on (number (days 0) at h) (λ n next g f. reads g tt)

  weekday : (month week at : ℕ) → from ≤ at → Alike from Any (weekday_from month week text at) (weekday_from month week other at)
  unfolding weekday_from
  weekday month week at h = and_on (dotted weekdays at h) (λ n next g f. reads g tt)

  in_week : (month at : ℕ) → from ≤ at → Alike from Any (week_from month text at) (week_from month other at)
  unfolding week_from
  in_week month at h = and_on (dotted weeks at h) (λ n next g f. weekday month n next g)

  in_month : (at : ℕ) → from ≤ at → Alike from Any (month_from text at) (month_from other at)
  unfolding month_from
  in_month at h = and_on (number months at h) (λ n next g f. in_week n next g)

  date : (at : ℕ) → from ≤ at → Alike from Any (date_of text at) (date_of other at)
  unfolding date_of
  date at h = if_byte at 74 h (julian (at + 1) (omega arith)) (if_byte at 77 h (in_month (at + 1) (omega arith)) (zero_day at h))

  hours : (wide : Bool) (at : ℕ) → from ≤ at → Alike from Any (hours_of wide text at) (hours_of wide other at)
  unfolding hours_of
  hours true at h = signed week_hours at h
  hours false at h = later day_hours at h

  time : (wide : Bool) (at : ℕ) → from ≤ at → Alike from Any (time_of wide text at) (time_of wide other at)
  unfolding time_of
  time wide at h = if_byte at 47 h (hours wide (at + 1) (omega arith)) (reads h tt)

  change : (wide : Bool) (at : ℕ) → from ≤ at → Alike from Any (change_of wide text at) (change_of wide other at)
  unfolding change_of
  change wide at h = if_byte at 44 h (and_on (date (at + 1) (omega arith)) (λ w next g f. and_on (time wide next g) (λ t last k e. reads k tt))) faults

  -- ---- names
  record EndFrom (end end' low : ℕ) : Type 0 where
    is : end ≡ end'
    next : low ≤ end

  same_name_end : (most : ℕ) (quoted : Bool) (at : ℕ) → from ≤ at → EndFrom (name_end most quoted text at) (name_end most quoted other at) at
  unfolding name_end
  same_name_end zero quoted at h = record { is = refl; next = omega arith }
  same_name_end (suc more) quoted at h = rw (← byte at h) (go (in_name quoted (byte_at text at)) (same_name_end more quoted (at + 1) (omega arith))) where
    go : (t : Bool) → EndFrom (name_end more quoted text (at + 1)) (name_end more quoted other (at + 1)) (at + 1) →
        EndFrom (if t then name_end more quoted text (at + 1) else at) (if t then name_end more quoted other (at + 1) else at) at
    go true e = record { is = e.is; next = omega (arith, e.next) }
    go false e = record { is = refl; next = omega arith }

  end : (quoted : Bool) (at : ℕ) → from ≤ at → EndFrom (end_of quoted text at) (end_of quoted other at) at
  unfolding end_of
  end quoted at h = rw (← size) (same_name_end (length text - at) quoted at h)

  SpanFrom : Span → Type 0
  SpanFrom span = from ≤ span.start

  bare : (at : ℕ) → from ≤ at → Alike from SpanFrom (bare_of text at) (bare_of other at)
  unfolding bare_of SpanFrom
  bare at h = let e = end false at h in rw (← e.is) (go (ltb (end_of false text at) (at + 3)) (omega (arith, e.next))) where
    go : (t : Bool) → from ≤ end_of false text at → Alike from SpanFrom (if t then fault (end_of false text at) else read (record { start = at; end = end_of false text at })
        (end_of false text at)) (if t then fault (end_of false text at) else read (record { start = at; end = end_of false text at }) (end_of false text at))
    go true g = faults
    go false g = reads g h

  quoted_name : (at : ℕ) → from ≤ at → Alike from SpanFrom (quoted_of text at) (quoted_of other at)
  unfolding quoted_of SpanFrom
  quoted_name at h = let e = end true at h in rw (← e.is) (go (ltb (end_of true text at) (at + 3)) (omega (arith, e.next))) where
    go : (t : Bool) → from ≤ end_of true text at → Alike from SpanFrom (if t then fault (end_of true text at) else if eqb (byte_at text (end_of true text at)) 62
        then read (record { start = at; end = end_of true text at }) (end_of true text at + 1) else fault (end_of true text at))
        (if t then fault (end_of true text at) else if eqb (byte_at other (end_of true text at)) 62 then read (record { start = at; end = end_of true text at })
        (end_of true text at + 1) else fault (end_of true text at))
    go true g = faults
    go false g = if_byte (end_of true text at) 62 g (reads (omega (arith, g)) h) faults

  name : (at : ℕ) → from ≤ at → Alike from SpanFrom (name_of text at) (name_of other at)
  unfolding name_of
  name at h = if_byte at 60 h (quoted_name (at + 1) (omega arith)) (bare at h)

  -- ---- the string
  named_clock : (offset offset' : ℕ → Answer ℕ) → ((at : ℕ) → from ≤ at → Alike from Any (offset at) (offset' at)) → (at : ℕ) → from ≤ at →
      Alike from (ClockFrom from) (string.clock_of offset text at) (string.clock_of offset' other at)
  unfolding string.clock_of SpanFrom
  named_clock offset offset' west at h = and_on (name at h) (λ span next g f. and_on (west next g) (λ n last k e. reads k (record { start = f })))

  summer : (standard at : ℕ) → from ≤ at → Alike from Any (summer_of standard text at) (summer_of standard other at)
  unfolding summer_of
  summer standard at h = if_byte at 44 h (reads h tt) (signed day_hours at h)

  changing : (wide : Bool) (standard : Clock) → ClockFrom from standard → (at : ℕ) → from ≤ at → Alike from (TzFrom from) (changing_of wide standard text at) (changing_of wide standard other at)
  unfolding changing_of TzFrom
  changing wide standard s at h =
      and_on (named_clock (summer_of standard.west text) (summer_of standard.west other) (summer standard.west) at h) (λ daylight next g d. and_on
      (change wide next g) (λ start next2 g2 f2. and_on (change wide next2 g2) (λ stop next3 g3 f3. if_byte next3 10 g3 (reads (omega arith) (s, d)) faults)))

  whole : (wide : Bool) (at : ℕ) → from ≤ at → Alike from (TzFrom from) (string_of wide text at) (string_of wide other at)
  unfolding string_of TzFrom
  whole wide at h =
      and_on (named_clock (signed_of day_hours text) (signed_of day_hours other) (signed day_hours) at h)
      (λ standard next g s. if_byte next 10 g (reads (omega arith) s) (changing wide standard s next g))

  -- a string from the place on
  pub string_alike : (wide : Bool) (at : ℕ) → from ≤ at → Alike from (TzFrom from) (string_of wide text at) (string_of wide other at)
  string_alike wide at h = whole wide at h
