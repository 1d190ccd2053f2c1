-- How long a line can be: the clock with its offset, and each different zone. Assumes nothing.
use Rattle.numbers.proofs.Prelude.{ℕ, zero, suc, ◌+◌, ◌/◌, ◌%◌, ◌^◌, ◌≤◌, ◌<◌, lt-ltb, eqb, ltb, ℤ, pos, negsuc, length, length-append, length-map, mag, Bool, true, false, cond, List, [], ◌∷◌, ◌++◌}
use Rattle.numbers.{proofs.{Prelude.{◌≡◌, sym, ap, subst, pow-suc, arith}, Replies.{given_from, given_one}}, specs.{Answer.{if◌then◌else◌}, Reply.{given}}}
use Rattle.calendar.specs.declared.civil.Reading.{Reading}
use Rattle.header.specs.declared.header.Head.{Head}
use Rattle.line.specs.{Clock.{weekday_text, date_text, time_text, hours_text, seconds_text, span_text, offset_text, shown}, Put.{digit, decimal_of, decimal, two_digits}}
use Rattle.slip.proofs.{Clocks.{letters}, Making.{hourly}}
use Rattle.slip.specs.{Hour.{Hour, hour_of, hours_from}, Line.{clock_text, is_among, between, shown_text, zone_text, added, zones_from}, Says.{zones_most}}
use Rattle.table.specs.declared.hits.Hit.{Hit}

-- ---- the clock
decimal_narrow : (k j n : ℕ) → n < 10 ^ suc j → length (decimal_of k n) ≤ suc j
unfolding decimal_of
decimal_narrow zero j n h = omega arith
decimal_narrow (suc k) zero n h =
    subst (λ (t : Bool). length (cond t (digit n ∷ []) (decimal_of k (n / 10) ++ (digit n ∷ []))) ≤ 1) (sym (lt-ltb n 10 (omega (arith, h, pow-suc 10 0)))) (omega arith)
decimal_narrow (suc k) (suc j) n h = go (ltb n 10) (decimal_narrow k j (n / 10) (omega (arith, h, pow-suc 10 (suc j)))) where
  go : (t : Bool) → length (decimal_of k (n / 10)) ≤ suc j → length (cond t (digit n ∷ []) (decimal_of k (n / 10) ++ (digit n ∷ []))) ≤ suc (suc j)
  go true h = omega arith
  go false h = omega (arith, h, length-append (decimal_of k (n / 10)) (digit n ∷ []))

hours_short : (hours : ℕ) → hours < 10 ^ 6 → length (hours_text hours) ≤ 6
unfolding hours_text decimal
hours_short hours h = go (ltb hours 100) where
  go : (t : Bool) → length (if t then two_digits hours else decimal hours) ≤ 6
  go true = omega arith
  go false = decimal_narrow 19 5 hours h

seconds_short : (seconds : ℕ) → length (seconds_text seconds) ≤ 3
unfolding seconds_text
seconds_short seconds = go (eqb seconds 0) where
  go : (t : Bool) → length (if t then [] else (58 ∷ two_digits seconds)) ≤ 3
  go true = omega arith
  go false = omega arith

span_short : (n : ℕ) → n ≤ 2 ^ 31 → length (span_text n) ≤ 12
unfolding span_text
span_short n h =
    omega (arith, length-append (hours_text (n / 3600)) (58 ∷ (two_digits (n / 60 % 60) ++ seconds_text (n % 60))), hours_short (n / 3600) (omega (arith, h)), seconds_short (n % 60))

offset_short : (z : ℤ) → mag z < 2 ^ 31 → length (offset_text z) ≤ 13
unfolding offset_text
offset_short (pos n) h = omega (arith, span_short n (omega (arith, h)))
offset_short (negsuc n) h = omega (arith, span_short (suc n) (omega (arith, h)))

pub clock_short : (reading : Reading) (offset : ℤ) → reading.weekday < 7 → mag offset < 2 ^ 31 → length (clock_text reading offset) ≤ 37
unfolding clock_text date_text time_text
clock_short reading offset w h = let l = letters reading.weekday w in
    let rest : List ℕ = 32 ∷ (date_text reading ++ (32 ∷ (time_text reading ++ (32 ∷ offset_text offset)))) in
    omega (arith, length-append (weekday_text reading.weekday) rest, ap length l.are, offset_short offset h)

-- ---- the zones
-- each has a name of at most forty bytes
unfoldable pub Named : List Hour → Type 0
Named [] = Unit {0}
Named (hour ∷ hours) = (length hour.name ≤ 40) × Named hours

pub names_short : (map : List ℕ) (head : Head) (zones : List ℕ) (instant : ℤ) (number : ℕ) (matches : List Hit) (hours : List Hour)
    → given hours ≡ hours_from map head zones instant number matches → Named hours
unfolding Named hours_from
names_short map head zones instant number [] hours e = subst Named (sym (given_one e)) tt
names_short map head zones instant number (match ∷ matches) hours e = let hour = given_from (hour_of map head zones instant number match) _ e in
    let rest = given_from (hours_from map head zones instant (number + 1) matches) _ hour.onto in
    subst Named (sym (given_one rest.onto)) ((hourly map head zones instant number match hour.is).short, names_short map head zones instant (number + 1) matches rest.it rest.is)

zone_long : (hour : Hour) → length (zone_text hour) ≡ length hour.abbreviation + 1 + length hour.name
unfolding zone_text
zone_long hour =
    omega (arith, length-append (shown_text hour.abbreviation) (32 ∷ shown_text hour.name), length-map hour.abbreviation shown, length-map hour.name shown)

between_short : (n : ℕ) → length (between n) ≤ 2
unfolding between
between_short zero = omega arith
between_short (suc n) = omega arith

added_short : (before : List Hour) (hour : Hour) → length hour.name ≤ 40 → length (added before hour) ≤ (if is_among hour.name before then 0 else 43 + length hour.abbreviation)
unfolding added
added_short before hour h = go (is_among hour.name before) where
  go : (t : Bool) → length (if t then [] else (between (length before) ++ zone_text hour)) ≤ (if t then 0 else 43 + length hour.abbreviation)
  go true = omega arith
  go false = omega (arith, length-append (between (length before)) (zone_text hour), between_short (length before), zone_long hour, h)

zones_short : (before hours : List Hour) → Named hours → length (zones_from before hours) ≤ zones_most before hours
unfolding zones_from zones_most Named
zones_short before [] h = omega arith
zones_short before (hour ∷ hours) h =
    omega (arith, length-append (added before hour) (zones_from (before ++ (hour ∷ [])) hours), added_short before hour h.0, zones_short (before ++ (hour ∷ [])) hours h.1)

-- before the first stands one byte, not two
pub zones_all : (hour : Hour) (hours : List Hour) → Named (hour ∷ hours) → length (zones_from [] (hour ∷ hours)) + 1 ≤ zones_most [] (hour ∷ hours)
unfolding zones_from zones_most Named added is_among between
zones_all hour hours h = omega (arith, length-append (32 ∷ zone_text hour) (zones_from (hour ∷ []) hours), zone_long hour, h.0, zones_short (hour ∷ []) hours h.1)
