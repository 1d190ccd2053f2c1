-- The clock's answer is one, and the moment's. Assumes nothing.
use Rattle.numbers.proofs.Prelude.{ℕ, ◌+◌, ◌*◌, ℤ, ◌≡◌, refl, sym, ap, ◌∙◌, arith}
use Rattle.calendar.proofs.{Dates.{unique, number_short}, Laws.{days_in_all}, Unique.{one_moment}}
use Rattle.calendar.specs.{Calendar.{day_number, weekday_of}, Civil.{Shows, CivilOf}, Moments.{InDays, MomentOf}, declared.civil.Reading.{Reading}}
use Rattle.std.specs.Prelude.{Option, Some, None}
use Rattle.calendar.specs.declared.moment.Moment.{Moment}

-- a reading is of a second of these days
in_days : (local : ℤ) (r : Reading) → Shows local r → InDays (day_number r.year r.month r.day) (3600 * r.hour + 60 * r.minute + r.second)
in_days local r s = record { day_to = omega (arith, number_short s.date, days_in_all); second_to = omega (arith, s.hour, s.minute, s.second) }

-- a reading is its seven numbers
reading : ℕ → ℕ → ℕ → ℕ → ℕ → ℕ → ℕ → Reading
reading year month day hour minute second weekday = record { year = year; month = month; day = day; hour = hour; minute = minute; second = second; weekday = weekday }

same_numbers : {a b c d e f g a' b' c' d' e' f' g' : ℕ} → a ≡ a' → b ≡ b' → c ≡ c' → d ≡ d' → e ≡ e' → f ≡ f' → g ≡ g' → reading a b c d e f g ≡ reading a' b' c' d' e' f' g'
same_numbers p q r s t u v = cc

same_fields : (r q : Reading) → r.year ≡ q.year → r.month ≡ q.month → r.day ≡ q.day → r.hour ≡ q.hour → r.minute ≡ q.minute → r.second ≡ q.second → r.weekday ≡ q.weekday → r ≡ q
unfolding reading
same_fields r q ya mo da ho mi se we = same_numbers ya mo da ho mi se we

-- two readings of one instant are equal
same_reading : (local : ℤ) (r q : Reading) → Shows local r → Shows local q → r ≡ q
same_reading local r q s t = let moment = one_moment _ _ _ _ (in_days local r s) (in_days local q t) (s.back ∙ sym t.back) in
    let date = unique s.date t.date moment.0 in
    same_fields r q date.0 date.1 date.2 (omega (arith, s.minute, s.second, t.minute, t.second, moment.1))
    (omega (arith, s.minute, s.second, t.minute, t.second, moment.1)) (omega (arith, s.minute, s.second, t.minute, t.second, moment.1))
    (s.weekday ∙ ap weekday_of moment.0 ∙ sym t.weekday)

-- two answers that the promise of `civil_time` permits are equal
pub same_civil : (instant offset : ℤ) (a b : Option Reading) → CivilOf instant offset a → CivilOf instant offset b → a ≡ b
unfolding CivilOf MomentOf
same_civil instant offset (Some r) (Some q) s t = ap Some (same_reading _ r q s t)
same_civil instant offset (Some r) None s t = absurd (t _ _ (in_days _ r s) s.back)
same_civil instant offset None (Some q) s t = absurd (s _ _ (in_days _ q t) t.back)
same_civil instant offset None None s t = refl

same_at : (p q : Moment) → p.day ≡ q.day → p.second ≡ q.second → p ≡ q
same_at p q d s = λ i. record { day = d i; second = s i }

-- two answers that the promise of `moment_of` permits are equal
pub same_moment : (instant : ℤ) (a b : Option Moment) → MomentOf instant a → MomentOf instant b → a ≡ b
unfolding MomentOf
same_moment instant (Some p) (Some q) h k = let one = one_moment p.day p.second q.day q.second h.0 k.0 (h.1 ∙ sym k.1) in ap Some (same_at p q one.0 one.1)
same_moment instant (Some p) None h k = absurd (k p.day p.second h.0 h.1)
same_moment instant None (Some q) h k = absurd (h q.day q.second k.0 k.1)
same_moment instant None None h k = refl
