-- What the contracts say of an answer holds of one number only. Assumes nothing.
use Rattle.numbers.proofs.Prelude.{ℕ, suc, ◌+◌, ◌-◌, ◌≤◌, ◌<◌, eq-eqb, nat_abs, false, ◌≡◌, refl, sym, ap, ◌∙◌, arith}
use Rattle.calendar.proofs.{Dates.{place, same_month}, Rising.{rises}, moment.Shift.{seconds_of}}
use Rattle.calendar.specs.{Calendar.{weekday_of, day_number}, Moments.{instant_of, InDays}, Rules.{count_on, WeekdayOf, JulianDay}}

module _ (first length week weekday : ℕ) where
  count_up : (n : ℕ) → count_on weekday first n ≤ count_on weekday first (suc n)
  unfolding count_on
  count_up n = omega arith

  count_here : (n : ℕ) → weekday_of (first + n) ≡ weekday → count_on weekday first (suc n) ≡ count_on weekday first n + 1
  unfolding count_on
  count_here n e = simp (eq-eqb (weekday_of (first + n)) weekday e)

  -- no day after the one that is meant is meant too
  none_after : (a b : ℕ) → 1 ≤ week → week ≤ 5 → WeekdayOf first length week weekday a → WeekdayOf first length week weekday b → a < b → ⊥
  none_after a b from to p q h = let few : week ≤ 4 → ⊥ = λ k. omega (arith, p.counted k, q.counted k, p.inside.from, counts) in
      p.last (omega arith) b h q.inside q.named where
        counts : count_on weekday first (a - first) + 1 ≤ count_on weekday first (b - first)
        counts = let here : first + (a - first) ≡ a = omega (arith, p.inside.from) in
            omega (arith, rises (count_on weekday first) count_up (suc (a - first)) (b - first) (omega (arith, p.inside.from)), count_here (a - first) (ap weekday_of here ∙ p.named))

  pub one_weekday : (a b : ℕ) → 1 ≤ week → week ≤ 5 → WeekdayOf first length week weekday a → WeekdayOf first length week weekday b → a ≡ b
  one_weekday a b from to p q = let never_below : a < b → ⊥ = none_after a b from to p q in let not_above : b < a → ⊥ = none_after b a from to q p in omega arith

-- the n-th day of a common year is one date
pub one_julian : (year n a b : ℕ) → JulianDay year n a → JulianDay year n b → a ≡ b
unfolding place
one_julian year n a b p q =
    let same = same_month false p.month p.date q.month q.date p.common q.common (omega (arith, p.counted, q.counted, p.common.day_from, q.common.day_from)) in
    p.meant ∙ ap (λ (m : ℕ). day_number year m p.date) same.0 ∙ ap (λ (d : ℕ). day_number year q.month d) same.1 ∙ sym q.meant

-- an instant is one second of one day
pub one_moment : (day second day' second' : ℕ) → InDays day second → InDays day' second' → instant_of day second ≡ instant_of day' second' → (day ≡ day') × (second ≡ second')
one_moment day second day' second' p q e = let same = ap nat_abs (sym (seconds_of _ day second refl) ∙ seconds_of _ day' second' (sym e)) in
    omega (arith, p.second_to, q.second_to)
