-- The ways to what a string says of an instant. Assumes nothing.
use Rattle.numbers.proofs.{Prelude.{ℕ, ◌-◌, ◌^◌, ◌≤◌, ◌<◌, le-leb, leb-true, lt-leb, leb, Bool, true, false, ◌&&◌, ◌≡◌, refl, sym, ap, ◌∙◌, arith}, Tests.{both}}
use Rattle.tzrule.specs.{Ask.{Ruled, corrected, in_years, since, clock_at, ask}, Summer.{is_summer, IsRule, InYears}, declared.ask.Time.{Time}}
use Rattle.std.specs.Prelude.{Some, None}
use Rattle.tzrule.specs.declared.rule.{Clock.{Clock}, Rule.{Rule}, Tz.{Tz, TheVariants.{Fixed, Changing}}}

-- the two ways of the years
module _ (u : ℕ) where
  pub too_early : u < 9223371974719179008 → false ≡ in_years u
  unfolding in_years
  too_early h = simp (lt-leb 9223371974719179008 u h)

  pub not_early : 9223371974719179008 ≤ u → leb u 9223372290257076607 ≡ in_years u
  unfolding in_years
  not_early h = simp (le-leb 9223371974719179008 u h)

  too_late : 9223372290257076607 < u → false ≡ in_years u
  unfolding in_years
  too_late h = late (leb 9223371974719179008 u) where
    late : (b : Bool) → false ≡ (b && leb u 9223372290257076607)
    late true = sym (lt-leb u 9223372290257076607 h)
    late false = refl

  pub years_range : in_years u ≡ true → (9223371974719179008 ≤ u) × (u ≤ 9223372290257076607)
  unfolding in_years
  years_range e = let tests = both (leb 9223371974719179008 u) (leb u 9223372290257076607) e in (leb-true _ _ tests.0, leb-true _ _ tests.1)

  pub since_is : in_years u ≡ true → u - 9223371962095188608 ≡ since u
  unfolding since
  since_is e = omega arith

  pub since_summer : (rule : Rule) {summer : Bool} → in_years u ≡ true → summer ≡ is_summer rule (u - 9223371962095188608) → summer ≡ is_summer rule (since u)
  since_summer rule e s = s ∙ ap (is_summer rule) (since_is e)

  pub since_years : in_years u ≡ true → InYears (u - 9223371962095188608)
  since_years e = record { from = omega (arith, years_range e); to = omega (arith, years_range e) }

  -- the answer, inside and outside
  module _ (tz : Tz) where
    pub ask_inside : {time : Time} → in_years u ≡ true → time ≡ clock_at tz u → Some time ≡ ask tz u
    unfolding ask
    ask_inside e t = ap Some t ∙ simp e

    pub ask_outside : in_years u ≡ false → None ≡ ask tz u
    unfolding ask
    ask_outside e = simp e

-- far outside these years a correction of 32 bits changes nothing
module _ (tz : Tz) (instant correction : ℕ) (small : correction < 2 ^ 32) where
  pub far_before : instant < 9223371900000000000 → None ≡ ask tz (corrected instant correction)
  unfolding corrected
  far_before h = ask_outside _ tz (sym (too_early _ (omega arith)))

  pub far_after : 9223373000000000000 < instant → None ≡ ask tz (corrected instant correction)
  unfolding corrected
  far_after h = ask_outside _ tz (sym (too_late _ (omega arith)))

-- the three ways to the clock
module _ {tz : Tz} (u : ℕ) where
  pub fixed_clock : (clock : Clock) → tz ≡ Fixed clock → record { clock = clock; daylight = 0 } ≡ clock_at tz u
  unfolding clock_at
  fixed_clock clock e = rw e

  module _ {rule : Rule} {summer : Bool} (e : tz ≡ Changing rule) (s : summer ≡ is_summer rule (since u)) where
    pub summer_clock : summer ≡ true → record { clock = rule.daylight; daylight = 1 } ≡ clock_at tz u
    unfolding clock_at
    summer_clock t = rw e (simp (sym s ∙ t))

    pub winter_clock : summer ≡ false → record { clock = rule.standard; daylight = 0 } ≡ clock_at tz u
    unfolding clock_at
    winter_clock t = rw e (simp (sym s ∙ t))

pub ruled_is : {tz : Tz} {rule : Rule} → tz ≡ Changing rule → Ruled tz → IsRule rule
unfolding Ruled
ruled_is e r = rw e at r
