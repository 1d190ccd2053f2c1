-- The left bound of the crossing test never leaves an i32, so its 13 is never given: at the least longitude no point lies west of the
-- location, and no edge leads across two quadrants. Assumes nothing.
use Rattle.numbers.proofs.Prelude.{ℕ, suc, ◌+◌, ◌-◌, ◌%◌, ◌^◌, ◌<◌, le-leb, ltb-true, ltb-false, eqb, ltb, ℤ, pos, negsuc, ◌-ℤ◌, mag, le_z, Bool, true, false, ◌⊎◌, inl, inr, ◌≡◌, refl, sym, ap, ◌∙◌}
use Rattle.numbers.{proofs.{Prelude.{w32, SFits, arith}, Signed.{mag_cond}, Tests.{differ}}, specs.Answer.{if◌then◌else◌}}
use Rattle.verdict.specs.{Edge.{quadrant_of}, Step.{found, checked}}
use Rattle.border.specs.declared.place.Point.{Point}
use Rattle.verdict.proofs.Checks.{checked_fits}

abbrev least : ℤ
least = negsuc 2147483647

-- the number before one that fits, which is not the least
below : (n : ℕ) (t : Bool) → ltb n 2147483647 ≡ t → n < 2 ^ 31 → (negsuc n ≡ least) ⊎ (mag (negsuc n -ℤ pos 1) < 2 ^ 31)
below n true e h = inr (omega (arith, ltb-true n 2147483647 e))
below n false e h = inl (ap negsuc (omega (arith, ltb-false n 2147483647 e)))

before_fits : (z : ℤ) → SFits w32 z → (z ≡ least) ⊎ (mag (z -ℤ pos 1) < 2 ^ 31)
before_fits (pos n) h = inr (let x : n < 2 ^ 31 = h.sfits in mag_cond (ltb n 1) (1 - suc n) (n - 1) (2 ^ 31) (omega arith) (omega arith))
before_fits (negsuc n) h = below n (ltb n 2147483647) refl h.sfits

least_le : (z : ℤ) → SFits w32 z → le_z least z ≡ true
least_le (pos n) h = refl
least_le (negsuc n) h = le-leb n 2147483647 (let x : n < 2 ^ 31 = h.sfits in omega arith)

-- two quadrants are across
abbrev pub across : Point → Point → Point → Bool
across fix from to = eqb ((quadrant_of fix to + 4 - quadrant_of fix from) % 4) 2

neighbours : (t u : Bool) → eqb (((if u then 0 else 3) + 4 - (if t then 0 else 3)) % 4) 2 ≡ false
neighbours true true = refl
neighbours true false = refl
neighbours false true = refl
neighbours false false = refl

module _ (fix from to : Point) (f : SFits w32 from.lon.0) (g : SFits w32 to.lon.0) where
  never_across : fix.lon.0 ≡ least → across fix from to ≡ false
  unfolding quadrant_of
  never_across e = rw (e, least_le from.lon.0 f, least_le to.lon.0 g) (neighbours (le_z fix.lat.0 from.lat.0) (le_z fix.lat.0 to.lat.0))

  left_bound : (fix.lon.0 ≡ least) ⊎ (mag (fix.lon.0 -ℤ pos 1) < 2 ^ 31) → across fix from to ≡ true → checked 31 (fix.lon.0 -ℤ pos 1) ≡ found (fix.lon.0 -ℤ pos 1)
  left_bound (inl e) h = differ (sym (never_across e) ∙ h)
  left_bound (inr e) h = checked_fits 31 (fix.lon.0 -ℤ pos 1) e

  -- between points of i32 coordinates
  pub left_bound_fits : SFits w32 fix.lon.0 → across fix from to ≡ true → checked 31 (fix.lon.0 -ℤ pos 1) ≡ found (fix.lon.0 -ℤ pos 1)
  left_bound_fits h t = left_bound (before_fits fix.lon.0 h) t
