-- A signed step of the metadata id, modulo 2 ^ 32. Assumes nothing.
use Rattle.numbers.{proofs.Prelude.{ℕ, zero, suc, ◌+◌, ◌-◌, ◌/◌, ◌%◌, ◌^◌, ◌<◌, eq-eqb, ne_eqb, pos, neg_ℤ, ◌≡◌, arith}, specs.Point.{low32, half_of}}

module _ (id step : ℕ) where
  pub forth : step % 2 ≡ 0 → (id + step / 2 % 2 ^ 32) % 2 ^ 32 ≡ (id + low32 (half_of step)) % 2 ^ 32
  forth e = simp (eq-eqb _ _ e)

  -- the residue of a negated number
  negated : (half : ℕ) → id < 2 ^ 32 → (id + (2 ^ 32 - half % 2 ^ 32)) % 2 ^ 32 ≡ (id + low32 (neg_ℤ (pos half))) % 2 ^ 32
  negated zero h = omega arith
  negated (suc n) h = omega arith

  pub back : (step % 2 ≡ 0 → ⊥) → id < 2 ^ 32 → (id + (2 ^ 32 - step / 2 % 2 ^ 32)) % 2 ^ 32 ≡ (id + low32 (half_of step)) % 2 ^ 32
  back e h = simp (ne_eqb _ _ e) (negated (step / 2) h)
