-- Edges in a field that is far enough from the location leave the least distance as it is. Assumes nothing.
use Rattle.numbers.proofs.Prelude.{ℕ, zero, suc, ◌+◌, ◌-◌, ◌*◌, ◌^◌, ◌≤◌, ◌<◌, lt-ltb, ltb-true, ltb, ℤ, pos, negsuc, ◌+ℤ◌, ◌-ℤ◌, neg_ℤ, nat_abs, mag, lt_z, le_z, Bool, true, false, ◌&&◌, ◌||◌, cond}
use Rattle.numbers.proofs.{Prelude.{◌≡◌, refl, sym, ap, subst, ◌∙◌, mul-le-mul, mod-eq_of_lt, arith}, Tests.{differ, both}, write.Gaps.{size_sum, size_neg}}
use Rattle.std.proofs.Common.{◌*ℤ◌}
use lib.IntN.{suc_ℤ, +ℤ_idr, +ℤ-suc_ℤ, +ℤ_comm, neg_ℤ-+ℤ, neg_ℤ-neg_ℤ}
use Rattle.verdict.proofs.{Checks.{checked_fits}, Gliding.{le_less, less_le_less}}
use Rattle.border.specs.declared.place.Point.{Point}
use Rattle.verdict.specs.{Distance.{squared}, Edge.{between, in_box}, Step.{Step, found}, declared.field.Span.{Span}, inner.Gliding.{in_span, far_from, nearby}}

-- ---- numbers of a span

-- a number between two of a span lies in it
pub between_span : (span : Span) (a c b : ℤ) → in_span span a ≡ true → in_span span b ≡ true → between a c b ≡ true → in_span span c ≡ true
unfolding in_span between
between_span span a c b h k e = go (le_z a c && le_z c b) refl e where
  p : (lt_z span.low a ≡ true) × (lt_z a span.high ≡ true)
  p = both (lt_z span.low a) (lt_z a span.high) h

  q : (lt_z span.low b ≡ true) × (lt_z b span.high ≡ true)
  q = both (lt_z span.low b) (lt_z b span.high) k

  go : (t : Bool) → (le_z a c && le_z c b) ≡ t → (t || (le_z b c && le_z c a)) ≡ true → (lt_z span.low c && lt_z c span.high) ≡ true
  go true l e = let u = both (le_z a c) (le_z c b) l in rw (less_le_less span.low a c p.0 u.0, le_less c b span.high u.1 q.1)
  go false l e = let u = both (le_z b c) (le_z c a) e in rw (less_le_less span.low b c q.0 u.0, le_less c a span.high u.1 p.1)

pub nearby_size : (span : Span) (v : ℤ) → nearby span ≡ true → in_span span v ≡ true → mag v < 4194304
unfolding nearby in_span
nearby_size span v n h = let p = both (le_z (negsuc 4194303) span.low) (le_z span.high (pos 4194304)) n in
    let q = both (lt_z span.low v) (lt_z v span.high) h in
    go v (le_less (negsuc 4194303) span.low v p.0 q.0) (less_le_less v span.high (pos 4194304) q.1 p.1) where
      go : (v : ℤ) → lt_z (negsuc 4194303) v ≡ true → lt_z v (pos 4194304) ≡ true → mag v < 4194304
      go (pos n) a b = ltb-true n 4194304 b
      go (negsuc n) a b = let z = ltb-true n 4194303 a in omega (arith, z)

gap_up : (x v : ℤ) (r : ℕ) → lt_z (x +ℤ pos r) v ≡ true → suc r ≤ nat_abs (v -ℤ x)
gap_up (pos zero) (pos b) r h = let z = ltb-true (0 + r) b h in omega (arith, z)
gap_up (pos (suc a)) (pos b) r h = go (ltb b (suc a)) refl where
  go : (t : Bool) → ltb b (suc a) ≡ t → suc r ≤ nat_abs (cond t (negsuc (suc a - suc b)) (pos (b - suc a)))
  go true e = let z = ltb-true (suc a + r) b h in let w = ltb-true b (suc a) e in absurd (omega (arith, z, w))
  go false e = let z = ltb-true (suc a + r) b h in omega (arith, z)
gap_up (pos a) (negsuc b) r h = differ h
gap_up (negsuc a) (pos b) r h = go (ltb r (suc a)) refl h where
  go : (t : Bool) → ltb r (suc a) ≡ t → lt_z (cond t (negsuc (suc a - suc r)) (pos (r - suc a))) (pos b) ≡ true → suc r ≤ b + suc a
  go true e k = let z = ltb-true r (suc a) e in omega (arith, z)
  go false e k = let z = ltb-true (r - suc a) b k in omega (arith, z)
gap_up (negsuc a) (negsuc b) r h = go (ltb r (suc a)) refl h where
  go : (t : Bool) → ltb r (suc a) ≡ t → lt_z (cond t (negsuc (suc a - suc r)) (pos (r - suc a))) (negsuc b) ≡ true → suc r ≤ nat_abs (negsuc b -ℤ negsuc a)
  go true e k = let y = ltb-true r (suc a) e in let z = ltb-true b (suc a - suc r) k in last (ltb (suc a) (suc b)) refl (omega (arith, y, z)) where
    last : (t : Bool) → ltb (suc a) (suc b) ≡ t → suc r + b ≤ a → suc r ≤ nat_abs (cond t (negsuc (suc b - suc (suc a))) (pos (suc a - suc b)))
    last true e m = let z = ltb-true (suc a) (suc b) e in absurd (omega (arith, z, m))
    last false e m = omega (arith, m)
  go false e k = differ k

abs_swap : (a b : ℤ) → nat_abs (a -ℤ b) ≡ nat_abs (b -ℤ a)
abs_swap a b = sym (size_neg (a -ℤ b)) ∙ ap nat_abs (neg_ℤ-+ℤ a (neg_ℤ b) ∙ ap (λ (z : ℤ). neg_ℤ a +ℤ z) (neg_ℤ-neg_ℤ b) ∙ +ℤ_comm (neg_ℤ a) b)

suc_less : (a b : ℤ) → lt_z a b ≡ true → lt_z (suc_ℤ a) (suc_ℤ b) ≡ true
suc_less (pos a) (pos b) h = let z = ltb-true a b h in lt-ltb (suc a) (suc b) (omega (arith, z))
suc_less (pos a) (negsuc b) h = differ h
suc_less (negsuc zero) (pos b) h = lt-ltb 0 (suc b) (omega arith)
suc_less (negsuc (suc a)) (pos b) h = refl
suc_less (negsuc zero) (negsuc zero) h = let z = ltb-true 0 0 h in absurd (omega (arith, z))
suc_less (negsuc zero) (negsuc (suc b)) h = let z = ltb-true (suc b) 0 h in absurd (omega (arith, z))
suc_less (negsuc (suc a)) (negsuc zero) h = refl
suc_less (negsuc (suc a)) (negsuc (suc b)) h = let z = ltb-true (suc b) (suc a) h in lt-ltb b a (omega (arith, z))

add_less : (a b : ℤ) (r : ℕ) → lt_z a b ≡ true → lt_z (a +ℤ pos r) (b +ℤ pos r) ≡ true
add_less a b zero h = rw (+ℤ_idr a, +ℤ_idr b) h
add_less a b (suc r) h = rw (+ℤ-suc_ℤ a (pos r), +ℤ-suc_ℤ b (pos r)) (suc_less (a +ℤ pos r) (b +ℤ pos r) (add_less a b r h))

pub far_size : (r : ℕ) (x : ℤ) (span : Span) (v : ℤ) → far_from r x span ≡ true → in_span span v ≡ true → suc r ≤ nat_abs (v -ℤ x)
unfolding far_from in_span
far_size r x span v e h = go (le_z (x +ℤ pos r) span.low) refl e where
  p : (lt_z span.low v ≡ true) × (lt_z v span.high ≡ true)
  p = both (lt_z span.low v) (lt_z v span.high) h

  go : (t : Bool) → le_z (x +ℤ pos r) span.low ≡ t → (t || le_z (span.high +ℤ pos r) x) ≡ true → suc r ≤ nat_abs (v -ℤ x)
  go true l e = gap_up x v r (le_less (x +ℤ pos r) span.low v l p.0)
  go false l e = subst (λ (n : ℕ). suc r ≤ n) (abs_swap x v) (gap_up v x r (less_le_less (v +ℤ pos r) (span.high +ℤ pos r) x (add_less v span.high r p.1) e))

-- ---- squares

square_abs : (z : ℤ) → nat_abs (z *ℤ z) ≡ nat_abs z * nat_abs z
square_abs (pos n) = refl
square_abs (negsuc n) = refl

square_mag : (z : ℤ) → mag (z *ℤ z) ≡ nat_abs z * nat_abs z
square_mag (pos n) = refl
square_mag (negsuc n) = refl

square_most : (n : ℕ) → n ≤ 2 ^ 24 → n * n ≤ 281474976710656
square_most n h = mul-le-mul h h

squared_found : (y x : ℤ) → nat_abs y ≤ 2 ^ 24 → nat_abs x ≤ 2 ^ 24 → squared y x ≡ found (nat_abs y * nat_abs y + 4 * (nat_abs x * nat_abs x))
unfolding squared
squared_found y x h k = let p = square_most (nat_abs y) h in let q = square_most (nat_abs x) k in
    rw (
      checked_fits 63 (y *ℤ y) (subst (λ (n : ℕ). n < 2 ^ 63) (sym (square_mag y)) (omega (arith, p))),
      checked_fits 63 (x *ℤ x) (subst (λ (n : ℕ). n < 2 ^ 63)
          (sym (square_mag x)) (omega (arith, q))),
      square_abs y,
      square_abs x,
    )
    (ap found (mod-eq_of_lt (omega (arith, p, q))))

pub difference_most : (a b : ℤ) → nat_abs (a -ℤ b) ≤ nat_abs a + nat_abs b
difference_most a b = omega (arith, size_sum a (neg_ℤ b), size_neg b)

pub abs_mag : (z : ℤ) → nat_abs z ≤ suc (mag z)
abs_mag (pos n) = omega arith
abs_mag (negsuc n) = omega arith

-- ---- the distance

pub in_both : (one p other : Point) → in_box one p other ≡ true → (between one.lat.0 p.lat.0 other.lat.0 ≡ true) × (between one.lon.0 p.lon.0 other.lon.0 ≡ true)
unfolding in_box
in_both one p other e = both (between one.lat.0 p.lat.0 other.lat.0) (between one.lon.0 p.lon.0 other.lon.0) e

-- a step that finds a number not less than this
pub record Further (least : ℕ) (step : Step ℕ) : Type 0 where
  pub value : ℕ
  pub is : step ≡ found value
  pub further : least ≤ value

pub reached : (least r q : ℕ) (y x : ℤ) → r ≤ nat_abs y → q ≤ nat_abs x → nat_abs y ≤ 2 ^ 24 → nat_abs x ≤ 2 ^ 24 → least ≤ r * r + 4 * (q * q) → Further least (squared y x)
reached least r q y x a b h k e = let u = mul-le-mul a a in let v = mul-le-mul b b in
    record { value = nat_abs y * nat_abs y + 4 * (nat_abs x * nat_abs x); is = squared_found y x h k; further = omega (arith, u, v, e) }
