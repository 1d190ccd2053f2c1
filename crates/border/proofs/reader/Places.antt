-- Places of references: sums modulo 2 ^ 32, and the i64 that a start and a length must stay in. Assumes nothing.
use Rattle.numbers.proofs.Prelude.{ℕ, zero, suc, ◌+◌, ◌-◌, ◌%◌, ◌^◌, ◌≤◌, ◌<◌, lt-ltb, le-ltb, ltb-true, ltb-false, ltb, ℤ, pos, negsuc, ◌+ℤ◌, ◌-ℤ◌, mag, lt_z, Bool, true, false, cond, ◌≡◌, refl, sym}
use Rattle.numbers.{proofs.{Prelude.{ap, ◌∙◌, mod-eq_of_lt, arith}, Signed.{mag_cond}, Tests.{differ}}, specs.{Answer.{found, refused, if◌then◌else◌, checked}, Point.{low32}}}
use Rattle.border.specs.{Reader.{data_place, as_i64, opened}, declared.reader.Run.TheVariants.{Idle, Forward, Backward}}

-- ---- modulo 2 ^ 32

low_sub : (a b : ℕ) (t : Bool) → ltb a (suc b) ≡ t → low32 (cond t (negsuc (suc b - suc a)) (pos (a - suc b))) ≡ (a % 2 ^ 32 + (2 ^ 32 - 1 - b % 2 ^ 32)) % 2 ^ 32
low_sub a b true e = omega (arith, ltb-true a (suc b) e)
low_sub a b false e = omega (arith, ltb-false a (suc b) e)

low_sum : (a b : ℤ) → low32 (a +ℤ b) ≡ (low32 a + low32 b) % 2 ^ 32
low_sum (pos a) (pos b) = omega arith
low_sum (pos a) (negsuc b) = low_sub a b (ltb a (suc b)) refl
low_sum (negsuc a) (pos b) = low_sub b a (ltb b (suc a)) refl ∙ omega arith
low_sum (negsuc a) (negsuc b) = omega arith

low_start : (n : ℕ) → low32 (as_i64 n) ≡ n % 2 ^ 32
low_start n = go (ltb n (2 ^ 63)) where
  go : (t : Bool) → low32 (if t then pos n else (pos n -ℤ pos (2 ^ 64))) ≡ n % 2 ^ 32
  go true = refl
  go false = low_sum (pos n) (negsuc (2 ^ 64 - 1)) ∙ omega arith

one_lower : (s d : ℕ) → (s + 4294967295 + d) % 2 ^ 32 ≡ ((s + d) % 2 ^ 32 + 4294967295) % 2 ^ 32
one_lower s d = omega arith

-- a place depends on the low 32 bits alone
module _ (base start : ℕ) where
  place : (n : ℕ) (z : ℤ) → n % 2 ^ 32 ≡ low32 z → data_place base (pos n) ≡ data_place base z
  place n z e = ap (λ (low : ℕ). (base + low) % 2 ^ 32) e

  forward_next : data_place base (pos start) ≡ data_place base (as_i64 start)
  forward_next = place start (as_i64 start) (rw low_start)

  forward_end : (size : ℕ) → data_place base (pos (start % 2 ^ 32 + size)) ≡ data_place base (as_i64 start +ℤ pos size)
  forward_end size = place _ (as_i64 start +ℤ pos size) (rw (low_sum (as_i64 start) (pos size), low_start) (omega arith))

  backward_next : data_place base (pos (start % 2 ^ 32 + 4294967295)) ≡ data_place base (as_i64 start -ℤ pos 1)
  backward_next = place _ (as_i64 start -ℤ pos 1) (rw (low_sum (as_i64 start) (negsuc 0), low_start) (omega arith))

  backward_end : (more : ℕ) → more < 2 ^ 32 → data_place base (pos (start % 2 ^ 32 + 4294967295 + (4294967295 - more))) ≡ data_place base (as_i64 start +ℤ negsuc more -ℤ pos 1)
  backward_end more h =
      place _ (as_i64 start +ℤ negsuc more -ℤ pos 1)
      (rw (low_sum (as_i64 start +ℤ negsuc more) (negsuc 0), low_sum (as_i64 start) (negsuc more), low_start, mod-eq_of_lt h) (one_lower _ _))

-- ---- inside an i64

lower : {n : ℕ} → n < 2 ^ 63 → as_i64 n ≡ pos n
lower {n} h = rw (lt-ltb n (2 ^ 63) h)

upper : {n : ℕ} → 2 ^ 63 ≤ n → n < 2 ^ 64 → as_i64 n ≡ negsuc (2 ^ 64 - suc n)
upper {n} h k = rw (le-ltb n (2 ^ 63) h, lt-ltb n (2 ^ 64) k)

either : {A : Type 0} (n m : ℕ) → (n < m → A) → (m ≤ n → A) → A
either {A} n m f g = go (ltb n m) refl where
  go : (t : Bool) → ltb n m ≡ t → A
  go true e = f (ltb-true n m e)
  go false e = g (ltb-false n m e)

module _ (base start : ℕ) (fits : start < 2 ^ 64) where
  inside : (size : ℕ) → size < 2 ^ 32 → (start < 2 ^ 63 → start + size < 2 ^ 63) → mag (as_i64 start +ℤ pos size) < 2 ^ 63
  inside size s h =
      either start (2 ^ 63) (λ l. rw (lower l) (h l)) (λ u. rw (upper u fits) (mag_cond (ltb size (suc (2 ^ 64 - suc start))) _ _ (2 ^ 63) (omega arith) (omega arith)))

  inside_back : (more : ℕ) → more < 2 ^ 32 → (2 ^ 63 ≤ start → more < start - 2 ^ 63) → mag (as_i64 start +ℤ negsuc more) < 2 ^ 63
  inside_back more s h =
      either start (2 ^ 63) (λ l. rw (lower l) (mag_cond (ltb start (suc more)) _ _ (2 ^ 63) (omega arith) (omega arith))) (λ u. let x = h u in rw (upper u fits) (omega arith))

  -- ---- a reference

  pub forward_opened : (size : ℕ) → size < 2 ^ 32 → (size ≡ 0 → ⊥) → (start < 2 ^ 63 → start + size < 2 ^ 63)
      → found (Forward (data_place base (pos start)) (data_place base (pos (start % 2 ^ 32 + size)))) ≡ opened base (as_i64 start) (pos size)
  unfolding opened checked
  forward_opened zero s n h = absurd (n refl)
  forward_opened (suc k) s n h = rw (lt-ltb _ _ (inside (suc k) s h), ← forward_next base start, ← forward_end base start (suc k))

  pub forward_over : (size : ℕ) → start < 2 ^ 63 → 2 ^ 63 ≤ start + size → refused 13 ≡ opened base (as_i64 start) (pos size)
  unfolding opened checked
  forward_over zero l h = absurd (omega arith)
  forward_over (suc k) l h = rw (lower l, le-ltb (start + suc k) (2 ^ 63) h)

  pub backward_opened : (more : ℕ) → more < 2 ^ 32 → (2 ^ 63 ≤ start → more < start - 2 ^ 63)
      → found (Backward (data_place base (pos (start % 2 ^ 32 + 4294967295))) (data_place base (pos (start % 2 ^ 32 + 4294967295 + (4294967295 - more))))) ≡ opened base (as_i64 start) (negsuc more)
  unfolding opened checked
  backward_opened more s h = rw (lt-ltb _ _ (inside_back more s h), ← backward_next base start, ← backward_end base start more s)

  pub backward_over : (more : ℕ) → 2 ^ 63 ≤ start → start - 2 ^ 63 ≤ more → refused 13 ≡ opened base (as_i64 start) (negsuc more)
  unfolding opened checked
  backward_over more u h = rw (upper u fits, le-ltb (suc (2 ^ 64 - suc start + more)) (2 ^ 63) (omega arith))

-- a length of 0 opens none
pub none_opened : (base start : ℕ) → found Idle ≡ opened base (as_i64 start) (pos 0)
unfolding opened
none_opened base start = refl

-- ---- the sign of a length

module _ (z : ℤ) where
  pub below : lt_z z (pos 0) ≡ true → negsuc (mag z) ≡ z
  below = go z where
    go : (z : ℤ) → lt_z z (pos 0) ≡ true → negsuc (mag z) ≡ z
    go (pos n) e = let z = ltb-true n 0 e in absurd (omega arith)
    go (negsuc n) e = refl

  pub turned : lt_z z (pos 0) ≡ true → negsuc 0 -ℤ z ≡ pos (mag z)
  turned = go z where
    go : (z : ℤ) → lt_z z (pos 0) ≡ true → negsuc 0 -ℤ z ≡ pos (mag z)
    go (pos n) e = let z = ltb-true n 0 e in absurd (omega arith)
    go (negsuc n) e = rw (le-ltb (suc n) 1 (omega arith)) (ap pos (omega arith))

  pub above : lt_z z (pos 0) ≡ false → pos (mag z) ≡ z
  above = go z where
    go : (z : ℤ) → lt_z z (pos 0) ≡ false → pos (mag z) ≡ z
    go (pos n) e = refl
    go (negsuc n) e = differ (sym e)
