-- The size of a varint: it never falls, and its bounds. Assumes nothing.
use Rattle.numbers.proofs.Prelude.{ℕ, zero, suc, ◌/◌, ◌^◌, ◌≤◌, ◌<◌, le-ltb, ltb-false, ltb, length, Bool, true, false, ◌≡◌, refl, le_refl, pow-suc, arith}
use Rattle.numbers.specs.{Answer.{if◌then◌else◌}, Spelling.{digits_of, varint_of}}

-- one step, by the test
step : (k n : ℕ) (small : Bool) → ltb n 128 ≡ small → length (digits_of (suc k) n) ≡ (if small then 1 else suc (length (digits_of k (n / 128))))
unfolding digits_of
step k n true e = rw e
step k n false e = rw e

least : (k n : ℕ) → 1 ≤ length (digits_of k n)
unfolding digits_of
least zero n = le_refl 1
least (suc k) n = go (ltb n 128) refl where
  go : (small : Bool) → ltb n 128 ≡ small → 1 ≤ length (digits_of (suc k) n)
  go true e = omega (arith, step k n true e)
  go false e = omega (arith, step k n false e)

-- a greater number is no shorter
rises_step : (k m n : ℕ) (small : Bool) → ltb m 128 ≡ small → m ≤ n → length (digits_of k (m / 128)) ≤ length (digits_of k (n / 128)) → length (digits_of (suc k) m) ≤ length (digits_of (suc k) n)
rises_step k m n true e h more = omega (arith, step k m true e, least (suc k) n)
rises_step k m n false e h more = omega (arith, step k m false e, step k n false (le-ltb n 128 (omega (arith, ltb-false m 128 e))))

rises : (k m n : ℕ) → m ≤ n → length (digits_of k m) ≤ length (digits_of k n)
unfolding digits_of
rises zero m n h = le_refl 1
rises (suc k) m n h = rises_step k m n (ltb m 128) refl h (rises k (m / 128) (n / 128) (omega arith))

pub size_rises : (m n : ℕ) → m ≤ n → length (varint_of m) ≤ length (varint_of n)
unfolding varint_of
size_rises m n h = rises 9 m n h

-- no number takes less than a byte
pub size_least : (n : ℕ) → 1 ≤ length (varint_of n)
unfolding varint_of
size_least n = least 9 n

-- numbers of so many groups of seven bits take at most so many bytes
below_step : (k j n : ℕ) (small : Bool) → ltb n 128 ≡ small → (128 ≤ n → length (digits_of k (n / 128)) ≤ j) → length (digits_of (suc k) n) ≤ suc j
below_step k j n true e more = omega (arith, step k n true e)
below_step k j n false e more = omega (arith, step k n false e, more (ltb-false n 128 e))

below : (k j n : ℕ) → n < 128 ^ suc j → length (digits_of k n) ≤ suc j
unfolding digits_of
below zero j n h = omega arith
below (suc k) zero n h = below_step k zero n (ltb n 128) refl (λ large. absurd (omega arith))
below (suc k) (suc j) n h = below_step k (suc j) n (ltb n 128) refl (λ large. below k j (n / 128) (omega (arith, pow-suc 128 (suc j))))

-- a number below 2 ^ 35 has at most five
pub size_35 : (n : ℕ) → n < 2 ^ 35 → length (varint_of n) ≤ 5
unfolding varint_of
size_35 n h = below 9 4 n (omega arith)
