-- An i32 by the word of its bits: read back, and that what is read fits. Assumes nothing.
use Rattle.numbers.proofs.Prelude.{ℕ, suc, ◌-◌, ◌*◌, ◌/◌, ◌%◌, ◌^◌, ◌<◌, eq-eqb, lt-ltb, le-ltb, ltb-true, ltb-false, ltb, ℤ, pos, negsuc, ◌-ℤ◌, Bool, true, false, ◌≡◌, refl, ap, w32, SFits}
use Rattle.numbers.proofs.Prelude.{of_z, arith}
use Rattle.numbers.specs.{Answer.{if◌then◌else◌}, Point.{low32, read_i32, half_of, signed_of}}

pub below : (n : ℕ) → n < 2 ^ 32 → pos n -ℤ pos (2 ^ 32) ≡ negsuc (2 ^ 32 - 1 - n)
below n h = rw (lt-ltb n (2 ^ 32) h) (ap negsuc (omega arith))

-- a coordinate is known by its bits
pub read_back : (z : ℤ) → SFits w32 z → read_i32 (of_z w32 z) ≡ z
read_back (pos n) h = rw (lt-ltb n (2 ^ 31) h.sfits)
read_back (negsuc n) h = let m = 2 ^ 32 - suc n in rw (le-ltb m (2 ^ 31) (omega (arith, h.sfits)), below m (omega arith)) (ap negsuc (omega (arith, h.sfits)))

-- twice its word is its signed form
pub twice_read : (word : ℕ) → word < 2 ^ 32 → signed_of (2 * word) ≡ read_i32 word
unfolding signed_of
twice_read word h = let even : 2 * word % 2 ≡ 0 = omega arith in let half : 2 * word / 2 ≡ word = omega arith in let low : word % 2 ^ 32 ≡ word = omega arith in
    rw (eq-eqb (2 * word % 2) 0 even, half, low)

-- what is read fits
read_fits : (bits : ℕ) → bits < 2 ^ 32 → SFits w32 (read_i32 bits)
read_fits bits h = go (ltb bits (2 ^ 31)) refl where
  go : (test : Bool) → ltb bits (2 ^ 31) ≡ test → SFits w32 (if test then pos bits else (pos bits -ℤ pos (2 ^ 32)))
  go true e = record { sfits = ltb-true bits (2 ^ 31) e }
  go false e = rw (below bits h) (record { sfits = omega (arith, ltb-false bits (2 ^ 31) e, h) })

low_small : (z : ℤ) → low32 z < 2 ^ 32
low_small (pos n) = omega arith
low_small (negsuc n) = omega arith

pub signed_fits : (value : ℕ) → SFits w32 (signed_of value)
unfolding signed_of
signed_fits value = read_fits (low32 (half_of value)) (low_small (half_of value))
