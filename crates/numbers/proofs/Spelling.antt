-- What is written is read back: varints, signed numbers, and two numbers in one. Assumes nothing.
use Rattle.numbers.proofs.Prelude.{ℕ, zero, suc, ◌+◌, ◌-◌, ◌*◌, ◌/◌, ◌%◌, ◌^◌, ◌≤◌, ◌<◌, lt-ltb, le-ltb, ltb-true, ltb, lit≤, ℤ, pos, negsuc, ◌-ℤ◌, neg_ℤ, nat_abs, length, Bool, true, false}
use Rattle.numbers.proofs.{Prelude.{List, [], ◌∷◌, ◌≡◌, refl, sym, ap, ◌∙◌, pow-suc, arith}, write.Digits.{digits_last, digits_few, interleaved_small}}
use Rattle.numbers.specs.{Answer.{if◌then◌else◌}, Point.{low32, read_i32, half_of, signed_of, even_bits, point_of}, Spelling.{digits_of, varint_of, signed_form, interleaved, Whole, Put}}
use Rattle.numbers.specs.{Varint.{value_of, size_of}, declared.point.RawPoint.{RawPoint}}

-- ---- varints
pub varint_few : (n : ℕ) → length (varint_of n) ≤ 10
unfolding varint_of
varint_few n = digits_few 9 n

-- of a number below 128
pub varint_byte : (n : ℕ) → n < 128 → varint_of n ≡ n ∷ []
unfolding varint_of
varint_byte n h = digits_last 9 n h

-- a byte with a clear high bit is a whole number
pub one_byte : (b : ℕ) → b < 128 → Whole (b ∷ []) b
unfolding size_of value_of
one_byte b h = record { complete = rw (lt-ltb b 128 h); short = lit≤ tt; reads = rw (lt-ltb b 128 h) (omega arith) }

record Spelt (bytes : List ℕ) (n : ℕ) : Type 0 where
  complete : size_of bytes ≡ length bytes
  value : value_of bytes ≡ n

lone : (n : ℕ) → n < 128 → Spelt (n ∷ []) n
unfolding size_of value_of
lone n h = record { complete = rw (lt-ltb n 128 h); value = rw (lt-ltb n 128 h) (omega arith) }

longer : (n : ℕ) {rest : List ℕ} → Spelt rest (n / 128) → Spelt ((128 + n % 128) ∷ rest) n
unfolding size_of value_of
longer n {rest} s = let b = 128 + n % 128 in
    record { complete = rw (le-ltb b 128 (omega arith)) (omega (arith, s.complete)); value = rw (le-ltb b 128 (omega arith)) (omega (arith, s.value)) }

spelt : (k n : ℕ) → n < 128 ^ suc k → Spelt (digits_of k n) n
unfolding digits_of
spelt zero n h = lone n (omega (arith, pow-suc 128 0))
spelt (suc k) n h = go (ltb n 128) refl (spelt k (n / 128) (omega (arith, pow-suc 128 (suc k)))) where
  go : (t : Bool) → ltb n 128 ≡ t → Spelt (digits_of k (n / 128)) (n / 128) → Spelt (if t then (n ∷ []) else ((128 + n % 128) ∷ digits_of k (n / 128))) n
  go true e s = lone n (ltb-true n 128 e)
  go false e s = longer n s

pub varint_whole : (n : ℕ) → n < 2 ^ 64 → Whole (varint_of n) n
unfolding varint_of
varint_whole n h = let s = spelt 9 n (omega arith) in
    record { complete = s.complete; short = varint_few n; reads = ap (λ (v : ℕ). v % 2 ^ 64) s.value ∙ omega arith }

-- ---- signed numbers
even_half : (n : ℕ) → half_of (2 * n) ≡ pos n
even_half n = let e : 2 * n % 2 ≡ 0 = omega arith in let h : 2 * n / 2 ≡ n = omega arith in rw (e, h)

odd_half : (n : ℕ) → half_of (2 * n + 1) ≡ neg_ℤ (pos n)
odd_half n = let e : (2 * n + 1) % 2 ≡ 1 = omega arith in let h : (2 * n + 1) / 2 ≡ n = omega arith in rw (e, h)

low_back : (z : ℤ) → nat_abs z < 2 ^ 31 → read_i32 (low32 z) ≡ z
low_back (pos n) h = let e : n % 2 ^ 32 ≡ n = omega arith in rw (e, lt-ltb n (2 ^ 31) h)
low_back (negsuc n) h = let e : n % 2 ^ 32 ≡ n = omega arith in let m = 2 ^ 32 - 1 - n in rw (e, le-ltb m (2 ^ 31) (omega arith)) (below n (omega arith)) where
  below : (n : ℕ) → n < 2 ^ 31 → pos (2 ^ 32 - 1 - n) -ℤ pos (2 ^ 32) ≡ negsuc n
  below n h = rw (lt-ltb (2 ^ 32 - 1 - n) (2 ^ 32) (omega arith)) (ap negsuc (omega arith))

pub even_back : (n : ℕ) → n < 2 ^ 31 → signed_of (2 * n) ≡ pos n
unfolding signed_of
even_back n h = ap (λ (z : ℤ). read_i32 (low32 z)) (even_half n) ∙ low_back (pos n) h

size_negative : (n : ℕ) → nat_abs (neg_ℤ (pos n)) ≡ n
size_negative zero = refl
size_negative (suc n) = refl

pub odd_back : (n : ℕ) → n < 2 ^ 31 → signed_of (2 * n + 1) ≡ neg_ℤ (pos n)
unfolding signed_of
odd_back n h = ap (λ (z : ℤ). read_i32 (low32 z)) (odd_half n) ∙ low_back (neg_ℤ (pos n)) (omega (arith, size_negative n))

pub signed_back : (z : ℤ) → nat_abs z < 2 ^ 31 → signed_of (signed_form z) ≡ z
unfolding signed_form
signed_back (pos n) h = even_back n h
signed_back (negsuc n) h = odd_back (suc n) h

pub form_positive : (n : ℕ) → signed_form (pos n) ≡ 2 * n
unfolding signed_form
form_positive n = refl

pub form_negative : (n : ℕ) → signed_form (negsuc n) ≡ 2 * suc n + 1
unfolding signed_form
form_negative n = refl

-- the signed form says the number
pub form_one : (a b : ℤ) → signed_form a ≡ signed_form b → a ≡ b
unfolding signed_form
form_one (pos a) (pos b) e = ap pos (omega arith)
form_one (pos a) (negsuc b) e = absurd (omega arith)
form_one (negsuc a) (pos b) e = absurd (omega arith)
form_one (negsuc a) (negsuc b) e = ap negsuc (omega arith)

pub signed_small : (z : ℤ) → nat_abs z < 2 ^ 31 → signed_form z < 2 ^ 32
unfolding signed_form
signed_small (pos n) h = omega arith
signed_small (negsuc n) h = omega arith

-- ---- interleaved bits
even_bits_lem : (k a b : ℕ) → a < 2 ^ k → even_bits k (interleaved k a b) ≡ a
unfolding even_bits interleaved
even_bits_lem zero a b h = omega arith
even_bits_lem (suc k) a b h = let i = interleaved k (a / 2) (b / 2) in let v = a % 2 + 2 * (b % 2) + 4 * i in let e : v / 4 ≡ i = omega arith in
    let r : even_bits k (v / 4) ≡ a / 2 = ap (even_bits k) e ∙ even_bits_lem k (a / 2) (b / 2) (omega (arith, pow-suc 2 k)) in rw r (omega arith)

odd_bits : (k a b : ℕ) → b < 2 ^ k → even_bits k (interleaved k a b / 2) ≡ b
unfolding even_bits interleaved
odd_bits zero a b h = omega arith
odd_bits (suc k) a b h = let i = interleaved k (a / 2) (b / 2) in let v = (a % 2 + 2 * (b % 2) + 4 * i) / 2 in let e : v / 4 ≡ i / 2 = omega arith in
    let r : even_bits k (v / 4) ≡ b / 2 = ap (even_bits k) e ∙ odd_bits k (a / 2) (b / 2) (omega (arith, pow-suc 2 k)) in rw r (omega arith)

-- ---- points
pub point_zero : point_of 0 ≡ record { lat = pos 0; lon = pos 0 }
unfolding point_of signed_of even_bits
point_zero = refl

-- the number of a point whose numbers are below 2 ^ 31 in size
pub point_back : (by : RawPoint) → nat_abs by.lat < 2 ^ 31 → nat_abs by.lon < 2 ^ 31 → point_of (interleaved 32 (signed_form by.lat) (signed_form by.lon)) ≡ by
unfolding point_of
point_back by h k =
    rw (
      even_bits_lem 32 (signed_form by.lat) (signed_form by.lon) (signed_small by.lat h),
      odd_bits 32 (signed_form by.lat) (signed_form by.lon) (signed_small by.lon k),
      signed_back by.lat h,
      signed_back by.lon k,
    )

pub point_small : (a b : ℕ) → interleaved 32 a b < 2 ^ 64
point_small a b = interleaved_small 32 a b

-- ---- the same reply: `write_varint` fixes its answer and the whole buffer
pub same_put : {before bytes after after' : List ℕ} {place size size' : ℕ} → Put before place bytes after size → Put before place bytes after' size' → (size ≡ size') × (after ≡ after')
same_put p q = (p.counted ∙ sym q.counted, p.stored ∙ sym q.stored)
