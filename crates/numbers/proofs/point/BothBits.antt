-- A number of at most 32 bits, with its half above it in one word: one pass finds the even bits of both. A wider number is two such. Assumes nothing.
use Rattle.numbers.proofs.{Prelude.{ℕ, zero, suc, ◌+◌, ◌*◌, ◌/◌, ◌%◌, ◌^◌, ◌<◌, ◌≡◌, refl, sym, ap, ◌∙◌, mul_assoc, pow-suc, arith}, point.Joined.{even_lt, even_add}}
use Rattle.std.proofs.Common.{ap₂, zero-add}
use Rattle.numbers.specs.Point.{even_bits, both_bits}

-- what stands above the last even bit does not matter
even_low : (k high low : ℕ) → even_bits (suc k) (high * (2 * 4 ^ k) + low) ≡ even_bits (suc k) low
unfolding even_bits
even_low zero high low = omega arith
even_low (suc k) high low =
    let grown : high * (2 * 4 ^ suc k) ≡ high * (2 * 4 ^ k) * 4 = ap (λ (n : ℕ). high * (2 * n)) (pow-suc 4 k) ∙ ap (λ (n : ℕ). high * n) (sym (mul_assoc 2 (4 ^ k) 4))
    ∙ sym (mul_assoc high (2 * 4 ^ k) 4) in
    let quarter : (high * (2 * 4 ^ suc k) + low) / 4 ≡ high * (2 * 4 ^ k) + low / 4 = omega (arith, grown) in
    ap₂ (λ (a b : ℕ). a + 2 * b) (omega (arith, grown)) (ap (even_bits (suc k)) quarter ∙ even_low k high (low / 4))

none_in_zero : even_bits 16 0 ≡ 0
unfolding even_bits
none_in_zero = refl

-- a number of 32 bits has no even bits above its low 16
even_short : (w : ℕ) → w < 2 ^ 32 → even_bits 32 w ≡ even_bits 16 w
even_short w short = let none : w / 2 ^ 32 ≡ 0 = omega arith in
    even_add 16 16 w ∙ ap (λ (n : ℕ). n * 2 ^ 16 + even_bits 16 w) (ap (even_bits 16) none ∙ none_in_zero) ∙ zero-add (even_bits 16 w)

short_bits : (w : ℕ) → w < 2 ^ 32 → even_bits 32 w < 2 ^ 16
short_bits w short = rw (even_short w short) (even_lt 16 w)

-- the even bits of a word are those of its halves
halves : (high low : ℕ) → low < 2 ^ 32 → high < 2 ^ 32 → even_bits 32 (high * 2 ^ 32 + low) ≡ even_bits 32 high * 2 ^ 16 + even_bits 32 low
halves high low l h = let top : (high * 2 ^ 32 + low) / 2 ^ 32 ≡ high = omega arith in
    let word : high * 2 ^ 32 + low ≡ (2 * high) * (2 * 4 ^ 15) + low = omega arith in
    even_add 16 16 (high * 2 ^ 32 + low)
    ∙ ap₂ (λ (a b : ℕ). a * 2 ^ 16 + b) (ap (even_bits 16) top ∙ sym (even_short high h)) (ap (even_bits 16) word ∙ even_low 15 (2 * high) low ∙ sym (even_short low l))

pub low_of_both : (w : ℕ) → both_bits w % 2 ^ 32 ≡ even_bits 32 w
low_of_both w = omega (arith, even_lt 32 w)

pub high_of_both : (w : ℕ) → both_bits w / 2 ^ 32 ≡ even_bits 32 (w / 2)
high_of_both w = omega (arith, even_lt 32 w)

pub both_fits : (w : ℕ) → both_bits w < 2 ^ 64
both_fits w = omega (arith, even_lt 32 w, even_lt 32 (w / 2))

-- what one pass over both computes
pub both_at_once : (w : ℕ) → w < 2 ^ 32 → (even_bits 32 (w / 2 * 2 ^ 32 + w) % 2 ^ 16) + (even_bits 32 (w / 2 * 2 ^ 32 + w) / 2 ^ 16) * 2 ^ 32 ≡ both_bits w
both_at_once w short = let e = halves (w / 2) w short (omega arith) in rw e (omega (arith, short_bits w short, short_bits (w / 2) (omega arith)))

-- the odd bits of a word, in the same way
odd_halves : (w : ℕ) → w < 2 ^ 64 → even_bits 32 (w / 2) ≡ even_bits 32 (w / 2 ^ 32 / 2) * 2 ^ 16 + even_bits 32 (w % 2 ^ 32 / 2)
odd_halves w fits = let top : w / 2 / 2 ^ 32 ≡ w / 2 ^ 32 / 2 = omega arith in let word : w / 2 ≡ (w / 2 ^ 32) * (2 * 4 ^ 15) + w % 2 ^ 32 / 2 = omega arith in
    even_add 16 16 (w / 2) ∙ ap₂ (λ (a b : ℕ). a * 2 ^ 16 + b) (ap (even_bits 16) top ∙ sym (even_short (w / 2 ^ 32 / 2) (omega arith))) (ap (even_bits 16) word
    ∙ even_low 15 (w / 2 ^ 32) (w % 2 ^ 32 / 2) ∙ sym (even_short (w % 2 ^ 32 / 2) (omega arith)))

pub by_halves : (w : ℕ) → w < 2 ^ 64 → both_bits (w % 2 ^ 32) + both_bits (w / 2 ^ 32) * 2 ^ 16 ≡ both_bits w
by_halves w fits = let word : w ≡ (w / 2 ^ 32) * 2 ^ 32 + w % 2 ^ 32 = omega arith in
    let even = ap (even_bits 32) word ∙ halves (w / 2 ^ 32) (w % 2 ^ 32) (omega arith) (omega arith) in omega (arith, even, odd_halves w fits)

-- ---- 32 bits at a time
-- where the loop stands: before the low half, or before the high half
pub data Stands (w both rest place : ℕ) : Type 0 where
  at_low : both ≡ 0 → rest ≡ w → place ≡ 0 → Stands w both rest place
  at_high : both ≡ both_bits (w % 2 ^ 32) → rest ≡ w / 2 ^ 32 → place ≡ 16 → Stands w both rest place

pub place_small : {w both rest place : ℕ} → Stands w both rest place → place < 17
place_small (at_low b r p) = omega (arith, p)
place_small (at_high b r p) = omega (arith, p)

-- a half that is added at its place
abbrev pub added : ℕ → ℕ → ℕ → ℕ
added both got place = both + got * 2 ^ place % 2 ^ 64

module _ (w both rest place got : ℕ) (fits : w < 2 ^ 64) (is : got ≡ both_bits (rest % 2 ^ 32)) where
  low_added : both ≡ 0 → rest ≡ w → place ≡ 0 → added both got place ≡ both_bits (w % 2 ^ 32)
  low_added b r p = let e : got ≡ both_bits (w % 2 ^ 32) = is ∙ ap (λ (n : ℕ). both_bits (n % 2 ^ 32)) r in rw (b, p) (omega (arith, e, both_fits (w % 2 ^ 32)))

  high_added : both ≡ both_bits (w % 2 ^ 32) → rest ≡ w / 2 ^ 32 → place ≡ 16 → added both got place ≡ both_bits w
  high_added b r p = let half : rest % 2 ^ 32 ≡ w / 2 ^ 32 = omega (arith, r) in let e : got ≡ both_bits (w / 2 ^ 32) = is ∙ ap both_bits half in
      rw (b, p) (omega (arith, e, by_halves w fits, both_fits w))

  pub added_fits : Stands w both rest place → added both got place < 2 ^ 64
  added_fits (at_low b r p) = rw (low_added b r p) (both_fits (w % 2 ^ 32))
  added_fits (at_high b r p) = rw (high_added b r p) (both_fits w)

  pub added_last : Stands w both rest place → rest / 2 ^ 32 ≡ 0 → added both got place ≡ both_bits w
  added_last (at_low b r p) none = low_added b r p ∙ ap both_bits (omega (arith, r, none))
  added_last (at_high b r p) none = high_added b r p

  pub goes_on : Stands w both rest place → (rest / 2 ^ 32 ≡ 0 → ⊥) → Stands w (added both got place) (rest / 2 ^ 32) (place + 16)
  goes_on (at_low b r p) more = at_high (low_added b r p) (ap (λ (n : ℕ). n / 2 ^ 32) r) (omega (arith, p))
  goes_on (at_high b r p) more = absurd (more (omega (arith, r)))

pub smaller : (rest : ℕ) → (rest / 2 ^ 32 ≡ 0 → ⊥) → rest / 2 ^ 32 < rest
smaller rest more = omega arith
