-- A text's bytes XOR 0x80, twice. Assumes nothing.
use Rattle.numbers.proofs.Prelude.{ℕ, zero, suc, ◌/◌, ◌%◌, ◌≤◌, ◌<◌, le-leb, lt-leb, length, take, length-map, take_at, Bool, false, List, [], ◌∷◌, map, ◌≡◌, refl, sym, ap, ◌∙◌, le_refl, arith}
use lib.Bits.{bit_xor, differ, xor_step, xor_self}
use Rattle.writer.{proofs.Stores.{stored_front}, specs.inner.Stored.{Stored}}
use Rattle.header.specs.Utf8.{unmasked, is_utf8}
use Rattle.builder.specs.File.{is_text}

bit : (x y : ℕ) → x < 2 → y < 2 → (differ x y < 2) × (differ (differ x y) y ≡ x)
bit zero zero h k = (omega arith, refl)
bit zero (suc zero) h k = (omega arith, refl)
bit zero (suc (suc y)) h k = absurd (omega arith)
bit (suc zero) zero h k = (omega arith, refl)
bit (suc zero) (suc zero) h k = (omega arith, refl)
bit (suc zero) (suc (suc y)) h k = absurd (omega arith)
bit (suc (suc x)) y h k = absurd (omega arith)

halves : (n b : ℕ) → bit_xor (bit_xor (n / 2) (b / 2)) (b / 2) ≡ n / 2 → bit_xor (bit_xor n b) b ≡ n
halves n b e = let d = bit (n % 2) (b % 2) (omega arith) (omega arith) in let s = xor_step n b in
    let high : bit_xor n b / 2 ≡ bit_xor (n / 2) (b / 2) = omega (arith, s, d.0) in let low : bit_xor n b % 2 ≡ differ (n % 2) (b % 2) = omega (arith, s, d.0) in
    let one : bit_xor (bit_xor n b / 2) (b / 2) ≡ n / 2 = rw high e in let two : differ (bit_xor n b % 2) (b % 2) ≡ n % 2 = rw low d.1 in
    xor_step (bit_xor n b) b ∙ omega (arith, one, two)

twice_within : (k n b : ℕ) → n ≤ k → bit_xor (bit_xor n b) b ≡ n
twice_within zero n b h = let e : n ≡ 0 = omega arith in rw e (xor_self b)
twice_within (suc k) n b h = halves n b (twice_within k (n / 2) (b / 2) (omega arith))

xor_twice : (a b : ℕ) → bit_xor (bit_xor a b) b ≡ a
xor_twice a b = twice_within a a b (le_refl a)

pub unmask_twice : (bytes : List ℕ) → map unmasked (map unmasked bytes) ≡ bytes
unmask_twice [] = refl
unmask_twice (b ∷ bytes) = rw (xor_twice b 0x80) (ap (λ (l : List ℕ). b ∷ l) (unmask_twice bytes))

-- ---- whether it is a text
pub too_long : (text : List ℕ) → 255 < length text → false ≡ is_text text
unfolding is_text
too_long text h = rw (lt-leb (length text) 255 h)

module _ (text room stored : List ℕ) (next : ℕ) (s : Stored room 0 (map unmasked text) stored next) (big : length room ≡ 255) (h : length text ≤ 255) where
  mapped : length (map unmasked text) ≡ length text
  mapped = length-map text unmasked

  pub masked_front : take (length text) stored ≡ map unmasked text
  masked_front = ap (take (length text)) (stored_front room (map unmasked text) stored next s (omega (arith, mapped))) ∙ take_at (map unmasked text) _ (length text) mapped

  pub masked_size : length text ≡ length (take (length text) stored)
  masked_size = sym (ap length masked_front ∙ mapped)

  pub text_tested : (r : Bool) → r ≡ is_utf8 (map unmasked (take (length text) stored)) → r ≡ is_text text
  unfolding is_text
  text_tested r e = e ∙ ap is_utf8 (ap (map unmasked) masked_front ∙ unmask_twice text) ∙ rw (le-leb (length text) 255 h) refl
