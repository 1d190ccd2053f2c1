-- The bytes of a number, and its bits among another's. Assumes nothing.
use Rattle.numbers.proofs.Prelude.{ℕ, zero, suc, ◌+◌, ◌-◌, ◌*◌, ◌/◌, ◌%◌, ◌^◌, ◌≤◌, ◌<◌, lt-ltb, le-ltb, ltb, length, Bool, true, false, List, [], ◌∷◌, ◌≡◌, refl, sym, ap, ◌∙◌, mul_comm}
use Rattle.numbers.proofs.Prelude.{mul_assoc, add-mul, pow-suc, add-one, arith}
use Rattle.std.proofs.Common.{add_comm, div-add-mod'}
use native.Mathlib.Nat.{div-div-eq-div-mul}
use Rattle.numbers.specs.{Answer.{if◌then◌else◌}, Spelling.{digits_of, interleaved}}

pub split_weight : (j n : ℕ) → n % 128 * 128 ^ j + n / 128 * 128 ^ (j + 1) ≡ n * 128 ^ j
split_weight j n = let w = 128 ^ j in
    let e : n / 128 * 128 ^ (j + 1) ≡ n / 128 * 128 * w = rw (add-one j, pow-suc 128 j, mul_comm (128 ^ j) 128) (sym (mul_assoc (n / 128) 128 w)) in
    rw e (add_comm (n % 128 * w) (n / 128 * 128 * w) ∙ sym (add-mul (n / 128 * 128) (n % 128) w) ∙ ap (λ (x : ℕ). x * w) (div-add-mod' n 128))

-- what is left of a number's weight, a byte later
pub weight_later : (j n : ℕ) → n / 128 * 128 ^ (j + 1) ≤ n * 128 ^ j
weight_later j n = omega (arith, split_weight j n)

pub tenth : (j value n : ℕ) → j ≡ 9 → value + n * 128 ^ j < 2 ^ 64 → n < 128
tenth j value n e fits = let h : value + n * 128 ^ 9 < 2 ^ 64 = rw e at fits in omega arith

-- a step of the interleaving, from the highest bits down
pub interleaved_step : (k a b w : ℕ) → interleaved (suc k) (a / w) (b / w) ≡ a / w % 2 + b / w % 2 * 2 + interleaved k (a / (w * 2)) (b / (w * 2)) * 4
unfolding interleaved
interleaved_step k a b w = rw (div-div-eq-div-mul a w 2, div-div-eq-div-mul b w 2) (omega arith)

pub interleaved_small : (k a b : ℕ) → interleaved k a b < 4 ^ k
unfolding interleaved
interleaved_small zero a b = omega arith
interleaved_small (suc k) a b = omega (arith, pow-suc 4 k, interleaved_small k (a / 2) (b / 2))

-- ---- the bytes of a varint

pub digits_last : (k n : ℕ) → n < 128 → digits_of k n ≡ n ∷ []
unfolding digits_of
digits_last zero n h = refl
digits_last (suc k) n h = rw (lt-ltb n 128 h)

pub digits_next : (k n : ℕ) → 0 < k → 128 ≤ n → digits_of k n ≡ (128 + n % 128) ∷ digits_of (k - 1) (n / 128)
unfolding digits_of
digits_next zero n some h = absurd (omega arith)
digits_next (suc k) n some h = let e : suc k - 1 ≡ k = omega arith in rw (le-ltb n 128 h, e)

pub few : (t : Bool) (a b : List ℕ) (k : ℕ) → length a ≤ k → length b ≤ k → length (if t then a else b) ≤ k
few true a b k h g = h
few false a b k h g = g

pub digits_few : (k n : ℕ) → length (digits_of k n) ≤ k + 1
unfolding digits_of
digits_few zero n = omega arith
digits_few (suc k) n = few (ltb n 128) (n ∷ []) ((128 + n % 128) ∷ digits_of k (n / 128)) (suc k + 1) (omega arith) (omega (arith, digits_few k (n / 128)))
