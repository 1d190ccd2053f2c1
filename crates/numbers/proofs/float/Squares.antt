-- Squares of whole numbers, and that `whole_root` and `nearest_root` are what they are called. Nothing here is about floats. Assumes nothing.
use Rattle.numbers.proofs.Prelude.{ℕ, zero, suc, ◌+◌, ◌*◌, ◌/◌, ◌^◌, ◌≤◌, ◌<◌, ltb, leb, T, lit<, Bool, true, false, not, cond, ◌⊎◌, inl, inr, ◌≡◌, sym, ap, subst, ◌∙◌, le_trans, le_of_lt}
use Rattle.numbers.proofs.Prelude.{le_of_eq, lt_of_le_of_lt, not-le_of_lt, mul_assoc, zero-mul, add-mul, mul-le-mul, mul-le-mul_right, pow-suc, div-lt_iff_lt-mul, add-one, arith}
use Rattle.std.proofs.Common.{le_of_suc-le-suc, eq-zero-or-pos, le_antisymm, mul-le-mul_left, mul-lt-mul_of_pos_right, lt_of_not-le, mul-add, mul_left_comm, ltb→lt, leb→le, nltb→le}
use lib.Dec.{nleb→lt}
use Rattle.numbers.specs.Float.Root.{whole_root, nearest_root}

pub le_or_lt : (a b : ℕ) → (a ≤ b) ⊎ (b < a)
le_or_lt a b = go (leb a b) (leb→le a b) (nleb→lt a b) where
  go : (t : Bool) → (T t → a ≤ b) → (T (not t) → b < a) → (a ≤ b) ⊎ (b < a)
  go true h k = inl (h tt)
  go false h k = inr (k tt)

-- ---- squares keep the order, both ways
pub square_le : {a b : ℕ} → a ≤ b → a * a ≤ b * b
square_le h = mul-le-mul h h

pub square_lt : {a b : ℕ} → a < b → a * a < b * b
square_lt {a} {b} h = lt_of_le_of_lt (mul-le-mul_left a (le_of_lt h)) (mul-lt-mul_of_pos_right h (lt_of_le_of_lt zero≤ h)) where
  zero≤ : 0 ≤ a
  zero≤ = omega arith

pub of_square_lt : {a b : ℕ} → a * a < b * b → a < b
of_square_lt h = lt_of_not-le (λ g. not-le_of_lt h (square_le g))

pub next_square : (r : ℕ) → (r + 1) * (r + 1) ≡ r * r + 2 * r + 1
next_square r = let p = add-mul r 1 (r + 1) in let q = mul-add r r 1 in omega arith

pub twice_square : (a : ℕ) → 2 * a * (2 * a) ≡ 4 * (a * a)
twice_square a = mul_assoc 2 a (2 * a) ∙ ap (λ (x : ℕ). 2 * x) (mul_left_comm a 2 a) ∙ twice (a * a) where
  twice : (x : ℕ) → 2 * (2 * x) ≡ 4 * x
  twice x = omega arith

pub odd_square : (a : ℕ) → (2 * a + 1) * (2 * a + 1) ≡ 4 * (a * a) + 4 * a + 1
odd_square a = let p = next_square (2 * a) in let q = twice_square a in omega arith

-- ---- the whole part of a root
abbrev pub IsRoot : ℕ → ℕ → Type 0
IsRoot n r = (r * r ≤ n) × (n < (r + 1) * (r + 1))

le_root : {n r s : ℕ} → IsRoot n r → IsRoot n s → r ≤ s
le_root {n} {r} {s} h k = under (of_square_lt (lt_of_le_of_lt h.0 k.1)) where
  under : r < s + 1 → r ≤ s
  under l = omega arith

pub one_root : {n r s : ℕ} → IsRoot n r → IsRoot n s → r ≡ s
one_root h k = le_antisymm (le_root h k) (le_root k h)

-- one digit more: q is the root of n / 4, and r = 2 * q
two_digits : (n q : ℕ) → IsRoot (n / 4) q → (2 * q * (2 * q) ≤ n) × (n < (2 * q + 2) * (2 * q + 2))
two_digits n q h = (le_trans (le_of_eq (twice_square q)) (low (q * q) h.0), subst (λ (x : ℕ). n < x) (sym (four_next q)) (high ((q + 1) * (q + 1)) h.1)) where
  four_next : (a : ℕ) → (2 * a + 2) * (2 * a + 2) ≡ 4 * ((a + 1) * (a + 1))
  four_next a = ap (λ (x : ℕ). x * x) (even a) ∙ twice_square (a + 1) where
    even : (a : ℕ) → 2 * a + 2 ≡ 2 * (a + 1)
    even a = omega arith

  low : (x : ℕ) → x ≤ n / 4 → 4 * x ≤ n
  low x l = omega arith

  high : (x : ℕ) → n / 4 < x → n < 4 * x
  high x l = omega arith

pub whole_root_is : (d n : ℕ) → n < 4 ^ d → IsRoot n (whole_root d n)
unfolding whole_root
whole_root_is zero n h = (nothing n, h) where
  nothing : (n : ℕ) → 0 ≤ n
  nothing n = omega arith
whole_root_is (suc d) n h = go (whole_root d (n / 4)) (whole_root_is d (n / 4) ((div-lt_iff_lt-mul (lit< tt)).1 (subst (λ (x : ℕ). n < x) (pow-suc 4 d) h))) where
  pick : (r : ℕ) (b : Bool) → (T b → suc r * suc r ≤ n) → (T (not b) → n < suc r * suc r) → (r * r ≤ n) → (n < (r + 2) * (r + 2)) → IsRoot n (cond b (suc r) r)
  pick r true on off lo hi = (on tt, subst (λ (x : ℕ). n < x * x) (step r) hi) where
    step : (r : ℕ) → r + 2 ≡ suc r + 1
    step r = omega arith
  pick r false on off lo hi = (lo, subst (λ (x : ℕ). n < x * x) (sym (add-one r)) (off tt))

  go : (q : ℕ) → IsRoot (n / 4) q → IsRoot n (cond (leb (suc (2 * q) * suc (2 * q)) n) (suc (2 * q)) (2 * q))
  go q ih = let t = two_digits n q ih in
      pick (2 * q) (leb (suc (2 * q) * suc (2 * q)) n) (leb→le (suc (2 * q) * suc (2 * q)) n) (nleb→lt (suc (2 * q) * suc (2 * q)) n) t.0 t.1

-- ---- the nearest whole number: (r - 1/2) ^ 2 < n < (r + 1/2) ^ 2
pub record IsNearest (n r : ℕ) : Type 0 where
  pub low : r * r < n + r
  pub high : n ≤ r * r + r

pub nearest_is : (n r : ℕ) → 0 < n → IsRoot n r → IsNearest n (cond (ltb (r * r + r) n) (suc r) r)
nearest_is n r P h = go (ltb (r * r + r) n) (ltb→lt (r * r + r) n) (nltb→le (r * r + r) n) where
  not_zero : r * r ≤ n → n ≤ r * r + r → r * r < n + r
  not_zero lo hi = elim (eq-zero-or-pos r) [ inl e ↦ subst (λ (x : ℕ). x * r < n + r) (sym e) (subst (λ (x : ℕ). x < n + r) (sym (zero-mul r)) (omega arith)) | inr p ↦ omega arith ]

  go : (b : Bool) → (T b → r * r + r < n) → (T (not b) → n ≤ r * r + r) → IsNearest n (cond b (suc r) r)
  go true on off = let e : suc r * suc r ≡ r * r + 2 * r + 1 = ap (λ (x : ℕ). x * x) (sym (add-one r)) ∙ next_square r in let l = h.1 in
      let s = next_square r in let y = on tt in record { low = omega arith; high = omega arith }
  go false on off = record { low = not_zero h.0 (off tt); high = off tt }

le_nearest : {n r s : ℕ} → IsNearest n r → IsNearest n s → r ≤ s
le_nearest {n} {r} {s} h k = elim (le_or_lt r s) [ inl g ↦ g | inr g ↦ absurd (over g) ] where
  over : s < r → ⊥
  over l = let g : s + 1 ≤ r = omega arith in let p : (s + 1) * s ≤ r * s = mul-le-mul_right s g in let q : r * (s + 1) ≤ r * r = mul-le-mul_left r g in
      omega (arith, add-mul s 1 s, mul-add r s 1, h.low, k.high)

pub one_nearest : {n r s : ℕ} → IsNearest n r → IsNearest n s → r ≡ s
one_nearest h k = le_antisymm (le_nearest h k) (le_nearest k h)

pub nearest_root_is : (n : ℕ) → 0 < n → n < 2 ^ 48 → IsNearest n (nearest_root n)
unfolding nearest_root
nearest_root_is n P h = nearest_is n (whole_root 24 n) P (whole_root_is 24 n h)

-- 47 or 48 digits have a root of 24, or of 2 ^ 24
pub nearest_range : (n r : ℕ) → 2 ^ 46 ≤ n → n < 2 ^ 48 → IsNearest n r → (2 ^ 23 ≤ r) × (r ≤ 2 ^ 24)
nearest_range n r lo hi h = (
  le_of_suc-le-suc (of_square_lt (lt_of_le_of_lt lo (lt_of_le_of_lt h.high (subst (λ (x : ℕ). r * r + r < x) (sym (square_suc r)) (more (r * r)))))),
  le_of_suc-le-suc (lt_of_not-le (λ (g : 16777217 ≤ r). large g)),
) where
  square_suc : (r : ℕ) → suc r * suc r ≡ r * r + 2 * r + 1
  square_suc r = ap (λ (x : ℕ). x * x) (sym (add-one r)) ∙ next_square r

  more : (x : ℕ) → x + r < x + 2 * r + 1
  more x = omega arith

  large : 16777217 ≤ r → ⊥
  large g = let p : 16777217 * r ≤ r * r = mul-le-mul_right r g in let q = h.low in omega arith
