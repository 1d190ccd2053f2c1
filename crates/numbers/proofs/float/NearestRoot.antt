-- `root` is the square root rounded to the nearest f32 (`root_nearest`), and only one f32 is nearest (`one_nearest`). Assumes nothing.
use Rattle.numbers.proofs.Prelude.{ℕ, zero, suc, ◌+◌, ◌-◌, ◌*◌, ◌/◌, ◌^◌, ◌≤◌, ◌<◌, T, lit<, Float, binary32, of_bits, pow_pos, pow_mono, pow-add, false, inl, inr, ◌≡◌, refl, sym, ap, subst}
use Rattle.numbers.proofs.Prelude.{◌∙◌, le_trans, le_of_lt, le_of_eq, lt_of_le_of_lt, lt_of_lt_of_le, not-le_of_lt, mul_assoc, add-mul, mul-pos, mul-le-mul_right, arith}
use Rattle.numbers.proofs.float.{Rounding.{no_overflow, units_fits, bits_of_value}, Smallest.{shape, decoded, value_units, even, square_whole, root_by_digits}}
use Rattle.numbers.proofs.float.Squares.{le_or_lt, square_le, square_lt, of_square_lt, next_square, twice_square, odd_square, IsNearest, nearest_root_is, nearest_range}
use Rattle.std.proofs.Common.{le_of_suc-le-suc, add_comm, lt_of_mul-lt-mul_right, eq-or-lt_of_le, mul-le-mul_left, mul-lt-mul_of_pos_right}
use native.Mathlib.Nat.{mul-mul-mul_comm}
use lib.{Ieee.{size, units, fits, Bits.{of_bits-to_bits}, Digits.{back}, Exact.{HasValue, units_val}, Positive.{positive, first_pos, positive_of_value}}, Pow.{shl_lt}}
use Rattle.numbers.specs.Float.Root.{units_of, nearest_root, root, NearestTo√}

-- ---- the f32 around R * 2 ^ k, for an R of 24 digits, are no closer than 2 ^ k
multiple : (c i k : ℕ) → k ≤ i → c * 2 ^ i ≡ c * 2 ^ (i - k) * 2 ^ k
multiple c i k h = ap (λ (x : ℕ). c * x) (ap (λ (x : ℕ). 2 ^ x) (sym (back i k h)) ∙ pow-add 2 (i - k) k) ∙ sym (mul_assoc c (2 ^ (i - k)) (2 ^ k))

below_grid : (c i R k : ℕ) → c < 2 ^ 24 → 2 ^ 23 ≤ R → i < k → c * 2 ^ i < R * 2 ^ k
below_grid c i R k h r l = lt_of_lt_of_le (shl_lt 24 i h) (le_trans (pow_mono (next i k l)) (le_trans (le_of_eq (pow-add 2 23 k)) (mul-le-mul_right (2 ^ k) r))) where
  next : (i k : ℕ) → i < k → 24 + i ≤ 23 + k
  next i k h = omega arith

step_below : (c i R k : ℕ) → c < 2 ^ 24 → 2 ^ 23 ≤ R → c * 2 ^ i < suc R * 2 ^ k → c * 2 ^ i ≤ R * 2 ^ k
step_below c i R k h r l =
    elim (le_or_lt k i) [
      | inl g ↦
          le_trans (le_of_eq (multiple c i k g))
          (mul-le-mul_right (2 ^ k) (le_of_suc-le-suc (lt_of_mul-lt-mul_right (2 ^ k) (subst (λ (x : ℕ). x < suc R * 2 ^ k) (multiple c i k g) l))))
      | inr g ↦ le_of_lt (below_grid c i R k h r g)
    ]

step_above : (c i R k : ℕ) → c < 2 ^ 24 → 2 ^ 23 ≤ R → R * 2 ^ k < c * 2 ^ i → suc R * 2 ^ k ≤ c * 2 ^ i
step_above c i R k h r l =
    elim (le_or_lt k i) [
      | inl g ↦ le_trans (mul-le-mul_right (2 ^ k) (lt_of_mul-lt-mul_right (2 ^ k) (subst (λ (x : ℕ). R * 2 ^ k < x) (multiple c i k g) l))) (le_of_eq (sym (multiple c i k g)))
      | inr g ↦ absurd (not-le_of_lt (below_grid c i R k h r g) (le_of_lt l))
    ]

-- ---- squares of numbers near z * A, against 4 * M * A ^ 2
scaled : (z A : ℕ) → z * A * (z * A) ≡ z * z * (A * A)
scaled z A = mul-mul-mul_comm z A z A

four_out : (M A : ℕ) → 4 * (M * (A * A)) ≡ 4 * M * (A * A)
four_out M A = sym (mul_assoc 4 M (A * A))

square_under : (u z M A : ℕ) → 0 < A → u ≤ z * A → z * z < 4 * M → u * u < 4 * (M * (A * A))
square_under u z M A P h l =
    lt_of_le_of_lt (le_trans (square_le h) (le_of_eq (scaled z A))) (subst (λ (x : ℕ). z * z * (A * A) < x) (sym (four_out M A)) (mul-lt-mul_of_pos_right l (mul-pos P P)))

square_beneath : (u z M A : ℕ) → u < z * A → z * z ≤ 4 * M → u * u < 4 * (M * (A * A))
square_beneath u z M A h l =
    lt_of_lt_of_le (square_lt h) (le_trans (le_of_eq (scaled z A)) (le_trans (mul-le-mul_right (A * A) l) (le_of_eq (sym (four_out M A)))))

square_over : (u z M A : ℕ) → 0 < A → z * A ≤ u → 4 * M < z * z → 4 * (M * (A * A)) < u * u
square_over u z M A P h l =
    lt_of_lt_of_le (subst (λ (x : ℕ). x < z * z * (A * A)) (sym (four_out M A)) (mul-lt-mul_of_pos_right l (mul-pos P P))) (le_trans (le_of_eq (sym (scaled z A))) (square_le h))

-- ---- R is the whole number nearest to √M, and Y any f32, counted in the smallest one: the middle of Y and R * 2 ^ k is on Y's side of √M * 2 ^ k
middle_sum : (R A : ℕ) → R * A + suc R * A ≡ (2 * R + 1) * A
middle_sum R A = sym (add-mul R (suc R) A) ∙ ap (λ (x : ℕ). x * A) (both R) where
  both : (R : ℕ) → R + suc R ≡ 2 * R + 1
  both R = omega arith

double : (R A : ℕ) → R * A + R * A ≡ 2 * R * A
double R A = sym (add-mul R R A) ∙ ap (λ (x : ℕ). x * A) (both R) where
  both : (R : ℕ) → R + R ≡ 2 * R
  both R = omega arith

module _ (M R k : ℕ) (near : IsNearest M R) (least : 2 ^ 46 ≤ M) (c i : ℕ) (small : c < 2 ^ 24) where
  -- R was rounded up, to suc Q
  up_below : (Q : ℕ) → R ≡ suc Q → M < R * R → c * 2 ^ i < R * 2 ^ k → (c * 2 ^ i + R * 2 ^ k) * (c * 2 ^ i + R * 2 ^ k) < 4 * (M * (2 ^ k * 2 ^ k))
  up_below Q e g l = let A = 2 ^ k in let many : 2 ^ 23 ≤ Q = le_of_suc-le-suc (of_square_lt (subst (λ (x : ℕ). 2 ^ 46 < x * x) e (lt_of_le_of_lt least g))) in
      let y : c * 2 ^ i ≤ Q * A = step_below c i Q k small many (subst (λ (x : ℕ). c * 2 ^ i < x * A) e l) in
      let s : suc Q * suc Q < M + suc Q = subst (λ (x : ℕ). x * x < M + x) e near.low in
      square_under (c * 2 ^ i + R * A) (2 * Q + 1) M A (pow_pos k) (subst (λ (x : ℕ). c * 2 ^ i + x * A ≤ (2 * Q + 1) * A) (sym e)
      (subst (λ (x : ℕ). c * 2 ^ i + suc Q * A ≤ x) (middle_sum Q A) (add_to (c * 2 ^ i) (Q * A) (suc Q * A) y))) (half Q s) where
        add_to : (a b d : ℕ) → a ≤ b → a + d ≤ b + d
        add_to a b d h = omega arith

        half : (Q : ℕ) → suc Q * suc Q < M + suc Q → (2 * Q + 1) * (2 * Q + 1) < 4 * M
        half Q h = let p : suc Q * suc Q ≡ Q * Q + 2 * Q + 1 = ap (λ (x : ℕ). x * x) (one Q) ∙ next_square Q in let q = odd_square Q in omega arith where
          one : (Q : ℕ) → suc Q ≡ Q + 1
          one Q = omega arith

  below : c * 2 ^ i < R * 2 ^ k → (c * 2 ^ i + R * 2 ^ k) * (c * 2 ^ i + R * 2 ^ k) < 4 * (M * (2 ^ k * 2 ^ k))
  below l =
      elim (le_or_lt (R * R) M) [
        | inl g ↦ square_beneath (c * 2 ^ i + R * 2 ^ k) (2 * R) M (2 ^ k) (subst (λ (x : ℕ). c * 2 ^ i + R * 2 ^ k < x) (double R (2 ^ k)) (add_lt (c * 2 ^ i) (R * 2 ^ k) l))
            (le_trans (le_of_eq (twice_square R)) (mul-le-mul_left 4 g))
        | inr g ↦ split R refl g
      ] where
        add_lt : (a b : ℕ) → a < b → a + b < b + b
        add_lt a b h = omega arith

        split : (Q : ℕ) → R ≡ Q → M < R * R → (c * 2 ^ i + R * 2 ^ k) * (c * 2 ^ i + R * 2 ^ k) < 4 * (M * (2 ^ k * 2 ^ k))
        split zero e g = absurd (nothing (subst (λ (x : ℕ). M < x * x) e g)) where
          nothing : M < 0 * 0 → ⊥
          nothing h = omega arith
        split (suc Q) e g = up_below Q e g l

  above : 2 ^ 23 ≤ R → R * 2 ^ k < c * 2 ^ i → 4 * (M * (2 ^ k * 2 ^ k)) < (c * 2 ^ i + R * 2 ^ k) * (c * 2 ^ i + R * 2 ^ k)
  above r l =
      square_over (c * 2 ^ i + R * 2 ^ k) (2 * R + 1) M (2 ^ k) (pow_pos k) (le_trans (le_of_eq (sym (middle_sum R (2 ^ k)))) (swap (R * 2 ^ k) (suc R * 2 ^ k)
      (c * 2 ^ i) (step_above c i R k small r l))) half where
        swap : (a b d : ℕ) → b ≤ d → a + b ≤ d + a
        swap a b d h = omega arith

        half : 4 * M < (2 * R + 1) * (2 * R + 1)
        half = let p = near.high in let q = odd_square R in omega arith

-- ---- the theorem
-- all that the definition makes of x: x is d * 2 ^ p units, M is rooted, and the result is R * 2 ^ k units
record Rooted (x : Float) : Type 0 where
  square : ℕ
  kept : ℕ
  half : ℕ
  near : IsNearest square kept
  least : 2 ^ 46 ≤ square
  range : 2 ^ 23 ≤ kept
  of_x : units_of x * 2 ^ 149 ≡ square * (2 ^ half * 2 ^ half)
  of_root : units_of (root x) ≡ kept * 2 ^ half
  held : T (fits binary32 (root x))
  above_zero : T (positive (root x))

rooted : (x : Float) → T (fits binary32 x) → T (positive x) → Rooted x
rooted x f P = let s = shape x f in let d = s.digits in let p = s.place in
    let D : 0 < d = first_pos d (2 ^ p) (subst (λ (a : ℕ). 0 < a) s.whole (decoded x f P).above) in let e = even d p D s.small in
    let k = (size d + p + 102) / 2 in let M = d * 2 ^ (p + 149 - 2 * k) in let R = nearest_root M in
    let near : IsNearest M R = nearest_root_is M (lt_of_lt_of_le (lit< tt) e.least) e.under in let range = nearest_range M R e.least e.under near in
    let fine : R * 2 ^ k < 2 ^ 277 = no_overflow R k range.1 (room (size d) p e.short s.reach) in
    let v : HasValue (units binary32 false R k) false (R * 2 ^ k) (2 ^ 149) = units_val binary32 false R k fine in
    let is : root x ≡ units binary32 false R k = root_by_digits x d p P D s.small (sym s.whole) in record {
      square = M;
      kept = R;
      half = k;
      near = near;
      least = e.least;
      range = range.0;
      of_x = ap (λ (a : ℕ). a * 2 ^ 149) s.whole ∙ square_whole d p k e.within ∙ ap (λ (a : ℕ). M * a) (ap (λ (j : ℕ). 2 ^ j) (twice k) ∙ pow-add 2 k k);
      of_root = ap units_of is ∙ value_units (units binary32 false R k) false (R * 2 ^ k) v;
      held = subst (λ (z : Float). T (fits binary32 z)) (sym is) (units_fits R k range.1 fine);
      above_zero = subst (λ (z : Float). T (positive z)) (sym is) (positive_of_value (units binary32 false R k) (R * 2 ^ k) (2 ^ 149) v (mul-pos (lt_of_lt_of_le (lit< tt) range.0) (pow_pos k)));
    } where
      twice : (k : ℕ) → 2 * k ≡ k + k
      twice k = omega arith

      room : (z p : ℕ) → z ≤ 24 → p < 254 → (z + p + 102) / 2 ≤ 252
      room z p a b = omega arith

pub root_nearest : (x : Float) → T (fits binary32 x) → T (positive x) → NearestTo√ x (root x)
root_nearest x f P = let r = rooted x f P in record {
  above_zero = r.above_zero;
  from_below =
      λ y g l.
      let s = shape y g in
      subst (λ (a : ℕ). (units_of y + units_of (root x)) * (units_of y + units_of (root x)) < 4 * a) (sym r.of_x)
      (subst (λ (a : ℕ). (a + units_of (root x)) * (a + units_of (root x)) < 4 * (r.square * (2 ^ r.half * 2 ^ r.half))) (sym s.whole)
      (subst (λ (a : ℕ). (s.digits * 2 ^ s.place + a) * (s.digits * 2 ^ s.place + a) < 4 * (r.square * (2 ^ r.half * 2 ^ r.half))) (sym r.of_root)
      (below r.square r.kept r.half r.near r.least s.digits s.place s.small (subst (λ (a : ℕ). a < r.kept * 2 ^ r.half)
      s.whole (subst (λ (a : ℕ). units_of y < a) r.of_root l)))));
  from_above =
      λ y g l.
      let s = shape y g in
      subst (λ (a : ℕ). 4 * a < (units_of y + units_of (root x)) * (units_of y + units_of (root x))) (sym r.of_x)
      (subst (λ (a : ℕ). 4 * (r.square * (2 ^ r.half * 2 ^ r.half)) < (a + units_of (root x)) * (a + units_of (root x))) (sym s.whole)
      (subst (λ (a : ℕ). 4 * (r.square * (2 ^ r.half * 2 ^ r.half)) < (s.digits * 2 ^ s.place + a) * (s.digits * 2 ^ s.place + a)) (sym r.of_root)
      (above r.square r.kept r.half r.near r.least s.digits s.place s.small r.range (subst (λ (a : ℕ). r.kept * 2 ^ r.half < a)
      s.whole (subst (λ (a : ℕ). a < units_of y) r.of_root l)))));
}

-- ---- no other f32 is nearest
apart : (x r t : Float) → NearestTo√ x r → NearestTo√ x t → T (fits binary32 r) → T (fits binary32 t) → units_of r < units_of t → ⊥
apart x r t h k f g l = let a = h.from_above t g l in let b = k.from_below r f l in
    clash (4 * (units_of x * 2 ^ 149)) ((units_of t + units_of r) * (units_of t + units_of r)) ((units_of r + units_of t) * (units_of r + units_of t)) a b
    (ap (λ (u : ℕ). u * u) (add_comm (units_of t) (units_of r))) where
      clash : (m p q : ℕ) → m < p → q < m → p ≡ q → ⊥
      clash m p q a b e = omega arith

-- a positive f32 is told by its units
told : (r : Float) → T (fits binary32 r) → T (positive r) → HasValue r false (units_of r) (2 ^ 149)
told r f p = subst (λ (a : ℕ). HasValue r false a (2 ^ 149)) (sym (shape r f).whole) ((shape r f).value p)

pub same_units : (r t : Float) → T (fits binary32 r) → T (fits binary32 t) → T (positive r) → T (positive t) → units_of r ≡ units_of t → r ≡ t
same_units r t f g p q e =
    sym (of_bits-to_bits binary32 r f) ∙ ap (λ (b : ℕ). of_bits binary32 b) (bits_of_value binary32 r (units_of r) (told r f p)
    ∙ ap (λ (a : ℕ). (size a - 24) * 8388608 + a / 2 ^ (size a - 24)) e ∙ sym (bits_of_value binary32 t (units_of t) (told t g q))) ∙ of_bits-to_bits binary32 t g

pub one_nearest : (x r t : Float) → T (fits binary32 r) → T (fits binary32 t) → NearestTo√ x r → NearestTo√ x t → r ≡ t
one_nearest x r t f g h k =
    same_units r t f g h.above_zero k.above_zero
    (elim (le_or_lt (units_of r) (units_of t)) [
      | inl a ↦ elim (eq-or-lt_of_le a) [ inl e ↦ e | inr l ↦ absurd (apart x r t h k f g l) ]
      | inr l ↦ absurd (apart x t r k h g f l)
    ])

-- so `root` is the only f32 that is nearest
pub only_root : (x r : Float) → T (fits binary32 x) → T (positive x) → T (fits binary32 r) → NearestTo√ x r → r ≡ root x
only_root x r f p g h = one_nearest x r (root x) g (rooted x f p).held h (root_nearest x f p)
