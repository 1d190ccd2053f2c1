-- `nearest_to` gives the f32 nearest to a fraction, ties to even (`nearest_to_is_nearest`). Assumes nothing.
use Rattle.numbers.proofs.Prelude.{ℕ, suc, ◌+◌, ◌-◌, ◌*◌, ◌/◌, ◌%◌, ◌^◌, ◌≤◌, ◌<◌, eqb-true, eqb, T, Float, binary32, fin, nan, inf, pos, pow_pos, pow_mono, pow-add, Bool, true, false, ◌⊎◌, inl, inr}
use Rattle.numbers.proofs.Prelude.{◌≡◌, refl, sym, ap, subst, ◌∙◌, le_trans, le_of_lt, le_of_eq, lt_of_lt_of_le, mul_comm, mul_assoc, mul-one, one-mul, zero-mul, add-mul, mul-pos, mul-le-mul_right}
use Rattle.numbers.proofs.Prelude.{mod-lt, div-lt_iff_lt-mul, arith}
use Rattle.numbers.{proofs.float.{Rounding.{order_is, size_is, no_overflow, kept_least}, Smallest.{value_units, shape}, Squares.{le_or_lt}}, specs.{Answer.{if◌then◌else◌}, Float.Root.{units_of}}}
use mathlib.Core.Bool.{beq}
use Prim.Native.Nat.{Ordering}
use Prim.Native.Nat.{compare}
use native.Mathlib.Nat.{eq-or-lt_of_le, mul_right_comm, mul-lt-mul_of_pos_right, div-add-mod', div-div-eq-div-mul, mul-div_cancel, div-one}
use lib.Ieee.{odd, size, nearest, units, round, fits, Digits.{size-le, back}, Exact.{HasValue, units_val}, Fits.{round_is, round-fits, nearest-le, kept-lt}, Nearest.{closest, nearest-ge}}
use lib.{Ieee.Scale.{finite}, Pow.{shl_lt}}
use Rattle.request.specs.{Nearest.{gap, is_negative, away, Nearest}, Number.{Fraction, nearest_to}}

-- ---- whole numbers: w * u + r is n, and multiples of u around it
module _ (n u w r : ℕ) (e : w * u + r ≡ n) (l : r < u) (c : ℕ) where
  more : suc w * u ≡ w * u + u
  more = ap (λ (x : ℕ). x * u) (let s : suc w ≡ w + 1 = omega arith in s) ∙ add-mul w 1 u ∙ ap (λ (x : ℕ). w * u + x) (one-mul u)

  low_near : r * 2 ≤ u → gap n (w * u) ≤ gap n (c * u)
  unfolding gap
  low_near h =
      elim (le_or_lt c w) [
        | inl g ↦ let p = mul-le-mul_right u g in omega arith
        | inr g ↦ let p : suc w * u ≤ c * u = mul-le-mul_right u g in let m = more in omega arith
      ]

  high_near : u ≤ r * 2 → gap n (suc w * u) ≤ gap n (c * u)
  unfolding gap
  high_near h =
      elim (le_or_lt c w) [
        | inl g ↦ let p = mul-le-mul_right u g in let m = more in omega arith
        | inr g ↦ let p : suc w * u ≤ c * u = mul-le-mul_right u g in let m = more in omega arith
      ]

  low_alone : r * 2 < u → gap n (c * u) ≡ gap n (w * u) → c ≡ w
  unfolding gap
  low_alone h g =
      elim (le_or_lt c w) [
        | inl a ↦ elim (eq-or-lt_of_le a) [
          | inl same ↦ same
          | inr b ↦ absurd (let p : suc c * u ≤ w * u = mul-le-mul_right u b in let q : suc c * u ≡ c * u + u = ap (λ (x : ℕ). x * u) (let s : suc c ≡ c + 1 = omega arith in s) ∙ add-mul c 1 u
              ∙ ap (λ (x : ℕ). c * u + x) (one-mul u) in omega arith)
        ]
        | inr a ↦ absurd (let p : suc w * u ≤ c * u = mul-le-mul_right u a in let m = more in omega arith)
      ]

  high_alone : u < r * 2 → gap n (c * u) ≡ gap n (suc w * u) → c ≡ suc w
  unfolding gap
  high_alone h g =
      elim (le_or_lt c w) [
        | inl a ↦ absurd (let p = mul-le-mul_right u a in let m = more in omega arith)
        | inr a ↦ elim (eq-or-lt_of_le a) [
          | inl same ↦ sym same
          | inr b ↦ absurd (let p : suc (suc w) * u ≤ c * u = mul-le-mul_right u b in let q : suc (suc w) * u ≡ w * u + u + u = ap (λ (x : ℕ). x * u) (let s : suc
              (suc w) ≡ suc w + 1 = omega arith in s) ∙ add-mul (suc w) 1 u ∙ ap (λ (x : ℕ). suc w * u + x) (one-mul u) ∙ ap (λ (x : ℕ). x + u) more in let m = more in omega arith)
        ]
      ]

cancel : (a b d : ℕ) → 0 < d → a * d ≡ b * d → a ≡ b
cancel a b d D e =
    elim (le_or_lt a b) [
      | inl h ↦ elim (eq-or-lt_of_le h) [ inl same ↦ same | inr l ↦ absurd (let p = mul-lt-mul_of_pos_right l D in omega arith) ]
      | inr l ↦ absurd (let p = mul-lt-mul_of_pos_right l D in omega arith)
    ]

-- the three ways that twice a remainder stands to the divisor
order : (a b : ℕ) → (a < b) ⊎ ((a ≡ b) ⊎ (b < a))
order a b = elim (le_or_lt b a) [ inl h ↦ elim (eq-or-lt_of_le h) [ inl e ↦ inr (inl (sym e)) | inr l ↦ inr (inr l) ] | inr h ↦ inl h ]

-- the nearest whole number to n / u, and any other
record Close (n u q c : ℕ) : Type 0 where
  near : gap n (q * u) ≤ gap n (c * u)
  alone : gap n (c * u) ≡ gap n (q * u) → (c ≡ q → ⊥) → q % 2 ≡ 0

close : (n u c : ℕ) → 0 < u → Close n u (closest n u) c
close n u c U = let w = n / u in let r = n % u in let e = div-add-mod' n u in let l = mod-lt n U in
    elim (order (r * 2) u) [
      | inl h ↦ subst (λ (q : ℕ). Close n u q c) (ap (nearest w) (sym (order_is (r * 2) u Ordering.lt h))) (record {
        near = low_near n u w r e l c (omega arith);
        alone = λ t d. absurd (d
            (low_alone n u w r e l c h t));
      })
      | inr (inl h) ↦ subst (λ (q : ℕ). Close n u q c) (ap (nearest w) (sym (order_is (r * 2) u Ordering.eq h))) (tied w r e l h)
      | inr (inr h) ↦ subst (λ (q : ℕ). Close n u q c) (ap (nearest w) (sym (order_is (r * 2) u Ordering.gt h))) (record {
        near = high_near n u w r e l c (omega arith);
        alone = λ t d. absurd (d
            (high_alone n u w r e l c h t));
      })
    ] where
      tied : (w r : ℕ) → w * u + r ≡ n → r < u → r * 2 ≡ u → Close n u (w + w % 2) c
      tied w r e l h =
          elim (le_or_lt 1 (w % 2)) [
            | inl o ↦ subst (λ (q : ℕ). Close n u q c) (let s : suc w ≡ w + w % 2 = omega arith in s) (record { near = high_near n u w r e l c (omega arith); alone = λ t d. omega arith })
            | inr z ↦ subst (λ (q : ℕ). Close n u q c) (let s : w ≡ w + w % 2 = omega arith in s) (record { near = low_near n u w r e l c (omega arith); alone = λ t d. omega arith })
          ]

-- ---- the 24 leading digits
even_digits : (q k : ℕ) → q % 2 ≡ 0 → q ≤ 2 ^ 24 → (k ≡ 0) ⊎ (2 ^ 23 ≤ q) → (q * 2 ^ k) / 2 ^ (size (q * 2 ^ k) - 24) % 2 ≡ 0
even_digits q k e hi place =
    elim (eq-or-lt_of_le hi) [
      | inl c ↦ carried c
      | inr l ↦ elim (le_or_lt (2 ^ 23) q) [
        | inl g ↦ full l g
        | inr g ↦ elim place [ inl z ↦ short l z | inr b ↦ absurd (omega arith) ]
      ]
    ] where
      last : (s : ℕ) → size (q * 2 ^ k) - 24 ≡ s → (m : ℕ) → q * 2 ^ k / 2 ^ s ≡ m → m % 2 ≡ 0 → (q * 2 ^ k) / 2 ^ (size (q * 2 ^ k) - 24) % 2 ≡ 0
      last s f m g h = ap (λ (x : ℕ). q * 2 ^ k / 2 ^ x % 2) f ∙ ap (λ (x : ℕ). x % 2) g ∙ h

      full : q < 2 ^ 24 → 2 ^ 23 ≤ q → (q * 2 ^ k) / 2 ^ (size (q * 2 ^ k) - 24) % 2 ≡ 0
      full l g =
          let s = size_is (23 + k) (q * 2 ^ k) (subst (λ (y : ℕ). y ≤ q * 2 ^ k) (sym (pow-add 2 23 k)) (mul-le-mul_right (2 ^ k) g)) (subst (λ (y : ℕ). q * 2 ^ k < 2 ^ y) (let u : 24 + k ≡ suc
          (23 + k) = omega arith in u) (shl_lt 24 k l)) in
          last k (omega arith) q (mul-div_cancel q (pow_pos k)) e

      carried : q ≡ 2 ^ 24 → (q * 2 ^ k) / 2 ^ (size (q * 2 ^ k) - 24) % 2 ≡ 0
      carried c =
          let a : q * 2 ^ k ≡ 2 ^ 23 * 2 ^ (k + 1) = ap (λ (x : ℕ). x * 2 ^ k) c ∙ sym (pow-add 2 24 k) ∙ ap (λ (x : ℕ). 2 ^ x) (let u : 24 + k ≡ 23 + (k + 1) = omega arith in u)
          ∙ pow-add 2 23 (k + 1) in
          let s = size_is (24 + k) (q * 2 ^ k) (subst (λ (y : ℕ). y ≤ q * 2 ^ k) (sym (pow-add 2 24 k)) (mul-le-mul_right (2 ^ k) (le_of_eq (sym c)))) (subst (λ (y : ℕ). q * 2 ^ k < 2 ^ y)
          (let u : 25 + k ≡ suc (24 + k) = omega arith in u) (shl_lt 25 k (omega arith))) in
          last (k + 1) (omega arith) (2 ^ 23) (ap (λ (x : ℕ). x / 2 ^ (k + 1)) a ∙ mul-div_cancel (2 ^ 23) (pow_pos (k + 1))) refl

      short : q < 2 ^ 24 → k ≡ 0 → (q * 2 ^ k) / 2 ^ (size (q * 2 ^ k) - 24) % 2 ≡ 0
      short l z = let a : q * 2 ^ k ≡ q = ap (λ (x : ℕ). q * 2 ^ x) z ∙ mul-one q in let s = size-le (q * 2 ^ k) 24 (subst (λ (y : ℕ). y < 2 ^ 24) (sym a) l) in
          last 0 (omega arith) q (div-one (q * 2 ^ k) ∙ a) e

-- ---- the rounded fraction
module _ (s : Bool) (num den : ℕ) (D : 0 < den) (under : num / den < 16777216) where
  n : ℕ
  n = num * 2 ^ 149

  k : ℕ
  k = size (n / den) - 24

  u : ℕ
  u = den * 2 ^ k

  q : ℕ
  q = closest n u

  U : 0 < u
  unfolding u
  U = mul-pos D (pow_pos k)

  whole : n / den / 2 ^ k ≡ n / u
  unfolding u
  whole = div-div-eq-div-mul n den (2 ^ k)

  kept : n / u < 2 ^ 24
  unfolding k
  kept = subst (λ (x : ℕ). x < 2 ^ 24) whole (kept-lt 24 (n / den))

  q_high : q ≤ 2 ^ 24
  unfolding q
  q_high = le_trans (nearest-le (n / u) (compare (n % u * 2) u)) kept

  n_low : n / den < 2 ^ 173
  unfolding n
  n_low = (div-lt_iff_lt-mul D).1 (subst (λ (x : ℕ). num * 2 ^ 149 < x) (mul_right_comm 16777216 den (2 ^ 149)) (mul-lt-mul_of_pos_right ((div-lt_iff_lt-mul D).0 under) (pow_pos 149)))

  k_short : k ≤ 149
  unfolding k
  k_short = let s = size-le (n / den) 173 n_low in omega arith

  value : HasValue (round binary32 s num den) s (q * 2 ^ k) (2 ^ 149)
  unfolding q u k n
  value = subst (λ (x : Float). HasValue x s (q * 2 ^ k) (2 ^ 149)) (sym (round_is binary32 s num den)) (units_val binary32 s q k (no_overflow q k q_high (let s = k_short in omega arith)))

  units_are : units_of (round binary32 s num den) ≡ q * 2 ^ k
  units_are = value_units (round binary32 s num den) s (q * 2 ^ k) value

  -- a multiple of 2 ^ k, over den, is one of u
  over : (c : ℕ) → c * 2 ^ k * den ≡ c * u
  unfolding u
  over c = mul_assoc c (2 ^ k) den ∙ ap (λ (x : ℕ). c * x) (mul_comm (2 ^ k) den)

  at_x : units_of (round binary32 s num den) * den ≡ q * u
  at_x = ap (λ (x : ℕ). x * den) units_are ∙ over q

  multiple : (c i : ℕ) → k ≤ i → c * 2 ^ i ≡ c * 2 ^ (i - k) * 2 ^ k
  multiple c i h = ap (λ (x : ℕ). c * x) (ap (λ (x : ℕ). 2 ^ x) (sym (back i k h)) ∙ pow-add 2 (i - k) k) ∙ sym (mul_assoc c (2 ^ (i - k)) (2 ^ k))

  lower : (c i : ℕ) → c < 2 ^ 24 → i < k → c * 2 ^ i < n / u * 2 ^ k
  unfolding k
  lower c i h l = lt_of_lt_of_le (shl_lt 24 i h) (le_trans (pow_mono (let s : 24 + i ≤ 23 + k = omega arith in s)) (le_trans (le_of_eq (pow-add 2 23 k)) (mul-le-mul_right (2 ^ k) (subst (λ
      (x : ℕ). 2 ^ 23 ≤ x) whole (kept_least (n / den) (let s : 24 < size (n / den) = omega arith in s))))))

  -- any other f32 is a multiple of 2 ^ k too, or below what is kept of the fraction
  placed : (y : Float) → T (fits binary32 y) → (Close n u q (units_of y * den / u) × (units_of y * den / u * u ≡ units_of y * den)) ⊎ (units_of y * den < n / u * u)
  unfolding n u q
  placed y f = let f32 = shape y f in
      elim (le_or_lt k f32.place) [
        | inl h ↦
            let e : units_of y * den ≡ f32.digits * 2 ^ (f32.place - k) * u = ap (λ (x : ℕ). x * den) (f32.whole ∙ multiple f32.digits f32.place h)
            ∙ over (f32.digits * 2 ^ (f32.place - k)) in
            inl (close n u (units_of y * den / u) U, ap (λ (x : ℕ). x / u * u) e ∙ ap (λ (x : ℕ). x * u) (mul-div_cancel (f32.digits * 2 ^ (f32.place - k)) U) ∙ sym e)
        | inr h ↦ inr (subst (λ (x : ℕ). x * den < n / u * u) (sym f32.whole) (subst (λ (x : ℕ). f32.digits * 2 ^ f32.place * den < x) (over (n / u)) (mul-lt-mul_of_pos_right (lower
            f32.digits f32.place f32.small h) D)))
      ]

  kept_near : gap n (q * u) ≤ gap n (n / u * u)
  unfolding n u q
  kept_near = (close n u (n / u) U).near

  farther : (Y : ℕ) → Y < n / u * u → gap n (n / u * u) < gap n Y
  unfolding gap
  farther Y l = let e = div-add-mod' n u in omega arith

  size_near : (y : Float) → T (fits binary32 y) → gap n (q * u) ≤ gap n (units_of y * den)
  size_near y f =
      elim (placed y f) [
        | inl p ↦ subst (λ (x : ℕ). gap n (q * u) ≤ gap n x) p.1 p.0.near
        | inr l ↦ le_trans kept_near (le_of_lt (farther (units_of y * den) l))
      ]

  size_even : (y : Float) → T (fits binary32 y) → gap n (units_of y * den) ≡ gap n (q * u) → (units_of y * den ≡ q * u → ⊥) → q % 2 ≡ 0
  size_even y f e d =
      elim (placed y f) [
        | inl p ↦ p.0.alone (ap (gap n) p.1 ∙ e) (λ c. d (sym p.1 ∙ ap (λ (x : ℕ). x * u) c))
        | inr l ↦ absurd (let g = farther (units_of y * den) l in let h = kept_near in omega arith)
      ]

  least : 0 < k → 2 ^ 23 ≤ n / den / 2 ^ k
  unfolding k
  least p = kept_least (n / den) (omega arith)

  -- where digits are dropped, 24 are kept
  q_place : (k ≡ 0) ⊎ (2 ^ 23 ≤ q)
  unfolding q
  q_place =
      elim (le_or_lt k 0) [
        | inl z ↦ inl (omega arith)
        | inr p ↦ inr (le_trans (subst (λ (x : ℕ). 2 ^ 23 ≤ x) whole (least p)) (nearest-ge (n / u) (compare (n % u * 2) u)))
      ]

  leading_even : q % 2 ≡ 0 → units_of (round binary32 s num den) / 2 ^ (size (units_of (round binary32 s num den)) - 24) % 2 ≡ 0
  leading_even e = subst (λ (x : ℕ). x / 2 ^ (size x - 24) % 2 ≡ 0) (sym units_are) (even_digits q k e q_high q_place)

  sign_and_size : HasValue (round binary32 s num den) s (q * 2 ^ k) (2 ^ 149)
  sign_and_size = value

  no_farther : gap n (q * u) ≤ n
  unfolding gap
  no_farther = le_trans kept_near (let e = div-add-mod' n u in omega arith)

  zero_even : gap n (q * u) ≡ n → (q ≡ 0 → ⊥) → q % 2 ≡ 0
  unfolding gap q
  zero_even e d = (close n u 0 U).alone (let z : 0 * u ≡ 0 = zero-mul u in let f = e in omega arith) (λ c. d (sym c))

-- ---- with its sign
sign_of : (x : Float) (s : Bool) (a c : ℕ) → HasValue x s a c → is_negative x ≡ s
sign_of nan s a c v = absurd v
sign_of (inf t) s a c v = absurd v
sign_of (fin t m e) s a c v = v.0

finite_of : (x : Float) (s : Bool) (a c : ℕ) → HasValue x s a c → T (finite x)
finite_of nan s a c v = absurd v
finite_of (inf t) s a c v = absurd v
finite_of (fin t m e) s a c v = tt

module _ (fraction : Fraction) (y : Float) where
  abbrev a : ℕ
  a = fraction.size.num * 2 ^ 149

  abbrev b : ℕ
  b = units_of y * fraction.size.den

  away_either : (away fraction y ≡ gap a b) ⊎ (away fraction y ≡ a + b)
  unfolding away
  away_either = go (beq (is_negative y) fraction.minus) where
    go : (t : Bool) → ((if t then gap a b else a + b) ≡ gap a b) ⊎ ((if t then gap a b else a + b) ≡ a + b)
    go true = inl refl
    go false = inr refl

  away_same : is_negative y ≡ fraction.minus → away fraction y ≡ gap a b
  unfolding away
  away_same e = go (is_negative y) fraction.minus e where
    go : (s t : Bool) → s ≡ t → (if beq s t then gap a b else a + b) ≡ gap a b
    go true true e = refl
    go false false e = refl
    go true false e = absurd (let z : ◌≡◌ {A = ℕ} 0 1 = cc in omega arith)
    go false true e = absurd (let z : ◌≡◌ {A = ℕ} 0 1 = cc in omega arith)

grown : (a b : ℕ) → a ≤ a + b
grown a b = omega arith

settled : (a b g : ℕ) → a + b ≡ g → g ≤ a → (b ≡ 0) × (g ≡ a)
settled a b g e h = (omega arith, omega arith)

-- of a fraction above zero
module _ (fraction : Fraction) (D : 0 < fraction.size.den) (under : fraction.size.num / fraction.size.den < 16777216) where
  abbrev num : ℕ
  num = fraction.size.num

  abbrev den : ℕ
  den = fraction.size.den

  abbrev x : Float
  x = round binary32 fraction.minus num den

  away_x : away fraction x ≡ gap (num * 2 ^ 149) (q fraction.minus num den D under * u fraction.minus num den D under)
  away_x = away_same fraction x (sign_of x fraction.minus _ _ (sign_and_size fraction.minus num den D under)) ∙ ap (gap (num * 2 ^ 149)) (at_x fraction.minus num den D under)

  round_nearest : Nearest fraction x
  unfolding n
  round_nearest = let s = fraction.minus in record {
    held = round-fits binary32 s num den;
    is_finite = finite_of x s _ _ (sign_and_size s num den D under);
    none_nearer =
        λ y f t.
        elim (away_either fraction y) [
          | inl e ↦ le_trans (le_of_eq away_x) (le_trans (size_near s num den D under y f) (le_of_eq (sym e)))
          | inr e ↦ le_trans (le_of_eq away_x) (le_trans (le_trans (no_farther s num den D under) (grown (num * 2 ^ 149) (units_of y * den))) (le_of_eq (sym e)))
        ];
    tie_even =
        λ y f t e d.
        leading_even s num den D under
        (elim (away_either fraction y) [
          | inl g ↦ size_even s num den D under y f (sym g ∙ e ∙ away_x) (λ c. d (same y (c ∙ sym (at_x s num den D under))))
          | inr g ↦ none y (sym g ∙ e ∙ away_x) d
        ]);
  } where
    same : (y : Float) → units_of y * den ≡ units_of x * den → units_of y ≡ units_of x
    same y e = cancel (units_of y) (units_of x) den D e

    none : (y : Float) → num * 2 ^ 149 + units_of y * den ≡ gap (num * 2 ^ 149) (q fraction.minus num den D under * u fraction.minus num den D under) → (units_of y ≡ units_of x → ⊥)
        → q fraction.minus num den D under % 2 ≡ 0
    none y e d =
        let z = settled (num * 2 ^ 149) (units_of y * den) (gap (num * 2 ^ 149) (q fraction.minus num den D under * u fraction.minus num den D under)) e (no_farther
        fraction.minus num den D under) in
        zero_even fraction.minus num den D under z.1 (λ w. d (same y (z.0 ∙ sym (at_x fraction.minus num den D under ∙ ap (λ (m : ℕ). m * u fraction.minus num den D under) w
        ∙ zero-mul (u fraction.minus num den D under)))))

-- of zero
zero_nearest : (fraction : Fraction) → fraction.size.num ≡ 0 → Nearest fraction (fin false 0 (pos 0))
unfolding gap round size units odd
zero_nearest fraction e =
    record {
      held = subst (λ (z : Float). T (fits binary32 z)) zero_rounded (round-fits binary32 false 0 1);
      is_finite = tt;
      none_nearer = λ y f t. subst (λ (m : ℕ). m ≤ away fraction y) (sym here) (omega arith);
      tie_even = λ y f t g d. refl;
    } where
      zero_rounded : round binary32 false 0 1 ≡ fin false 0 (pos 0)
      zero_rounded = refl

      here : away fraction (fin false 0 (pos 0)) ≡ 0
      here =
          elim (away_either fraction (fin false 0 (pos 0))) [
            | inl g ↦ g ∙ ap (λ (m : ℕ). gap (m * 2 ^ 149) (0 * fraction.size.den)) e ∙ ap (λ (m : ℕ). gap 0 m) (zero-mul fraction.size.den)
            | inr g ↦ g ∙ ap (λ (m : ℕ). m * 2 ^ 149 + 0 * fraction.size.den) e ∙ ap (λ (m : ℕ). 0 + m) (zero-mul fraction.size.den)
          ]

-- the f32 that a request's fraction means
pub nearest_to_is_nearest : (fraction : Fraction) → 0 < fraction.size.den → fraction.size.num / fraction.size.den < 16777216 → Nearest fraction (nearest_to fraction)
unfolding nearest_to
nearest_to_is_nearest fraction D under = go (eqb fraction.size.num 0) refl where
  go : (t : Bool) → eqb fraction.size.num 0 ≡ t → Nearest fraction (if t then fin false 0 (pos 0) else round binary32 fraction.minus fraction.size.num fraction.size.den)
  go false e = round_nearest fraction D under
  go true e = zero_nearest fraction (eqb-true fraction.size.num 0 e)
