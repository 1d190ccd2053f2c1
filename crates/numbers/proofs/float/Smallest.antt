-- An f32 counted in the smallest one, 2 ^ -149: it is a number of at most 24 digits times a power of two, which its bits give; and the same scaled to an even power, for its root. Assumes nothing.
use Rattle.numbers.proofs.Prelude.{ℕ, zero, suc, ◌+◌, ◌-◌, ◌*◌, ◌/◌, ◌%◌, ◌^◌, ◌≤◌, ◌<◌, eqb, leb, T, lit<, Float, binary32, fin, nan, inf, of_bits, pow_pos, pow_mono, pow-add, Bool, true}
use Rattle.numbers.proofs.Prelude.{false, not, cond, inl, inr, ◌≡◌, refl, sym, ap, subst, ◌∙◌, le_trans, le_of_eq, lt_of_le_of_lt, lt_of_lt_of_le, not-le_of_lt, mul_assoc, mul-le-mul_right}
use Rattle.numbers.proofs.{Prelude.{arith}, float.{Rounding.{size_is, reaches_size, bits_of_value, kept_least}, Squares.{le_or_lt}}}
use lib.Ieee.{is_nan, down, size, odd, units, fits, of_fields, to_bits, Bits.{of_bits-to_bits}, Digits.{size-lt, size-le, size_reaches, back}, Exact.{HasValue, odd_sign}, Fits.{down_pos, kept-lt, eq→eqb}}
use lib.{Ieee.Positive.{positive, value_pos}, Pow.{shl_lt}}
use Rattle.std.proofs.Common.{div-one, mul-div_cancel}
use Rattle.numbers.specs.Float.Root.{units_of, nearest_root, root}

-- ---- a value's units
pub value_units : (y : Float) (s : Bool) (a : ℕ) → HasValue y s a (2 ^ 149) → units_of y ≡ a
value_units nan s a v = absurd v
value_units (inf t) s a v = absurd v
value_units (fin t m e) s a v = ap (λ (x : ℕ). x / down e) v.1 ∙ mul-div_cancel a (down_pos e)

unsigned : (y : Float) (s : Bool) (a c : ℕ) → HasValue y s a c → T (positive y) → HasValue y false a c
unsigned nan s a c v p = absurd v
unsigned (inf t) s a c v p = absurd v
unsigned (fin true m e) s a c v p = absurd p
unsigned (fin false m e) s a c v p = (refl, v.1)

pub positive_no_nan : (x : Float) → T (positive x) → T (not (is_nan x))
unfolding is_nan
positive_no_nan nan p = absurd p
positive_no_nan (inf s) p = tt
positive_no_nan (fin s m e) p = tt

-- ---- digits and a place
pub record Shape (y : Float) : Type 0 where
  pub digits : ℕ
  pub place : ℕ
  pub small : digits < 2 ^ 24
  pub reach : place < 254
  pub whole : units_of y ≡ digits * 2 ^ place
  pub value : T (positive y) → HasValue y false (digits * 2 ^ place) (2 ^ 149)

of_odd : (s : Bool) (q k : ℕ) → q < 2 ^ 24 → k < 254 → Shape (odd 24 s q k 149)
of_odd s q k h l = let v = odd_sign 24 s q k 149 in
    record { digits = q; place = k; small = h; reach = l; whole = value_units (odd 24 s q k 149) s (q * 2 ^ k) v; value = unsigned (odd 24 s q k 149) s (q * 2 ^ k) (2 ^ 149) v }

-- an infinity or a NaN has none
empty : (b s : Bool) → Shape (cond b (inf s) nan)
empty true s = record { digits = 0; place = 0; small = lit< tt; reach = lit< tt; whole = refl; value = λ p. absurd p }
empty false s = record { digits = 0; place = 0; small = lit< tt; reach = lit< tt; whole = refl; value = λ p. absurd p }

of_fields_lem : (s : Bool) (x t : ℕ) → x < 256 → t < 2 ^ 23 → Shape (of_fields binary32 s x t)
unfolding of_fields
of_fields_lem s zero t X H = of_odd s t 0 (wide t H) (lit< tt) where
  wide : (t : ℕ) → t < 8388608 → t < 16777216
  wide t h = omega arith
of_fields_lem s (suc x) t X H = go (eqb (suc x) 255) (λ (e : suc x ≡ 255). eq→eqb e) where
  lead : (t : ℕ) → t < 8388608 → 8388608 + t < 16777216
  lead t h = omega arith

  under : (x : ℕ) → suc x < 256 → (suc x ≡ 255 → ⊥) → x < 254
  under x l n = omega arith

  go : (b : Bool) → (suc x ≡ 255 → T b) → Shape (cond b (cond (eqb t 0) (inf s) nan) (odd 24 s (8388608 + t) x 149))
  go true n = empty (eqb t 0) s
  go false n = of_odd s (8388608 + t) x (lead t H) (under x X n)

of_pattern : (b : ℕ) → Shape (of_bits binary32 b)
unfolding of_bits
of_pattern b = of_fields_lem (leb 2147483648 b) (b % 2147483648 / 8388608) (b % 8388608) (omega arith) (omega arith)

pub shape : (y : Float) → T (fits binary32 y) → Shape y
shape y f = subst Shape (of_bits-to_bits binary32 y f) (of_pattern (to_bits binary32 y))

-- ---- the digits and the place that the bits b give of X units
pub record Decoded (X b : ℕ) : Type 0 where
  pub above : 0 < X
  pub low : b < 16777216 → b ≡ X
  pub high : 16777216 ≤ b → ((b % 8388608 + 8388608) * 2 ^ (b / 8388608 - 1) ≡ X) × (b / 8388608 - 1 < 254)

-- the exponent's fields 0 and 1 have the same place, so the leading digit may be told apart from 2 ^ 23 on
pub led : {X b : ℕ} → Decoded X b → 8388608 ≤ b → ((b % 8388608 + 8388608) * 2 ^ (b / 8388608 - 1) ≡ X) × (b / 8388608 - 1 < 254)
led {X} {b} d h = elim (le_or_lt 16777216 b) [ inl g ↦ d.high g | inr g ↦ (ap (λ (k : ℕ). (b % 8388608 + 8388608) * 2 ^ k) (none b g h) ∙ one b g h ∙ d.low g, omega (arith, none b g h)) ] where
  none : (b : ℕ) → b < 16777216 → 8388608 ≤ b → b / 8388608 - 1 ≡ 0
  none b g h = omega arith

  one : (b : ℕ) → b < 16777216 → 8388608 ≤ b → (b % 8388608 + 8388608) * 1 ≡ b
  one b g h = omega arith

few_digits : (X b : ℕ) → 0 < X → size X ≤ 24 → b ≡ (size X - 24) * 8388608 + X / 2 ^ (size X - 24) → Decoded X b
few_digits X b P h e = let f : b ≡ X = e ∙ ap (λ (k : ℕ). k * 8388608 + X / 2 ^ k) (none (size X) h) ∙ plain (X / 1) (div-one X) in
    record { above = P; low = λ l. f; high = λ l. absurd (not-le_of_lt (lt_of_lt_of_le (size-lt X) (pow_mono h)) (subst (λ (x : ℕ). 16777216 ≤ x) f l)) } where
      none : (z : ℕ) → z ≤ 24 → z - 24 ≡ 0
      none z l = omega arith

      plain : (y : ℕ) → y ≡ X → 0 * 8388608 + y ≡ X
      plain y g = omega arith

-- the digits below the 24 leading ones are zeros
zeros_below : (c i X : ℕ) → c < 2 ^ 24 → X ≡ c * 2 ^ i → (size X - 24 ≤ i) × (X / 2 ^ (size X - 24) * 2 ^ (size X - 24) ≡ X)
zeros_below c i X h e = let k = size X - 24 in
    let l : k ≤ i = spare (size X) i (size-le X (24 + i) (subst (λ (x : ℕ). x < 2 ^ (24 + i)) (sym e) (shl_lt 24 i h))) in
    let f : c * 2 ^ (i - k) * 2 ^ k ≡ X = mul_assoc c (2 ^ (i - k)) (2 ^ k) ∙ ap (λ (x : ℕ). c * x) (sym (pow-add 2 (i - k) k) ∙ ap (λ (x : ℕ). 2 ^ x) (back i k l)) ∙ sym e in
    (l, ap (λ (x : ℕ). x / 2 ^ k * 2 ^ k) (sym f) ∙ ap (λ (x : ℕ). x * 2 ^ k) (mul-div_cancel (c * 2 ^ (i - k)) (pow_pos k)) ∙ f) where
      spare : (z i : ℕ) → z ≤ 24 + i → z - 24 ≤ i
      spare z i l = omega arith

many_digits : (X b c i : ℕ) → 0 < X → c < 2 ^ 24 → i < 254 → X ≡ c * 2 ^ i → 24 < size X → b ≡ (size X - 24) * 8388608 + X / 2 ^ (size X - 24) → Decoded X b
many_digits X b c i P h I e z f = let k = size X - 24 in let q = X / 2 ^ k in let zs = zeros_below c i X h e in let q_low : 8388608 ≤ q = kept_least X z in
    let q_high : q < 16777216 = kept-lt 24 X in let k_pos : 0 < k = longer (size X) z in record {
      above = P;
      low = λ l. absurd (not_small k q b f k_pos q_low l);
      high =
          λ l. (
            ap (λ (x : ℕ). x * 2 ^ (b / 8388608 - 1)) (digits_are k q b f q_low q_high) ∙ ap (λ (x : ℕ). q * 2 ^ x) (place_is k q b f q_low q_high) ∙ zs.1,
            lt_of_le_of_lt (le_trans (le_of_eq (place_is k q b f q_low q_high)) zs.0) I,
          );
    } where
      longer : (z : ℕ) → 24 < z → 0 < z - 24
      longer z l = omega arith

      not_small : (k q b : ℕ) → b ≡ k * 8388608 + q → 0 < k → 8388608 ≤ q → b < 16777216 → ⊥
      not_small k q b g p l m = omega arith

      digits_are : (k q b : ℕ) → b ≡ k * 8388608 + q → 8388608 ≤ q → q < 16777216 → b % 8388608 + 8388608 ≡ q
      digits_are k q b g l m = omega arith

      place_is : (k q b : ℕ) → b ≡ k * 8388608 + q → 8388608 ≤ q → q < 16777216 → b / 8388608 - 1 ≡ k
      place_is k q b g l m = omega arith

pub decoded : (x : Float) → T (fits binary32 x) → T (positive x) → Decoded (units_of x) (to_bits binary32 x)
decoded x f p = let s = shape x f in let X = units_of x in
    let v : HasValue x false X (2 ^ 149) = subst (λ (a : ℕ). HasValue x false a (2 ^ 149)) (sym s.whole) (s.value p) in
    let P : 0 < X = value_pos x X (2 ^ 149) p (pow_pos 149) v in let b = bits_of_value binary32 x X v in
    elim (le_or_lt (size X) 24) [
      | inl h ↦ few_digits X (to_bits binary32 x) P h b
      | inr h ↦ many_digits X (to_bits binary32 x) s.digits s.place P s.small s.reach s.whole h b
    ]

-- ---- d * 2 ^ p units, squared for the root: n = d * 2 ^ (p + 149), and an even power of two is taken off it
pub record Even (d p : ℕ) : Type 0 where
  pub short : size d ≤ 24
  pub within : 2 * ((size d + p + 102) / 2) ≤ p + 149
  pub shift : p + 149 - 2 * ((size d + p + 102) / 2) < 64
  pub least : 2 ^ 46 ≤ d * 2 ^ (p + 149 - 2 * ((size d + p + 102) / 2))
  pub under : d * 2 ^ (p + 149 - 2 * ((size d + p + 102) / 2)) < 2 ^ 48

-- h stands for the half of the exponent
even_at : (z p h : ℕ) → h ≡ (z + p + 102) / 2 → 0 < z → z ≤ 24 → (2 * h ≤ p + 149) × (p + 149 - 2 * h < 64) × (46 ≤ z - 1 + (p + 149 - 2 * h)) × (z + (p + 149 - 2 * h) ≤ 48)
even_at z p h e a b = (omega arith, omega arith, omega arith, omega arith)

pred : (z : ℕ) → 0 < z → z - 1 < z
pred z l = omega arith

pub even : (d p : ℕ) → 0 < d → d < 2 ^ 24 → Even d p
even d p P D = let z = size d in let Z : 0 < z = reaches_size 0 d P in let S : z ≤ 24 = size-le d 24 D in let j = p + 149 - 2 * ((z + p + 102) / 2) in
    let a = even_at z p ((z + p + 102) / 2) refl Z S in record {
      short = S;
      within = a.0;
      shift = a.1;
      least = le_trans (pow_mono a.2) (le_trans (le_of_eq (pow-add 2 (z - 1) j)) (mul-le-mul_right (2 ^ j) (size_reaches d (z - 1) (pred z Z))));
      under = lt_of_lt_of_le (shl_lt z j (size-lt d)) (pow_mono a.3);
    }

-- what the definition of `root` takes from n
pub size_of_square : (d p : ℕ) → 0 < d → size (d * 2 ^ p * 2 ^ 149) ≡ size d + p + 149
size_of_square d p P = let z = size d in let Z : 0 < z = reaches_size 0 d P in
    let e : d * 2 ^ p * 2 ^ 149 ≡ d * 2 ^ (p + 149) = mul_assoc d (2 ^ p) (2 ^ 149) ∙ ap (λ (x : ℕ). d * x) (sym (pow-add 2 p 149)) in
    ap size e ∙ size_is (z - 1 + (p + 149)) (d * 2 ^ (p + 149)) (le_trans (le_of_eq (pow-add 2 (z - 1) (p + 149))) (mul-le-mul_right (2 ^ (p + 149)) (size_reaches d (z - 1) (pred z Z))))
    (subst (λ (x : ℕ). d * 2 ^ (p + 149) < 2 ^ x) (up_one z p Z) (shl_lt z (p + 149) (size-lt d))) ∙ sum z p Z where
      up_one : (z p : ℕ) → 0 < z → z + (p + 149) ≡ suc (z - 1 + (p + 149))
      up_one z p l = omega arith

      sum : (z p : ℕ) → 0 < z → suc (z - 1 + (p + 149)) ≡ z + p + 149
      sum z p l = omega arith

pub half_of_square : (d p : ℕ) → 0 < d → (size (d * 2 ^ p * 2 ^ 149) - 47) / 2 ≡ (size d + p + 102) / 2
half_of_square d p P = ap (λ (x : ℕ). (x - 47) / 2) (size_of_square d p P) ∙ ap (λ (x : ℕ). x / 2) (rest (size d) p) where
  rest : (z p : ℕ) → z + p + 149 - 47 ≡ z + p + 102
  rest z p = omega arith

pub square_whole : (d p h : ℕ) → 2 * h ≤ p + 149 → d * 2 ^ p * 2 ^ 149 ≡ d * 2 ^ (p + 149 - 2 * h) * 2 ^ (2 * h)
square_whole d p h l =
    mul_assoc d (2 ^ p) (2 ^ 149) ∙ ap (λ (x : ℕ). d * x) (sym (pow-add 2 p 149) ∙ ap (λ (x : ℕ). 2 ^ x) (sym (back (p + 149) (2 * h) l)) ∙ pow-add 2 (p + 149 - 2 * h) (2 * h))
    ∙ sym (mul_assoc d (2 ^ (p + 149 - 2 * h)) (2 ^ (2 * h)))

square_cut : (d p h : ℕ) → 2 * h ≤ p + 149 → d * 2 ^ p * 2 ^ 149 / 2 ^ (2 * h) ≡ d * 2 ^ (p + 149 - 2 * h)
square_cut d p h l = ap (λ (x : ℕ). x / 2 ^ (2 * h)) (square_whole d p h l) ∙ mul-div_cancel (d * 2 ^ (p + 149 - 2 * h)) (pow_pos (2 * h))

-- ---- `root` at a value that is finite and above zero
abbrev pub root_at : ℕ → ℕ → Float
root_at n k = units binary32 false (nearest_root (n / 2 ^ (2 * k))) k

pub root_positive : (x : Float) → T (positive x) → root x ≡ root_at (units_of x * 2 ^ 149) ((size (units_of x * 2 ^ 149) - 47) / 2)
unfolding root
root_positive nan p = absurd p
root_positive (inf s) p = absurd p
root_positive (fin true m e) p = absurd p
root_positive (fin false zero e) p = absurd p
root_positive (fin false (suc m) e) p = refl

pub root_by_digits : (x : Float) (d p : ℕ) → T (positive x) → 0 < d → d < 2 ^ 24 → d * 2 ^ p ≡ units_of x
    → root x ≡ units binary32 false (nearest_root (d * 2 ^ (p + 149 - 2 * ((size d + p + 102) / 2)))) ((size d + p + 102) / 2)
root_by_digits x d p P D h e =
    root_positive x P ∙ ap (λ (X : ℕ). root_at (X * 2 ^ 149) ((size (X * 2 ^ 149) - 47) / 2)) (sym e) ∙ ap (λ (k : ℕ). root_at (d * 2 ^ p * 2 ^ 149) k)
    (half_of_square d p D) ∙ ap (λ (n : ℕ). units binary32 false (nearest_root n) ((size d + p + 102) / 2)) (square_cut d p ((size d + p + 102) / 2) (even d p D h).within)
