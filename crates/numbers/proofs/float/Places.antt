-- The whole part of an f32 from 1 up to 2 ^ 63, by its bits: 24 digits, and the exponent's field, which is from 127 to 189. Assumes nothing.
use Rattle.numbers.proofs.Prelude.{ℕ, ◌+◌, ◌-◌, ◌*◌, ◌/◌, ◌%◌, ◌^◌, ◌≤◌, ◌<◌, T, lit≤, Float, binary32, pow_pos, pow_mono, pow-add, false, not, ◌≡◌, sym, ap, subst, ◌∙◌, le_trans, le_of_eq}
use Rattle.numbers.proofs.Prelude.{lt_of_le_of_lt, lt_of_lt_of_le, not-le_of_lt, mul_assoc, mul-one, one-mul, mul-le-mul_right, mod-eq_of_lt, div-lt_iff_lt-mul, arith}
use Rattle.numbers.proofs.float.{Cutting.{one, power, whole, Ranged, ranged, unsigned_within}, Smallest.{shape, decoded, positive_no_nan}}
use lib.{Ieee.{is_nan, fits, le, lt, to_bits, to_unsigned, Exact.{HasValue}, Nearest.{div_same}, Positive.{num, den, den_pos, le→cross, value→cross}}, Pow.{shl_lt}}
use Rattle.std.proofs.Common.{lt_of_not-le, le-div_iff_mul-le}
use Rattle.numbers.specs.Float.Root.{units_of}

-- powers of two are in the order of their exponents
exponents : {i j : ℕ} → 2 ^ i < 2 ^ j → i < j
exponents h = lt_of_not-le (λ g. not-le_of_lt h (pow_mono g))

-- D digits, 2 ^ 23 at least, at the exponent's field E, and X in all
pub record Fields (X b : ℕ) : Type 0 where
  pub least : 127 ≤ b / 8388608
  pub most : b / 8388608 ≤ 189
  pub whole_is : (b % 8388608 + 8388608) * 2 ^ (b / 8388608 - 1) ≡ X

fields : (X D E : ℕ) → 2 ^ 149 ≤ X → X < 2 ^ 212 → 8388608 ≤ D → D < 16777216 → D * 2 ^ (E - 1) ≡ X → 0 < E → (127 ≤ E) × (E ≤ 189)
fields X D E lo hi d D< e P =
    let up : 149 < 24 + (E - 1) = exponents (lt_of_le_of_lt lo (subst (λ (n : ℕ). n < 2 ^ (24 + (E - 1))) e (shl_lt 24 (E - 1) D<))) in
    let dn : 23 + (E - 1) < 212 = exponents (lt_of_le_of_lt (le_trans (le_of_eq (pow-add 2 23 (E - 1))) (le_trans (mul-le-mul_right (2 ^ (E - 1)) d) (le_of_eq e))) hi) in
    (omega arith, omega arith)

module _ (x : Float) (held : T (fits binary32 x)) (from : T (le one x)) (below : T (lt x (power 63))) where
  in_range : Ranged 63 x
  in_range = ranged 63 x from below

  pub no_nan : T (not (is_nan x))
  no_nan = positive_no_nan x in_range.plain

  exact : num x * 2 ^ 149 ≡ units_of x * den x
  exact = let s = shape x held in
      value→cross x (units_of x) (2 ^ 149) (subst (λ (a : ℕ). HasValue x false a (2 ^ 149)) (sym s.whole) (s.value in_range.plain))

  whole_units : whole x ≡ units_of x / 2 ^ 149
  whole_units = div_same (num x) (den x) (units_of x) (2 ^ 149) (den_pos x) (pow_pos 149) exact

  one_whole : 1 ≤ whole x
  one_whole = (le-div_iff_mul-le (den_pos x)).1 (simp mul-one at (le→cross one x tt in_range.plain from))

  -- X is 2 ^ 149 at least, and below 2 ^ 212
  units_from : 2 ^ 149 ≤ units_of x
  units_from = le_trans (le_of_eq (sym (one-mul (2 ^ 149)))) ((le-div_iff_mul-le (pow_pos 149)).0 (subst (λ (n : ℕ). 1 ≤ n) whole_units one_whole))

  units_under : units_of x < 2 ^ 212
  units_under =
      subst (λ (n : ℕ). units_of x < n) (sym (pow-add 2 63 149)) ((div-lt_iff_lt-mul (pow_pos 149)).0 (subst (λ (n : ℕ). n < 2 ^ 63) whole_units in_range.small))

  pub fields_of : Fields (units_of x) (to_bits binary32 x)
  fields_of = let b = to_bits binary32 x in let d = decoded x held in_range.plain in
      let long : 16777216 ≤ b = lt_of_not_low b (λ l. not-le_of_lt (lt_of_lt_of_le l (lit≤ tt)) (subst (λ (n : ℕ). 2 ^ 149 ≤ n) (sym (d.low l)) units_from)) in
      let e = (d.high long).0 in
      let within = fields (units_of x) (b % 8388608 + 8388608) (b / 8388608) units_from units_under (omega arith) (omega arith) e (omega arith) in
      record { least = within.0; most = within.1; whole_is = e } where
        lt_of_not_low : (b : ℕ) → (b < 16777216 → ⊥) → 16777216 ≤ b
        lt_of_not_low b h = omega arith

  -- the digits at the top of a word, less the places behind the point
  pub placed : (to_bits binary32 x % 8388608 + 8388608) * 2 ^ 40 % 2 ^ 64 / 2 ^ (190 - to_bits binary32 x / 8388608) ≡ to_unsigned 64 x
  placed = let b = to_bits binary32 x in let D = b % 8388608 + 8388608 in let E = b / 8388608 in let f = fields_of in
      let fit : D * 2 ^ 40 < 2 ^ 64 = shl_lt 24 40 (full b) in
      ap (λ (n : ℕ). n / 2 ^ (190 - E)) (mod-eq_of_lt fit) ∙ div_same (D * 2 ^ 40) (2 ^ (190 - E)) (units_of x) (2 ^ 149) (pow_pos (190 - E)) (pow_pos 149)
      (scaled D E f.least f.most ∙ ap (λ (n : ℕ). n * 2 ^ (190 - E)) f.whole_is) ∙ sym (unsigned_within 64 x (wider in_range) ∙ whole_units) where
        full : (b : ℕ) → b % 8388608 + 8388608 < 16777216
        full b = omega arith

        wider : Ranged 63 x → Ranged 64 x
        wider r = record { plain = r.plain; small = lt_of_lt_of_le r.small (lit≤ tt) }

        sum : (E : ℕ) → 127 ≤ E → E ≤ 189 → 40 + 149 ≡ E - 1 + (190 - E)
        sum E l h = omega arith

        scaled : (D E : ℕ) → 127 ≤ E → E ≤ 189 → D * 2 ^ 40 * 2 ^ 149 ≡ D * 2 ^ (E - 1) * 2 ^ (190 - E)
        scaled D E l h =
            mul_assoc D (2 ^ 40) (2 ^ 149) ∙ ap (λ (n : ℕ). D * n) (sym (pow-add 2 40 149) ∙ ap (λ (n : ℕ). 2 ^ n) (sum E l h) ∙ pow-add 2 (E - 1) (190 - E))
            ∙ sym (mul_assoc D (2 ^ (E - 1)) (2 ^ (190 - E)))
