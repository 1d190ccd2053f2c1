-- A fraction rounded to a format: 24 digits of the quotient, wherever they stand, and the remainder say what `round` gives (`round_fraction`);
-- and a division that goes on behind the point, a binary digit at a time. Assumes nothing.
use Rattle.numbers.proofs.Prelude.{ℕ, suc, ◌+◌, ◌-◌, ◌*◌, ◌/◌, ◌%◌, ◌^◌, ◌≤◌, ◌<◌, eq-eqb, ne_eqb, Float, binary32, of_bits, neg, pow_pos, pow_mono, pow-add, Bool, true, false, ◌≡◌, refl, sym, ap}
use Rattle.numbers.proofs.Prelude.{subst, ◌∙◌, not-le_of_lt, mul_assoc, mul-one, one-mul, add-mul, mul-pos, mul-le-mul_right, pow-suc, mod-lt, div-lt_iff_lt-mul, arith}
use Rattle.numbers.proofs.float.Rounding.{size_is, round_neg}
use Prim.Native.Nat.{compare}
use Rattle.request.specs.Number.{nearest_to}
use lib.{Arith.{digits_div, digits_mod}, Ieee.{Format, of_fields, odd, prec, low, size, nearest, units, round, Fits.{round_is, two, two-le_pos}, Nearest.{closest, closest_same}}}
use native.Mathlib.Nat.{mul_right_comm, lt_of_not-le, div-add-mod', div-div-eq-div-mul, mul-div-mul_right, le-div_iff_mul-le}

-- a number that keeps p digits when K are dropped has that many in all
places : (w p K : ℕ) → 0 < p → 2 ^ (p - 1) ≤ w / 2 ^ K → w / 2 ^ K < 2 ^ p → size w - p ≡ K
places w p K P lo hi = let a : 2 ^ (p - 1 + K) ≤ w = subst (λ (x : ℕ). x ≤ w) (sym (pow-add 2 (p - 1) K)) ((le-div_iff_mul-le (pow_pos K)).0 lo) in
    let e : p + K ≡ suc (p - 1 + K) = omega arith in
    let b : w < 2 ^ suc (p - 1 + K) = subst (λ (x : ℕ). w < 2 ^ x) e (subst (λ (x : ℕ). w < x) (sym (pow-add 2 p K)) ((div-lt_iff_lt-mul (pow_pos K)).0 hi)) in
    let s : size w ≡ suc (p - 1 + K) = size_is (p - 1 + K) w a b in omega arith

shifted : (a i m l : ℕ) → i + m ≡ l → a * 2 ^ l ≡ a * 2 ^ i * 2 ^ m
shifted a i m l e = ap (λ (x : ℕ). a * 2 ^ x) (sym e) ∙ ap (λ (x : ℕ). a * x) (pow-add 2 i m) ∙ sym (mul_assoc a (2 ^ i) (2 ^ m))

-- the law: num * 2 ^ i over den * 2 ^ k has as many digits as the format keeps
pub round_fraction : (f : Format) (s : Bool) (num den i k m : ℕ) → 0 < den → i + m ≡ low f → 2 ^ (prec f - 1) ≤ num * 2 ^ i / (den * 2 ^ k)
    → num * 2 ^ i / (den * 2 ^ k) < 2 ^ prec f → round f s num den ≡ units f s (closest (num * 2 ^ i) (den * 2 ^ k)) (k + m)
round_fraction f s num den i k m D e lo hi = let l = low f in let p = prec f in let n : num * 2 ^ l ≡ num * 2 ^ i * 2 ^ m = shifted num i m l e in
    let u : den * 2 ^ (k + m) ≡ den * 2 ^ k * 2 ^ m = shifted den k m (k + m) refl in
    let q : num * 2 ^ l / den / 2 ^ (k + m) ≡ num * 2 ^ i / (den * 2 ^ k) = div-div-eq-div-mul (num * 2 ^ l) den (2 ^ (k + m)) ∙ ap (λ (x : ℕ). x / (den * 2 ^ (k + m))) n
    ∙ ap (λ (x : ℕ). num * 2 ^ i * 2 ^ m / x) u ∙ mul-div-mul_right (num * 2 ^ i) (den * 2 ^ k) (pow_pos m) in
    let K : size (num * 2 ^ l / den) - p ≡ k + m = places (num * 2 ^ l / den) p (k + m) (two-le_pos p (two f)) (subst (λ (x : ℕ). 2 ^ (p - 1) ≤ x) (sym q) lo)
    (subst (λ (x : ℕ). x < 2 ^ p) (sym q) hi) in
    let same : num * 2 ^ l * (den * 2 ^ k) ≡ num * 2 ^ i * (den * 2 ^ (k + m)) = ap (λ (x : ℕ). x * (den * 2 ^ k)) n ∙ mul_right_comm (num * 2 ^ i) (2 ^ m)
    (den * 2 ^ k) ∙ mul_assoc (num * 2 ^ i) (den * 2 ^ k) (2 ^ m) ∙ ap (λ (x : ℕ). num * 2 ^ i * x) (sym u) in
    round_is f s num den ∙ ap (λ (z : ℕ). units f s (closest (num * 2 ^ l) (den * 2 ^ z)) z) K ∙ ap (λ (x : ℕ). units f s x (k + m)) (closest_same (num * 2 ^ l)
    (den * 2 ^ (k + m)) (num * 2 ^ i) (den * 2 ^ k) (mul-pos D (pow_pos (k + m))) (mul-pos D (pow_pos k)) same)

-- what a division gave
pub quotient_nearest : (a unit kept rest : ℕ) → kept * unit + rest ≡ a → rest < unit → nearest kept (compare (rest * 2) unit) ≡ closest a unit
quotient_nearest a unit kept rest e h =
    ap (λ (x : ℕ). nearest x (compare (rest * 2) unit)) (sym (digits_div kept h)) ∙ ap (λ (x : ℕ). nearest ((kept * unit + rest) / unit) (compare (x * 2) unit))
    (sym (digits_mod kept h)) ∙ ap (λ (x : ℕ). closest x unit) e

-- digits added behind it
pub short_law : (num den i m kept rest : ℕ) → 0 < den → i + m ≡ 149 → kept * den + rest ≡ num * 2 ^ i → rest < den → 8388608 ≤ kept → kept < 16777216
    → units binary32 false (nearest kept (compare (rest * 2) den)) m ≡ round binary32 false num den
short_law num den i m kept rest D e whole h lo hi = let u : den * 2 ^ 0 ≡ den = mul-one den in
    let q : kept ≡ num * 2 ^ i / (den * 2 ^ 0) = sym (digits_div kept h) ∙ ap (λ (x : ℕ). x / den) whole ∙ ap (λ (x : ℕ). num * 2 ^ i / x) (sym u) in
    let z : 0 + m ≡ m = omega arith in
    ap (λ (x : ℕ). units binary32 false x m) (quotient_nearest (num * 2 ^ i) den kept rest whole h ∙ ap (λ (x : ℕ). closest (num * 2 ^ i) x) (sym u))
    ∙ ap (λ (x : ℕ). units binary32 false (closest (num * 2 ^ i) (den * 2 ^ 0)) x) (sym z)
    ∙ sym (round_fraction binary32 false num den i 0 m D e (subst (λ (x : ℕ). 8388608 ≤ x) q lo) (subst (λ (x : ℕ). x < 16777216) q hi))

-- so far: kept digits and a remainder of num / den, moved up by as many digits as the place went down
pub record Going (num den kept rest place : ℕ) : Type 0 where
  pub whole : kept * den + rest ≡ num * 2 ^ (149 - place)
  pub less : rest < den
  pub small : kept < 16777216
  pub high : place ≤ 149

pub going_first : (num den : ℕ) → 0 < den → num / den < 16777216 → Going num den (num / den) (num % den) 149
going_first num den D h = record { whole = div-add-mod' num den ∙ sym (mul-one num); less = mod-lt num D; small = h; high = omega arith }

-- twice what was divided
twice : (num kept den rest i : ℕ) → kept * den + rest ≡ num * 2 ^ i → kept * 2 * den + rest * 2 ≡ num * 2 ^ suc i
twice num kept den rest i e = let a : kept * 2 * den ≡ kept * den * 2 = mul_right_comm kept 2 den in
    let b : num * 2 ^ suc i ≡ num * 2 ^ i * 2 = ap (λ (x : ℕ). num * x) (pow-suc 2 i) ∙ sym (mul_assoc num (2 ^ i) 2) in omega arith

module _ {num den kept rest place : ℕ} (g : Going num den kept rest place) (few : kept < 8388608) where
  -- with fewer than 24 digits the place is still far from 0
  pub going_room : 0 < num → den < 2 ^ 64 → 0 < place
  going_room N D = let i = 149 - place in let a : 2 ^ i ≤ num * 2 ^ i = subst (λ (x : ℕ). x ≤ num * 2 ^ i) (one-mul (2 ^ i)) (mul-le-mul_right (2 ^ i) N) in
      let b : kept * den ≤ 8388607 * den = mul-le-mul_right den (omega arith) in let w = g.whole in let r = g.less in let d : 2 ^ i < 2 ^ 87 = omega arith in
      let n : 87 ≤ i → ⊥ = λ h. not-le_of_lt d (pow_mono h) in let s : i < 87 = lt_of_not-le n in omega arith

  next : 0 < place → 149 - (place - 1) ≡ suc (149 - place)
  next h = let t = g.high in omega arith

  pub going_on : 0 < place → rest < den - rest → Going num den (kept * 2) (rest * 2) (place - 1)
  going_on h l =
      record {
        whole = twice num kept den rest (149 - place) g.whole ∙ ap (λ (x : ℕ). num * 2 ^ x) (sym (next h));
        less = omega arith;
        small = omega arith;
        high = let t = g.high in omega arith;
      }

  pub going_over : 0 < place → den - rest ≤ rest → Going num den (kept * 2 + 1) (rest - (den - rest)) (place - 1)
  going_over h l = let a : (kept * 2 + 1) * den ≡ kept * 2 * den + den = add-mul (kept * 2) 1 den ∙ ap (λ (x : ℕ). kept * 2 * den + x) (one-mul den) in
      let r = g.less in let b : (kept * 2 + 1) * den + (rest - (den - rest)) ≡ kept * 2 * den + rest * 2 = omega arith in record {
        whole = b ∙ twice num kept den rest (149 - place) g.whole ∙ ap (λ (x : ℕ). num * 2 ^ x) (sym (next h));
        less = omega arith;
        small = omega arith;
        high = let t = g.high in omega arith;
      }

-- ---- with a sign
module _ (minus : Bool) (num den : ℕ) where
  pub nearest_zero : num ≡ 0 → of_bits binary32 0 ≡ nearest_to (record { minus = minus; size = record { num = num; den = den } })
  unfolding nearest_to of_bits of_fields odd
  nearest_zero e = simp (eq-eqb num 0 e)

  module _ (some : num ≡ 0 → ⊥) {size : Float} (s : size ≡ round binary32 false num den) where
    pub nearest_minus : minus ≡ true → neg size ≡ nearest_to (record { minus = minus; size = record { num = num; den = den } })
    unfolding nearest_to
    nearest_minus e = ap neg s ∙ sym (round_neg binary32 num den) ∙ simp (ne_eqb num 0 some, e)

    pub nearest_plus : minus ≡ false → size ≡ nearest_to (record { minus = minus; size = record { num = num; den = den } })
    unfolding nearest_to
    nearest_plus e = s ∙ simp (ne_eqb num 0 some, e)
