-- The numbers of a move: how small they are, and that they are read back. Assumes nothing.
use Rattle.numbers.proofs.Prelude.{ℕ, zero, suc, ◌+◌, ◌*◌, ◌/◌, ◌%◌, ◌^◌, ◌<◌, eq-eqb, ne_eqb, ltb-true, ltb-false, ltb, lit<, ℤ, pos, negsuc, ◌-ℤ◌, neg_ℤ, nat_abs, mag, Bool, true, false, ◌≡◌, refl}
use Rattle.numbers.proofs.Prelude.{sym, ap, subst, ◌∙◌, w32, SFits, of_z, to_z, arith}
use Rattle.numbers.proofs.{Answers.{All}, Coordinates.{signed_fits}, Spelling.{even_back, odd_back, signed_back, form_positive}, Tests.{differ, both}, point.Joined.{even_lt}, write.Gaps.{size_neg}}
use Rattle.numbers.specs.{Answer.{found, refused, if◌then◌else◌, in_range, checked, ◌>>=◌}, Point.{signed_of, even_bits, point_of}, Spelling.{signed_form, interleaved}}
use Rattle.numbers.specs.declared.point.RawPoint.{RawPoint}
use lib.IntN.{+ℤ_idr}
use mir.Facts.{to_z-of_z}
use Rattle.border.specs.Place.{move_by, is_zero, is_still, negated}
use Rattle.writer.{proofs.Inverse.{packed_back, packed_some, packed_small}, specs.Moves.{packed_number}}
use Rattle.salvage.specs.Moves.Moves.{step_number}

-- a step from 0
pub from_zero : (z : ℤ) → signed_form (z -ℤ pos 0) ≡ signed_form z
from_zero z = ap signed_form (+ℤ_idr z)

-- two coordinates as they are passed
pub between_forms : {p q : ℤ} {n : ℕ} → SFits w32 p → SFits w32 q → n ≡ signed_form (to_z w32 (of_z w32 q) -ℤ to_z w32 (of_z w32 p)) → n ≡ signed_form (q -ℤ p)
between_forms h k e = rw (to_z-of_z h, to_z-of_z k) at e

-- ---- version 1: both numbers are below 2 ^ 31 in size
pub record Small (by : RawPoint) : Type 0 where
  pub lat_small : nat_abs by.lat < 2 ^ 31
  pub lon_small : nat_abs by.lon < 2 ^ 31

signed_tiny : (v : ℕ) → v < 2 ^ 32 → nat_abs (signed_of v) < 2 ^ 31
signed_tiny v h = go (ltb (v % 2) 1) refl where
  go : (t : Bool) → ltb (v % 2) 1 ≡ t → nat_abs (signed_of v) < 2 ^ 31
  go true e = let same : 2 * (v / 2) ≡ v = omega (arith, ltb-true (v % 2) 1 e) in let half : v / 2 < 2 ^ 31 = omega arith in
      subst (λ (n : ℕ). nat_abs (signed_of n) < 2 ^ 31) same (rw (even_back (v / 2) half) half)
  go false e = let same : 2 * (v / 2) + 1 ≡ v = omega (arith, ltb-false (v % 2) 1 e) in let half : v / 2 < 2 ^ 31 = omega arith in
      subst (λ (n : ℕ). nat_abs (signed_of n) < 2 ^ 31) same (rw (odd_back (v / 2) half, size_neg (pos (v / 2))) half)

pub point_tiny : (v : ℕ) → Small (point_of v)
unfolding point_of
point_tiny v = record { lat_small = signed_tiny (even_bits 32 v) (even_lt 32 v); lon_small = signed_tiny (even_bits 32 (v / 2)) (even_lt 32 (v / 2)) }

pub still_tiny : Small (move_by (pos 0) (pos 0))
still_tiny = record { lat_small = lit< tt; lon_small = lit< tt }

pub negated_tiny : (by : RawPoint) → Small by → All Small (negated by)
unfolding negated checked
negated_tiny by h = go (in_range 31 (neg_ℤ by.lat)) (in_range 31 (neg_ℤ by.lon)) where
  go : (s t : Bool) → All Small ((if s then found (neg_ℤ by.lat) else refused 13) >>= λ lat. (if t then found (neg_ℤ by.lon) else refused 13) >>= λ lon. found (move_by lat lon))
  go true true = record { lat_small = rw (size_neg by.lat) h.lat_small; lon_small = rw (size_neg by.lon) h.lon_small }
  go true false = tt
  go false true = tt
  go false false = tt

-- ---- the number of a move, a zero move's too
zero_is : (z : ℤ) → is_zero z ≡ true → z ≡ pos 0
zero_is (pos zero) e = refl
zero_is (pos (suc n)) e = differ (sym (ne_eqb (suc n) 0 (λ z. omega arith)) ∙ e)
zero_is (negsuc n) e = differ e

pub still_is : (by : RawPoint) → is_still by ≡ true → by ≡ move_by (pos 0) (pos 0)
unfolding is_still
still_is by e = let parts = both (is_zero by.lat) (is_zero by.lon) e in
    let whole : move_by by.lat by.lon ≡ move_by (pos 0) (pos 0) = rw (zero_is by.lat parts.0, zero_is by.lon parts.1) in whole

three : point_of 3 ≡ move_by (pos 0) (pos 0)
unfolding point_of signed_of even_bits
three = refl

module _ (by : RawPoint) (h : Small by) where
  pub step_back : point_of (step_number by) ≡ by
  unfolding step_number
  step_back = go (is_still by) refl where
    go : (t : Bool) → is_still by ≡ t → point_of (if t then 3 else packed_number by) ≡ by
    go true e = three ∙ sym (still_is by e)
    go false e = packed_back by (record { lat_small = h.lat_small; lon_small = h.lon_small; moves = e })

  pub step_some : 0 < step_number by
  unfolding step_number
  step_some = go (is_still by) refl where
    go : (t : Bool) → is_still by ≡ t → 0 < (if t then 3 else packed_number by)
    go true e = lit< tt
    go false e = packed_some by (record { lat_small = h.lat_small; lon_small = h.lon_small; moves = e })

pub step_few : (by : RawPoint) → step_number by < 2 ^ 64
unfolding step_number
step_few by = go (is_still by) where
  go : (t : Bool) → (if t then 3 else packed_number by) < 2 ^ 64
  go true = lit< tt
  go false = packed_small by

form_zero : (z : ℤ) → signed_form z ≡ 0 → is_zero z ≡ true
unfolding signed_form
form_zero (pos n) e = eq-eqb n 0 (omega arith)
form_zero (negsuc n) e = absurd (omega arith)

-- by the signed forms of its two numbers
module _ (by : RawPoint) {a b : ℕ} (lat : a ≡ signed_form by.lat) (lon : b ≡ signed_form by.lon) where
  pub still_number : a ≡ 0 → b ≡ 0 → 3 ≡ step_number by
  unfolding step_number is_still
  still_number h k = rw (form_zero by.lat (sym lat ∙ h), form_zero by.lon (sym lon ∙ k))

  pub going_number : {n : ℕ} → n ≡ interleaved 32 a b → (a ≡ 0 → b ≡ 0 → ⊥) → n ≡ step_number by
  unfolding step_number packed_number
  going_number {n} e some = go (is_still by) refl where
    go : (t : Bool) → is_still by ≡ t → n ≡ (if t then 3 else interleaved 32 (signed_form by.lat) (signed_form by.lon))
    go true s = let zero_lat : a ≡ 0 = lat ∙ ap (λ (m : RawPoint). signed_form m.lat) (still_is by s) ∙ form_positive 0 in
        let zero_lon : b ≡ 0 = lon ∙ ap (λ (m : RawPoint). signed_form m.lon) (still_is by s) ∙ form_positive 0 in absurd (some zero_lat zero_lon)
    go false s = rw (← lat, ← lon) e

-- ---- version 0: an i32 is read back from its signed form, -2 ^ 31 too
pub signed_mag : (v : ℕ) → mag (signed_of v) < 2 ^ 31
signed_mag v = (signed_fits v).sfits

lowest : signed_of (signed_form (negsuc 2147483647)) ≡ negsuc 2147483647
unfolding signed_of signed_form
lowest = refl

pub form_again : (z : ℤ) → mag z < 2 ^ 31 → signed_of (signed_form z) ≡ z
form_again (pos n) h = signed_back (pos n) h
form_again (negsuc n) h = go (ltb (suc n) (2 ^ 31)) refl where
  go : (t : Bool) → ltb (suc n) (2 ^ 31) ≡ t → signed_of (signed_form (negsuc n)) ≡ negsuc n
  go true e = signed_back (negsuc n) (ltb-true (suc n) (2 ^ 31) e)
  go false e = let last : 2147483647 ≡ n = omega (arith, ltb-false (suc n) (2 ^ 31) e) in
      subst (λ (k : ℕ). signed_of (signed_form (negsuc k)) ≡ negsuc k) last lowest

pub form_few : (z : ℤ) → mag z < 2 ^ 31 → signed_form z < 2 ^ 64
unfolding signed_form
form_few (pos n) h = omega arith
form_few (negsuc n) h = omega arith
