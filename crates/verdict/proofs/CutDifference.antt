-- A float less a whole number, cut: at most one off the difference of the float's cut and the number. Assumes nothing.
use Rattle.numbers.proofs.Prelude.{ℕ, zero, suc, ◌+◌, ◌-◌, ◌*◌, ◌/◌, ◌^◌, ◌≤◌, ◌<◌, min, ltb-true, ltb-false, eqb, ltb, T, lit<, Float, binary32, fin, nan, inf, of_int, to_signed, add, sub, neg, ℤ}
use Rattle.numbers.proofs.Prelude.{pos, negsuc, ◌-ℤ◌, neg_ℤ, nat_abs, mag, Bool, true, false, ◌&&◌, ◌||◌, not, cond, ◌⊎◌, inl, inr, ◌≡◌, refl, sym, ap, subst, ◌∙◌, le_of_lt, le_of_eq, mul_comm}
use Rattle.numbers.proofs.{Prelude.{mul_assoc, mul-one, suc-mul, add-mul, mul-pos, mul-le-mul_right, arith}, write.Gaps.{size_neg}}
use Rattle.std.proofs.Common.{true≢false, zero-le, mul_right_comm, div-mul-le_self, le_of_mul-le-mul_right, mul-div_cancel}
use native.Mathlib.Nat.{lt-div-mul-add, mul-sub}
use mathlib.Core.Bool.{not-not}
use lib.{Dec.{ltb→lt, eqb→eq}, Ieee.{Format, prec, low, emax, up, down, odd, units, round, sum, le, Back.{round_whole}, Exact.{HasValue}, Fits.{round_is, down_pos, and_l}, Nearest.{div_mono}}}
use lib.{Ieee.{Order.{round_mono}, Positive.{positive_of_value, values_of_le, above, above_of_le}}, IntN.{pos-ne-negsuc, +ℤ_idr}}

-- ---- the sign of a rounded fraction

abbrev pub with_sign : Bool → Float → Float
with_sign s nan = nan
with_sign s (inf t) = inf s
with_sign s (fin t m e) = fin s m e

odd_signed : (d : ℕ) (s : Bool) (q k l : ℕ) → odd d s q k l ≡ with_sign s (odd d false q k l)
unfolding odd
odd_signed d s zero k l = refl
odd_signed d s (suc q) k l = refl

units_signed : (f : Format) (s : Bool) (q k : ℕ) → units f s q k ≡ with_sign s (units f false q k)
unfolding units
units_signed f s q k = go (ltb (q * 2 ^ k) (2 ^ (low f + suc (emax f)))) where
  go : (b : Bool) → cond b (odd (suc (prec f)) s q k (low f)) (inf s) ≡ with_sign s (cond b (odd (suc (prec f)) false q k (low f)) (inf false))
  go true = odd_signed (suc (prec f)) s q k (low f)
  go false = refl

pub round_signed : (s : Bool) (a d : ℕ) → round binary32 s a d ≡ with_sign s (round binary32 false a d)
round_signed s a d = round_is binary32 s a d ∙ units_signed binary32 s _ _ ∙ ap (with_sign s) (sym (round_is binary32 false a d))

-- ---- sizes

abbrev pub size_of : Float → ℕ
size_of x = nat_abs (to_signed 63 x)

fin_size : (s : Bool) (m : ℕ) (e : ℤ) → m * up e / down e ≤ 2 ^ 25 → size_of (fin s m e) ≡ m * up e / down e
unfolding to_signed
fin_size true m e h = size_neg (pos (min (m * up e / down e) (2 ^ 63))) ∙ omega (arith, h)
fin_size false m e h = omega (arith, h)

fin_least : (s : Bool) (m : ℕ) (e : ℤ) (n : ℕ) → n ≤ 2 ^ 24 → n ≤ m * up e / down e → n ≤ size_of (fin s m e)
unfolding to_signed
fin_least true m e n h k = subst (λ (z : ℕ). n ≤ z) (sym (size_neg (pos (min (m * up e / down e) (2 ^ 63))))) (omega (arith, h, k))
fin_least false m e n h k = omega (arith, h, k)

inf_least : (s : Bool) (n : ℕ) → n ≤ 2 ^ 24 → n ≤ size_of (inf s)
unfolding to_signed
inf_least true n h = omega (arith, h)
inf_least false n h = omega (arith, h)

-- a fraction that is a whole number
cut_whole : (k : ℕ) (d : ℤ) (n : ℕ) → k * up d * 1 ≡ n * down d → k * up d / down d ≡ n
cut_whole k d n h = ap (λ (x : ℕ). x / down d) (sym (mul-one (k * up d)) ∙ h) ∙ mul-div_cancel n (down_pos d)

or_split : (a b : Bool) → T (a || b) → T a ⊎ T b
or_split true b t = inl tt
or_split false b t = inr t

pub lt_or_eq : (a b : ℕ) → T (ltb a b || (eqb a b && true)) → a ≤ b
lt_or_eq a b t = elim (or_split (ltb a b) (eqb a b && true) t) [ inl u ↦ le_of_lt (ltb→lt a b u) | inr u ↦ le_of_eq (eqb→eq a b (and_l (eqb a b) true u)) ]

at_least : (x y : Float) (n : ℕ) → n ≤ 2 ^ 24 → 0 < n → HasValue x false n 1 → T (le x y) → (s : Bool) → n ≤ size_of (with_sign s y)
at_least x y n h p v l s = go y l (above_of_le x y (positive_of_value x n 1 v p) l) where
  go : (y : Float) → T (le x y) → T (above y) → n ≤ size_of (with_sign s y)
  go nan l a = absurd a
  go (inf t) l a = inf_least s n h
  go (fin true m e) l a = absurd a
  go (fin false m e) l a =
      let c : n * down e ≤ m * up e * 1 = values_of_le x (fin false m e) n 1 (m * up e) (down e) (positive_of_value x n 1 v p) a v (refl, refl) l in
      fin_least s m e n h (subst (λ (z : ℕ). z ≤ m * up e / down e) (omega arith) (div_mono n 1 (m * up e) (down e) (lit< tt) (down_pos e) c))

at_most : (y z : Float) (n : ℕ) → n ≤ 2 ^ 24 → HasValue z false n 1 → y ≡ with_sign false y → T (le y z) → (s : Bool) → size_of (with_sign s y) ≤ n
unfolding to_signed le
at_most y z n h v e l s = go y z v (subst (λ (x : Float). T (le x z)) e l) where
  small : (t : Bool) (m : ℕ) (d : ℤ) → m * up d / down d ≤ n → size_of (fin t m d) ≤ n
  small t m d k = subst (λ (z : ℕ). z ≤ n) (sym (fin_size t m d (omega (arith, h, k)))) k

  go : (y z : Float) → HasValue z false n 1 → T (le (with_sign false y) z) → size_of (with_sign s y) ≤ n
  go nan z v l = zero-le
  go (inf t) nan v l = absurd v
  go (inf t) (inf u) v l = absurd v
  go (inf t) (fin u k d) v l = absurd l
  go (fin t m e) z v l = small s m e (go_fin z v l) where
    go_fin : (z : Float) → HasValue z false n 1 → T (le (fin false m e) z) → m * up e / down e ≤ n
    go_fin nan v l = absurd v
    go_fin (inf u) v l = absurd v
    go_fin (fin true k d) v l = absurd (true≢false v.0)
    go_fin (fin false k d) v l = let c : m * up e * down d ≤ k * up d * down e = lt_or_eq (m * up e * down d) (k * up d * down e) l in
        subst (λ (w : ℕ). m * up e / down e ≤ w) (cut_whole k d n v.1) (div_mono (m * up e) (down e) (k * up d) (down d) (down_pos e) (down_pos d) c)

module _ (a d : ℕ) (D : 0 < d) where
  -- a rounded fraction is at least a whole number that the fraction is
  rounded_least : (n : ℕ) → n ≤ 2 ^ 24 → n * d ≤ a → (s : Bool) → n ≤ size_of (round binary32 s a d)
  rounded_least zero h k s = zero-le
  rounded_least (suc n) h k s =
      subst (λ (y : Float). suc n ≤ size_of y) (sym (round_signed s a d)) (at_least (round binary32 false (suc n) 1) (round binary32 false a d) (suc n) h
      (omega arith) (round_whole binary32 false (suc n) h) (round_mono binary32 (suc n) 1 a d (lit< tt) D (subst (λ (z : ℕ). suc n * d ≤ z) (sym (mul-one a)) k)) s)

  rounded_most : (n : ℕ) → n ≤ 2 ^ 24 → a ≤ n * d → (s : Bool) → size_of (round binary32 s a d) ≤ n
  rounded_most n h k s =
      subst (λ (y : Float). size_of y ≤ n) (sym (round_signed s a d)) (at_most (round binary32 false a d) (round binary32 false n 1) n h (round_whole binary32 false n h)
      (round_signed false a d) (round_mono binary32 a d n 1 D (lit< tt) (subst (λ (z : ℕ). z ≤ n * d) (sym (mul-one a)) k)) s)

-- ---- a sum of two fractions over one denominator

-- q is the first one's whole part, n is the second one
mul_sub_right : (q n d : ℕ) → (q - n) * d ≡ q * d - n * d
mul_sub_right q n d = mul_comm (q - n) d ∙ mul-sub d q n ∙ rw (mul_comm q d, mul_comm n d)

module _ (q n a d : ℕ) (D : 0 < d) (least : q * d ≤ a) (most : a ≤ suc q * d) (small : suc q + n ≤ 2 ^ 24) where
  both_parts : (q + n) * d ≡ q * d + n * d
  both_parts = add-mul q n d

  all_parts : (suc q + n) * d ≡ suc q * d + n * d
  all_parts = add-mul (suc q) n d

  -- of one sign
  together : (s : Bool) → (q + n ≤ size_of (round binary32 s (a + n * d) d)) × (size_of (round binary32 s (a + n * d) d) ≤ suc q + n)
  together s = (rounded_least (a + n * d) d D (q + n) (omega (arith, small)) (omega (arith, both_parts, least)) s, rounded_most (a + n * d) d D (suc q + n) small (omega (arith, all_parts, most)) s)

  -- of two
  less : (s : Bool) → n * d ≤ a → (q - n ≤ size_of (round binary32 s (a - n * d) d)) × (n ≤ suc q) × (size_of (round binary32 s (a - n * d) d) ≤ suc q + n)
  less s h = (
    rounded_least (a - n * d) d D (q - n) (omega (arith, small)) (omega (arith, mul_sub_right q n d, least)) s,
    le_of_mul-le-mul_right (omega (arith, h, most))
        D,
    rounded_most (a - n * d) d D (suc q + n) small (omega (arith, all_parts, most)) s,
  )

  more : (s : Bool) → a < n * d → (n - suc q ≤ size_of (round binary32 s (n * d - a) d)) × (q ≤ n) × (size_of (round binary32 s (n * d - a) d) ≤ suc q + n)
  more s h = (
    rounded_least (n * d - a) d D (n - suc q) (omega (arith, small)) (omega (arith, mul_sub_right n (suc q) d, most)) s,
    le_of_mul-le-mul_right
        (omega (arith, h, least)) D,
    rounded_most (n * d - a) d D (suc q + n) small (omega (arith, all_parts, most)) s,
  )

-- ---- the difference of a float and a whole number

-- a float's whole part
abbrev pub whole_part : ℕ → ℤ → ℕ
whole_part m e = m * up e / down e

apart_neg : (q n k : ℕ) → q - n ≤ k → n - suc q ≤ k → nat_abs (pos q -ℤ pos n) ≤ suc k
apart_neg q zero k h g = omega (arith, h, g)
apart_neg q (suc n) k h g = go (ltb q (suc n)) refl where
  go : (t : Bool) → ltb q (suc n) ≡ t → nat_abs (cond t (negsuc (suc n - suc q)) (pos (q - suc n))) ≤ suc k
  go true e = omega (arith, h, g, ltb-true q (suc n) e)
  go false e = omega (arith, h, g, ltb-false q (suc n) e)

apart_pos : (p n k : ℕ) → suc p - suc n ≤ k → suc n - suc (suc p) ≤ k → nat_abs (negsuc p -ℤ negsuc n) ≤ suc k
apart_pos p n k h g = go (ltb (suc n) (suc p)) refl where
  go : (t : Bool) → ltb (suc n) (suc p) ≡ t → nat_abs (cond t (negsuc (suc p - suc (suc n))) (pos (suc n - suc p))) ≤ suc k
  go true e = omega (arith, h, g, ltb-true (suc n) (suc p) e)
  go false e = omega (arith, h, g, ltb-false (suc n) (suc p) e)

-- sums of two signs, and of one
pub record Unlike (q n : ℕ) (y : Float) : Type 0 where
  pub above : q - n ≤ size_of y
  pub below : n - suc q ≤ size_of y
  pub most : size_of y ≤ suc q + n

pub record Alike (q n : ℕ) (y : Float) : Type 0 where
  pub least : q + n ≤ size_of y
  pub most : size_of y ≤ suc q + n

module _ (q n a d : ℕ) (D : 0 < d) (least : q * d ≤ a) (most : a ≤ suc q * d) (small : suc q + n ≤ 2 ^ 24) where
  sum_alike : (s : Bool) → Alike q n (sum binary32 s a s (n * d) d)
  unfolding sum
  sum_alike true = let h = together q n a d D least most small true in record { least = h.0; most = h.1 }
  sum_alike false = let h = together q n a d D least most small false in record { least = h.0; most = h.1 }

  signs : (s t : Bool) → Unlike q n (cond (ltb a (n * d)) (round binary32 t (n * d - a) d) (round binary32 s (a - n * d) d))
  signs s t = go (ltb a (n * d)) refl where
    go : (b : Bool) → ltb a (n * d) ≡ b → Unlike q n (cond b (round binary32 t (n * d - a) d) (round binary32 s (a - n * d) d))
    go true e = let h = more q n a d D least most small t (ltb-true a (n * d) e) in record { above = omega (arith, h.1); below = h.0; most = h.2 }
    go false e = let h = less q n a d D least most small s (ltb-false a (n * d) e) in record { above = h.0; below = omega (arith, h.1); most = h.2 }

  sum_unlike : (s : Bool) → Unlike q n (sum binary32 s a (not s) (n * d) d)
  unfolding sum
  sum_unlike true = signs (true && ltb (n * d) a) false
  sum_unlike false = signs false true

module _ (s : Bool) (m : ℕ) (e : ℤ) (n : ℕ) (small : suc (whole_part m e) + n ≤ 2 ^ 24) where
  abbrev q : ℕ
  q = whole_part m e

  at_denominator : (d k : ℕ) → k ≡ n * d → k * down e ≡ n * (down e * d)
  at_denominator d k h = ap (λ (x : ℕ). x * down e) h ∙ mul_right_comm n d (down e) ∙ mul_assoc n (down e) d

  whole_least : (d : ℕ) → q * (down e * d) ≤ m * up e * d
  whole_least d = subst (λ (x : ℕ). x ≤ m * up e * d) (mul_assoc q (down e) d) (mul-le-mul_right d (div-mul-le_self (m * up e) (down e)))

  whole_most : (d : ℕ) → m * up e * d ≤ suc q * (down e * d)
  whole_most d =
      subst (λ (x : ℕ). m * up e * d ≤ x) (mul_assoc (suc q) (down e) d) (mul-le-mul_right d (le_of_lt (subst (λ (x : ℕ). m * up e < x) (omega (arith, suc-mul q (down e)))
      (lt-div-mul-add {a = m * up e} (down_pos e)))))

  pub less_unlike : (w : Float) → HasValue w s n 1 → Unlike q n (sub binary32 (fin s m e) w)
  unfolding sub add neg
  less_unlike nan v = absurd v
  less_unlike (inf t) v = absurd v
  less_unlike (fin t k d) v =
      rw (v.0, at_denominator (down d) (k * up d) (sym (mul-one (k * up d)) ∙ v.1))
      (sum_unlike q n (m * up e * down d) (down e * down d) (mul-pos (down_pos e) (down_pos d)) (whole_least (down d)) (whole_most (down d)) small s)

  pub less_alike : (w : Float) → HasValue w (not s) n 1 → Alike q n (sub binary32 (fin s m e) w)
  unfolding sub add neg
  less_alike nan v = absurd v
  less_alike (inf t) v = absurd v
  less_alike (fin t k d) v =
      rw (v.0, not-not s, at_denominator (down d) (k * up d) (sym (mul-one (k * up d)) ∙ v.1))
      (sum_alike q n (m * up e * down d) (down e * down d) (mul-pos (down_pos e) (down_pos d)) (whole_least (down d)) (whole_most (down d)) small s)

-- ---- the theorem for one coordinate

-- what is cut off a float less a whole number is less than one
pub record Close (c z : ℤ) (y : Float) : Type 0 where
  pub least : nat_abs (c -ℤ z) ≤ suc (size_of y)
  pub most : size_of y ≤ 2 ^ 24

pub whole_value : (n : ℕ) → n ≤ 2 ^ 23 → HasValue (of_int binary32 (pos n)) false n 1
unfolding of_int
whole_value n h = round_whole binary32 false n (omega (arith, h))

pub negative_value : (n : ℕ) → n ≤ 2 ^ 23 → HasValue (of_int binary32 (negsuc n)) true (suc n) 1
unfolding of_int
negative_value n h = round_whole binary32 true (suc n) (omega (arith, h))

module _ (m : ℕ) (e : ℤ) where
  close_up : (q : ℕ) → whole_part m e ≡ q → q ≤ 2 ^ 22 → (z : ℤ) → mag z ≤ 2 ^ 22 → Close (pos q) z (sub binary32 (fin false m e) (of_int binary32 z))
  close_up q h k (pos n) g = let u = less_unlike false m e n (omega (arith, h, k, g)) (of_int binary32 (pos n)) (whole_value n (omega (arith, g))) in
      let k' = size_of (sub binary32 (fin false m e) (of_int binary32 (pos n))) in
      record { least = apart_neg q n k' (subst (λ (x : ℕ). x - n ≤ k') h u.above) (subst (λ (x : ℕ). n - suc x ≤ k') h u.below); most = omega (arith, h, k, g, u.most) }
  close_up q h k (negsuc n) g =
      let u = less_alike false m e (suc n) (omega (arith, h, k, g)) (of_int binary32 (negsuc n)) (negative_value n (omega (arith, g))) in
      record { least = omega (arith, h, u.least); most = omega (arith, h, k, g, u.most) }

  close_down : (p : ℕ) → whole_part m e ≡ suc p → p < 2 ^ 22 → (z : ℤ) → mag z ≤ 2 ^ 22 → Close (negsuc p) z (sub binary32 (fin true m e) (of_int binary32 z))
  close_down p h k (pos zero) g = let u = less_alike true m e 0 (omega (arith, h, k, g)) (of_int binary32 (pos 0)) (whole_value 0 (omega (arith, g))) in
      record { least = omega (arith, h, u.least, ap nat_abs (+ℤ_idr (negsuc p))); most = omega (arith, h, k, g, u.most) }
  close_down p h k (pos (suc n)) g =
      let u = less_alike true m e (suc n) (omega (arith, h, k, g)) (of_int binary32 (pos (suc n))) (whole_value (suc n) (omega (arith, g))) in
      record { least = omega (arith, h, u.least); most = omega (arith, h, k, g, u.most) }
  close_down p h k (negsuc n) g =
      let u = less_unlike true m e (suc n) (omega (arith, h, k, g)) (of_int binary32 (negsuc n)) (negative_value n (omega (arith, g))) in
      let k' = size_of (sub binary32 (fin true m e) (of_int binary32 (negsuc n))) in
      record { least = apart_pos p n k' (subst (λ (x : ℕ). x - suc n ≤ k') h u.above) (subst (λ (x : ℕ). suc n - suc x ≤ k') h u.below); most = omega (arith, h, k, g, u.most) }

-- a cut below the i32's ends is the whole part
cut_positive : (s : Bool) (m : ℕ) (e : ℤ) (q : ℕ) → q ≤ 2 ^ 22 → to_signed 31 (fin s m e) ≡ pos (suc q) → (s ≡ false) × (whole_part m e ≡ suc q)
unfolding to_signed
cut_positive true m e q k h = absurd (never (min (whole_part m e) (2 ^ 31)) h) where
  never : (n : ℕ) → neg_ℤ (pos n) ≡ pos (suc q) → ⊥
  never zero h = let z = ap nat_abs h in omega (arith, z)
  never (suc n) h = pos-ne-negsuc (suc q) n (sym h)
cut_positive false m e q k h = let z = ap nat_abs h in (refl, omega (arith, z, k))

cut_negative : (s : Bool) (m : ℕ) (e : ℤ) (p : ℕ) → p < 2 ^ 22 → to_signed 31 (fin s m e) ≡ negsuc p → (s ≡ true) × (whole_part m e ≡ suc p)
unfolding to_signed
cut_negative false m e p k h = absurd (pos-ne-negsuc _ p h)
cut_negative true m e p k h = let z = sym (size_neg (pos (min (whole_part m e) (2 ^ 31)))) ∙ ap nat_abs h in (refl, omega (arith, z, k))

-- A float whose cut is c, not 0 and at most 2 ^ 22 in size, less a whole number of at most that size: what is cut of the difference is at most one nearer to 0
-- than the difference of c. It is no NaN and no infinity.
pub close : (x : Float) (c z : ℤ) → to_signed 31 x ≡ c → (c ≡ pos 0 → ⊥) → mag c < 2 ^ 22 → mag z ≤ 2 ^ 22 → Close c z (sub binary32 x (of_int binary32 z))
unfolding to_signed
close nan c z h n k g = absurd (n (sym h))
close (inf true) c z h n k g = let m = ap mag h in absurd (omega (arith, m, k))
close (inf false) c z h n k g = let m = ap mag h in absurd (omega (arith, m, k))
close (fin s m e) (pos zero) z h n k g = absurd (n refl)
close (fin s m e) (pos (suc q)) z h n k g = let cut = cut_positive s m e q (omega (arith, k)) h in rw cut.0 (close_up m e (suc q) cut.1 (omega (arith, k)) z g)
close (fin s m e) (negsuc p) z h n k g = let cut = cut_negative s m e p k h in rw cut.0 (close_down m e p cut.1 k z g)
