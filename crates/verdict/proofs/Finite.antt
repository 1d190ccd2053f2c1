-- The point of an edge's line that is closest to a location has no NaN, where the coordinates are less than 2 ^ 22 in size. Assumes nothing.
use Rattle.numbers.proofs.Prelude.{ℕ, zero, suc, ◌+◌, ◌-◌, ◌*◌, ◌^◌, ◌≤◌, ◌<◌, lt-ltb, le-leb, le-ltb, ltb-true, ltb-false, eqb, ltb, leb, T, lit<, Float, binary32, fin, nan, inf, of_int, add, sub}
use Rattle.numbers.proofs.Prelude.{mul, div, neg, ℤ, pos, negsuc, mag, Bool, true, false, ◌&&◌, not, cond, ◌⊎◌, inl, inr, ◌≡◌, refl, sym, ap, subst, ◌∙◌, le_trans, mul_comm, mul_assoc, mul-one}
use Rattle.numbers.{proofs.Prelude.{suc-mul, add-mul, mul-pos, mul-le-mul, mul-le-mul_right, arith}, specs.{Answer.{if◌then◌else◌}, Float.{to_f32, ◌⊞◌, ◌⊟◌, ◌⊠◌, ◌⊘◌}}}
use Rattle.std.proofs.Common.{true≢false, mul_right_comm, le_of_mul-le-mul_right}
use mathlib.Core.Bool.{beq, not-not}
use lib.{Dec.{eqb→eq}, Ieee.{up, down, unlike, round, sum, le, Back.{round_whole}, Exact.{HasValue, round_exact}, Fits.{down_pos, up_pos}, Order.{round_mono}}}
use lib.Ieee.Positive.{positive_of_value, values_of_le, above_of_le}
use Rattle.border.specs.declared.place.Point.{Point}
use Rattle.verdict.specs.{Edge.{same_z, spot_of, slope_of, edge_of, closest_on}, declared.edge.{Edge.TheVariants.{Sloped, EqualLongitude, EqualLatitude}, Slope.{Slope}, Spot.{Spot}}}
use Rattle.verdict.proofs.CutDifference.{with_sign, round_signed, lt_or_eq, whole_value, negative_value}

-- ---- sizes of floats

-- finite, and at most b in size
abbrev Sized : ℕ → Float → Type 0
Sized b nan = ⊥
Sized b (inf s) = ⊥
Sized b (fin s m e) = m * up e ≤ b * down e

-- not less than 1 in size
abbrev Big : Float → Type 0
Big nan = Unit
Big (inf s) = Unit
Big (fin s m e) = down e ≤ m * up e

-- a whole number that a float is
abbrev Exactly : ℕ → Type 0
Exactly b = HasValue (round binary32 false b 1) false b 1

below_sized : (b : ℕ) (y z : Float) → HasValue z false b 1 → T (le (with_sign false y) z) → (s : Bool) → Sized b (with_sign s y)
unfolding le
below_sized b nan z v l s = absurd l
below_sized b (inf t) nan v l s = absurd v
below_sized b (inf t) (inf u) v l s = absurd v
below_sized b (inf t) (fin u k d) v l s = absurd l
below_sized b (fin t m e) nan v l s = absurd v
below_sized b (fin t m e) (inf u) v l s = absurd v
below_sized b (fin t m e) (fin true k d) v l s = absurd (true≢false v.0)
below_sized b (fin t m e) (fin false k d) v l s = let c : m * up e * down d ≤ k * up d * down e = lt_or_eq (m * up e * down d) (k * up d * down e) l in
    let g : k * up d * down e ≡ b * down e * down d = ap (λ (x : ℕ). x * down e) (sym (mul-one (k * up d)) ∙ v.1) ∙ mul_right_comm b (down d) (down e) in
    le_of_mul-le-mul_right (subst (λ (x : ℕ). m * up e * down d ≤ x) g c) (down_pos d)

module _ (b : ℕ) (exact : Exactly b) where
  round_sized : (s : Bool) (a d : ℕ) → 0 < d → a ≤ b * d → Sized b (round binary32 s a d)
  round_sized s a d D h =
      subst (Sized b) (sym (round_signed s a d)) (below_sized b (round binary32 false a d) (round binary32 false b 1) exact
      (subst (λ (x : Float). T (le x (round binary32 false b 1))) (round_signed false a d) (round_mono binary32 a d b 1 D (lit< tt) (subst (λ (x : ℕ). x ≤ b * d) (sym (mul-one a)) h))) s)

  cond_sized : (t : Bool) (x y : Float) → Sized b x → Sized b y → Sized b (cond t x y)
  cond_sized true x y h g = h
  cond_sized false x y h g = g

  sum_sized : (s t : Bool) (x y c : ℕ) → 0 < c → x + y ≤ b * c → Sized b (sum binary32 s x t y c)
  unfolding sum
  sum_sized s t x y c C h =
      cond_sized (beq s t) _ _ (round_sized s (x + y) c C h) (cond_sized (ltb x y) _ _ (round_sized t (y - x) c C (omega (arith, h))) (round_sized (s && ltb y x) (x - y) c C (omega (arith, h))))

  add_sized : (x y : Float) (p q : ℕ) → p + q ≤ b → Sized p x → Sized q y → Sized b (add binary32 x y)
  unfolding add
  add_sized nan y p q h f g = absurd f
  add_sized (inf s) y p q h f g = absurd f
  add_sized (fin s m e) nan p q h f g = absurd g
  add_sized (fin s m e) (inf t) p q h f g = absurd g
  add_sized (fin s m e) (fin t n d) p q h f g =
      let u : m * up e * down d ≤ p * (down e * down d) = subst (λ (x : ℕ). m * up e * down d ≤ x) (mul_assoc p (down e) (down d)) (mul-le-mul_right (down d) f) in
      let v : n * up d * down e ≤ q * (down e * down d) = subst (λ (x : ℕ). n * up d * down e ≤ x) (mul_right_comm q (down d) (down e) ∙ mul_assoc q (down e)
      (down d)) (mul-le-mul_right (down e) g) in
      let w : (p + q) * (down e * down d) ≤ b * (down e * down d) = mul-le-mul_right (down e * down d) h in
      sum_sized s t (m * up e * down d) (n * up d * down e) (down e * down d) (mul-pos (down_pos e) (down_pos d)) (omega (arith, u, v, w, add-mul p q (down e * down d)))

  neg_sized : (y : Float) (q : ℕ) → Sized q y → Sized q (neg y)
  unfolding neg
  neg_sized nan q g = g
  neg_sized (inf t) q g = g
  neg_sized (fin t n d) q g = g

  sub_sized : (x y : Float) (p q : ℕ) → p + q ≤ b → Sized p x → Sized q y → Sized b (sub binary32 x y)
  unfolding sub
  sub_sized x y p q h f g = add_sized x (neg y) p q h f (neg_sized y q g)

  mul_sized : (x y : Float) (p q : ℕ) → p * q ≤ b → Sized p x → Sized q y → Sized b (mul binary32 x y)
  unfolding mul
  mul_sized nan y p q h f g = absurd f
  mul_sized (inf s) y p q h f g = absurd f
  mul_sized (fin s m e) nan p q h f g = absurd g
  mul_sized (fin s m e) (inf t) p q h f g = absurd g
  mul_sized (fin s m e) (fin t n d) p q h f g = let u : m * up e * (n * up d) ≤ p * down e * (q * down d) = mul-le-mul f g in
      let r : p * down e * (q * down d) ≡ p * q * (down e * down d) = sym (mul_assoc (p * down e) q (down d)) ∙ ap (λ (x : ℕ). x * down d) (mul_right_comm p (down e) q)
      ∙ mul_assoc (p * q) (down e) (down d) in
      round_sized (unlike s t) (m * up e * (n * up d)) (down e * down d) (mul-pos (down_pos e) (down_pos d))
      (le_trans (subst (λ (x : ℕ). m * up e * (n * up d) ≤ x) r u) (mul-le-mul_right (down e * down d) h))

  div_sized : (x y : Float) (q : ℕ) → Sized b x → Sized q y → Big y → Sized b (div binary32 x y)
  unfolding div
  div_sized nan y q f g k = absurd f
  div_sized (inf s) y q f g k = absurd f
  div_sized (fin s m e) nan q f g k = absurd g
  div_sized (fin s m e) (inf t) q f g k = absurd g
  div_sized (fin s m e) (fin t n d) q f g k = go (eqb n 0) refl where
    some : 0 < n
    some = go n k where
      go : (n : ℕ) → down d ≤ n * up d → 0 < n
      go zero k = let z = down_pos d in absurd (omega (arith, z, k))
      go (suc n) k = omega arith

    go : (z : Bool) → eqb n 0 ≡ z → Sized b (cond z (cond (eqb m 0) nan (inf (unlike s t))) (round binary32 (unlike s t) (m * up e * down d) (n * up d * down e)))
    go true e = let z = eqb→eq n 0 (subst T (sym e) tt) in absurd (omega (arith, z, some))
    go false _ = let u : m * up e * down d ≤ b * down e * (n * up d) = mul-le-mul f k in
        round_sized (unlike s t) (m * up e * down d) (n * up d * down e) (mul-pos (mul-pos some (up_pos d)) (down_pos e))
        (subst (λ (x : ℕ). m * up e * down d ≤ x) (mul_assoc b (down e) (n * up d) ∙ ap (λ (x : ℕ). b * x) (mul_comm (down e) (n * up d))) u)

-- ---- floats that are not less than 1

at_least_one : (x y : Float) → HasValue x false 1 1 → T (le x y) → (s : Bool) → Big (with_sign s y)
at_least_one x nan v l s = tt
at_least_one x (inf t) v l s = tt
at_least_one x (fin true m e) v l s = absurd (above_of_le x (fin true m e) (positive_of_value x 1 1 v (lit< tt)) l)
at_least_one x (fin false m e) v l s = let a = above_of_le x (fin false m e) (positive_of_value x 1 1 v (lit< tt)) l in
    let c : 1 * down e ≤ m * up e * 1 = values_of_le x (fin false m e) 1 1 (m * up e) (down e) (positive_of_value x 1 1 v (lit< tt)) a v (refl, refl) l in
    omega (arith, c)

round_big : (s : Bool) (a d : ℕ) → 0 < d → d ≤ a → Big (round binary32 s a d)
round_big s a d D h =
    subst Big (sym (round_signed s a d))
    (at_least_one (round binary32 false 1 1) (round binary32 false a d) (round_whole binary32 false 1 (omega arith)) (round_mono binary32 1 1 a d (lit< tt) D (omega (arith, h))) s)

-- what is not below 0, and one
plus_one_big : (x : Float) → x ≡ with_sign false x → Big (add binary32 x (fin false 1 (pos 0)))
unfolding add sum
plus_one_big x e = subst (λ (y : Float). Big (add binary32 y (fin false 1 (pos 0)))) (sym e) (go x) where
  go : (x : Float) → Big (add binary32 (with_sign false x) (fin false 1 (pos 0)))
  go nan = tt
  go (inf s) = tt
  go (fin s m e) = let z = down_pos e in round_big false (m * up e * down (pos 0) + 1 * up (pos 0) * down e) (down e * down (pos 0)) (omega (arith, z)) (omega arith)

same_sign : (s : Bool) → unlike s s ≡ false
same_sign true = refl
same_sign false = refl

square_above : (x : Float) (p : ℕ) → Sized p x → mul binary32 x x ≡ with_sign false (mul binary32 x x)
unfolding mul
square_above nan p f = absurd f
square_above (inf s) p f = absurd f
square_above (fin s m e) p f = rw (same_sign s) (round_signed false (m * up e * (m * up e)) (down e * down e))

lt_or_is : (a b : ℕ) → a ≤ b → (a < b) ⊎ (a ≡ b)
lt_or_is a b h = go (ltb a b) refl where
  go : (t : Bool) → ltb a b ≡ t → (a < b) ⊎ (a ≡ b)
  go true e = inl (ltb-true a b e)
  go false e = let z = ltb-false a b e in inr (omega (arith, h, z))

-- the difference of two whole numbers that differ
differ_by : (p q d : ℕ) → p < q → 0 < d → d ≤ q * d - p * d
differ_by p q d h D = let u : suc p * d ≤ q * d = mul-le-mul_right d h in omega (arith, u, suc-mul p d)

module _ (p q c : ℕ) (C : 0 < c) where
  apart_big : (s : Bool) → (p ≡ q → ⊥) → Big (sum binary32 s (p * c) (not s) (q * c) c)
  unfolding sum
  apart_big s n = signs s where
    by_order : (t u : Bool) → Big (cond (ltb (p * c) (q * c)) (round binary32 t (q * c - p * c) c) (round binary32 u (p * c - q * c) c))
    by_order t u = go (ltb p q) refl where
      go : (b : Bool) → ltb p q ≡ b → Big (cond (ltb (p * c) (q * c)) (round binary32 t (q * c - p * c) c) (round binary32 u (p * c - q * c) c))
      go true e = let h = differ_by p q c (ltb-true p q e) C in rw (lt-ltb (p * c) (q * c) (omega (arith, h, C))) (round_big t (q * c - p * c) c C h)
      go false e = let l : q < p = other (ltb-false p q e) in let h = differ_by q p c l C in
          rw (le-ltb (p * c) (q * c) (omega (arith, h, C))) (round_big u (p * c - q * c) c C h) where
            other : q ≤ p → q < p
            other h = elim (lt_or_is q p h) [ inl l ↦ l | inr e ↦ absurd (n (sym e)) ]

    signs : (s : Bool) → Big (sum binary32 s (p * c) (not s) (q * c) c)
    signs true = by_order false (true && ltb (q * c) (p * c))
    signs false = by_order true false

  together_big : (s : Bool) → 0 < p + q → Big (sum binary32 s (p * c) s (q * c) c)
  unfolding sum
  together_big s h = signs s where
    enough : c ≤ p * c + q * c
    enough = let u : 1 * c ≤ (p + q) * c = mul-le-mul_right c h in omega (arith, u, add-mul p q c)

    signs : (s : Bool) → Big (sum binary32 s (p * c) s (q * c) c)
    signs true = round_big true (p * c + q * c) c C enough
    signs false = round_big false (p * c + q * c) c C enough

at_denominator : (m : ℕ) (e d : ℤ) (p : ℕ) → m * up e * 1 ≡ p * down e → m * up e * down d ≡ p * (down e * down d)
at_denominator m e d p h = ap (λ (x : ℕ). x * down d) (sym (mul-one (m * up e)) ∙ h) ∙ mul_assoc p (down e) (down d)

at_other : (n : ℕ) (e d : ℤ) (q : ℕ) → n * up d * 1 ≡ q * down d → n * up d * down e ≡ q * (down e * down d)
at_other n e d q h = at_denominator n d e q h ∙ ap (λ (x : ℕ). q * x) (mul_comm (down d) (down e))

less_same_big : (x y : Float) (s : Bool) (p q : ℕ) → HasValue x s p 1 → HasValue y s q 1 → (p ≡ q → ⊥) → Big (sub binary32 x y)
unfolding sub add neg
less_same_big nan y s p q v w n = absurd v
less_same_big (inf t) y s p q v w n = absurd v
less_same_big (fin t m e) nan s p q v w n = absurd w
less_same_big (fin t m e) (inf u) s p q v w n = absurd w
less_same_big (fin t m e) (fin u k d) s p q v w n = rw (v.0, w.0, at_denominator m e d p v.1, at_other k e d q w.1) (apart_big p q (down e * down d) (mul-pos (down_pos e) (down_pos d)) s n)

less_other_big : (x y : Float) (s : Bool) (p q : ℕ) → HasValue x s p 1 → HasValue y (not s) q 1 → 0 < p + q → Big (sub binary32 x y)
unfolding sub add neg
less_other_big nan y s p q v w n = absurd v
less_other_big (inf t) y s p q v w n = absurd v
less_other_big (fin t m e) nan s p q v w n = absurd w
less_other_big (fin t m e) (inf u) s p q v w n = absurd w
less_other_big (fin t m e) (fin u k d) s p q v w n =
    rw (v.0, w.0, not-not s, at_denominator m e d p v.1, at_other k e d q w.1) (together_big p q (down e * down d) (mul-pos (down_pos e) (down_pos d)) s n)

-- ---- whole numbers

not_level : (p q : ℕ) → (leb p q && leb q p) ≡ false → p ≡ q → ⊥
not_level p q h e = true≢false (sym (rw (le-leb p q (omega (arith, e)), le-leb q p (omega (arith, e)))) ∙ h)

int_big : (a b : ℤ) → mag a ≤ 2 ^ 22 → mag b ≤ 2 ^ 22 → same_z a b ≡ false → Big (to_f32 a ⊟ to_f32 b)
int_big (pos p) (pos q) h k n = less_same_big (of_int binary32 (pos p)) (of_int binary32 (pos q)) false p q (whole_value p (omega (arith, h))) (whole_value q (omega (arith, k))) (not_level p q n)
int_big (pos p) (negsuc q) h k n =
    less_other_big (of_int binary32 (pos p)) (of_int binary32 (negsuc q)) false p (suc q) (whole_value p (omega (arith, h))) (negative_value q (omega (arith, k))) (omega arith)
int_big (negsuc p) (pos q) h k n =
    less_other_big (of_int binary32 (negsuc p)) (of_int binary32 (pos q)) true (suc p) q (negative_value p (omega (arith, h))) (whole_value q (omega (arith, k))) (omega arith)
int_big (negsuc p) (negsuc q) h k n =
    less_same_big (of_int binary32 (negsuc p)) (of_int binary32 (negsuc q)) true (suc p) (suc q) (negative_value p (omega (arith, h))) (negative_value q (omega (arith, k)))
    (λ e. not_level q p n (omega (arith, e)))

value_sized : (x : Float) (s : Bool) (p b : ℕ) → HasValue x s p 1 → p ≤ b → Sized b x
value_sized nan s p b v h = v
value_sized (inf t) s p b v h = v
value_sized (fin t m e) s p b v h = let u : p * down e ≤ b * down e = mul-le-mul_right (down e) h in omega (arith, u, v.1)

int_sized : (a : ℤ) → mag a ≤ 2 ^ 22 → Sized (2 ^ 23) (to_f32 a)
int_sized (pos n) h = value_sized (of_int binary32 (pos n)) false n (2 ^ 23) (whole_value n (omega (arith, h))) (omega (arith, h))
int_sized (negsuc n) h = value_sized (of_int binary32 (negsuc n)) true (suc n) (2 ^ 23) (negative_value n (omega (arith, h))) (omega (arith, h))

exact_24 : Exactly (2 ^ 24)
exact_24 = round_exact binary32 false (2 ^ 24) 1 1 173 (lit< tt) (lit< tt) (lit< tt) refl

exact_47 : Exactly (2 ^ 47)
exact_47 = round_exact binary32 false (2 ^ 47) 1 1 196 (lit< tt) (lit< tt) (lit< tt) refl

exact_48 : Exactly (2 ^ 48)
exact_48 = round_exact binary32 false (2 ^ 48) 1 1 197 (lit< tt) (lit< tt) (lit< tt) refl

exact_49 : Exactly (2 ^ 49)
exact_49 = round_exact binary32 false (2 ^ 49) 1 1 198 (lit< tt) (lit< tt) (lit< tt) refl

exact_72 : Exactly (2 ^ 72)
exact_72 = round_exact binary32 false (2 ^ 72) 1 1 221 (lit< tt) (lit< tt) (lit< tt) refl

exact_73 : Exactly (2 ^ 73)
exact_73 = round_exact binary32 false (2 ^ 73) 1 1 222 (lit< tt) (lit< tt) (lit< tt) refl

-- ---- the closest point of a line

abbrev Both : Spot → Type 0
Both spot = Sized (2 ^ 73) spot.lat × Sized (2 ^ 73) spot.lon

sloped_sized : (line : Slope) (at : Spot) → Sized (2 ^ 24) line.a → Sized (2 ^ 48) line.b → Sized (2 ^ 23) at.lat → Sized (2 ^ 23) at.lon → Both (closest_on (Sloped line) at)
unfolding closest_on
sloped_sized line at a b y x = let ay = mul_sized (2 ^ 47) exact_47 line.a at.lat (2 ^ 24) (2 ^ 23) (omega arith) a y in
    let xay = add_sized (2 ^ 48) exact_48 at.lon (line.a ⊠ at.lat) (2 ^ 23) (2 ^ 47) (omega arith) x ay in
    let axay = mul_sized (2 ^ 72) exact_72 line.a (at.lon ⊞ line.a ⊠ at.lat) (2 ^ 24) (2 ^ 48) (omega arith) a xay in
    let top = add_sized (2 ^ 73) exact_73 (line.a ⊠ (at.lon ⊞ line.a ⊠ at.lat)) line.b (2 ^ 72) (2 ^ 48) (omega arith) axay b in
    let ab = mul_sized (2 ^ 72) exact_72 line.a line.b (2 ^ 24) (2 ^ 48) (omega arith) a b in
    let side = sub_sized (2 ^ 73) exact_73 (at.lon ⊞ line.a ⊠ at.lat) (line.a ⊠ line.b) (2 ^ 48) (2 ^ 72) (omega arith) xay ab in
    let aa = mul_sized (2 ^ 48) exact_48 line.a line.a (2 ^ 24) (2 ^ 24) (omega arith) a a in
    let below = add_sized (2 ^ 49) exact_49 (line.a ⊠ line.a) (fin false 1 (pos 0)) (2 ^ 48) 1 (omega arith) aa (omega arith) in
    let big = plus_one_big (line.a ⊠ line.a) (square_above line.a (2 ^ 24) a) in (
      div_sized (2 ^ 73) exact_73 (line.a ⊠ (at.lon ⊞ line.a ⊠ at.lat) ⊞ line.b) (line.a ⊠ line.a ⊞ fin false 1 (pos 0)) (2 ^ 49) top below big,
      div_sized (2 ^ 73) exact_73 (at.lon ⊞ line.a ⊠ at.lat ⊟ line.a ⊠ line.b) (line.a ⊠ line.a ⊞ fin false 1 (pos 0)) (2 ^ 49) side below big,
    )

slope_sized : (from to : Point) → mag from.lat.0 ≤ 2 ^ 22 → mag from.lon.0 ≤ 2 ^ 22 → mag to.lat.0 ≤ 2 ^ 22 → mag to.lon.0 ≤ 2 ^ 22 → same_z to.lon.0 from.lon.0 ≡ false
    → Sized (2 ^ 24) (slope_of (spot_of from) (spot_of to)).a × Sized (2 ^ 48) (slope_of (spot_of from) (spot_of to)).b
unfolding slope_of
slope_sized from to fy fx ty tx n =
    let dy = sub_sized (2 ^ 24) exact_24 (to_f32 to.lat.0) (to_f32 from.lat.0) (2 ^ 23) (2 ^ 23) (omega arith) (int_sized to.lat.0 ty) (int_sized from.lat.0 fy) in
    let dx = sub_sized (2 ^ 24) exact_24 (to_f32 to.lon.0) (to_f32 from.lon.0) (2 ^ 23) (2 ^ 23) (omega arith) (int_sized to.lon.0 tx) (int_sized from.lon.0 fx) in
    let a = div_sized (2 ^ 24) exact_24 (to_f32 to.lat.0 ⊟ to_f32 from.lat.0) (to_f32 to.lon.0 ⊟ to_f32 from.lon.0) (2 ^ 24) dy dx (int_big to.lon.0 from.lon.0 tx fx n) in
    let ax = mul_sized (2 ^ 47) exact_47 ((to_f32 to.lat.0 ⊟ to_f32 from.lat.0) ⊘ (to_f32 to.lon.0 ⊟ to_f32 from.lon.0)) (to_f32 to.lon.0) (2 ^ 24) (2 ^ 23) (omega arith) a
    (int_sized to.lon.0 tx) in (
      a,
      sub_sized (2 ^ 48) exact_48 (to_f32 to.lat.0) ((to_f32 to.lat.0 ⊟ to_f32 from.lat.0) ⊘ (to_f32 to.lon.0 ⊟ to_f32 from.lon.0) ⊠ to_f32 to.lon.0) (2 ^ 23) (2 ^ 47)
          (omega arith) (int_sized to.lat.0 ty) ax,
    )

wider : (x : Float) → Sized (2 ^ 23) x → Sized (2 ^ 73) x
wider nan h = h
wider (inf s) h = h
wider (fin s m e) h = omega (arith, h)

not_nan : (b : ℕ) (x : Float) → Sized b x → x ≡ nan → ⊥
not_nan b x h e = subst (Sized b) e h

-- Neither coordinate is a NaN.
pub closest_number : (fix from to : Point) → mag fix.lat.0 ≤ 2 ^ 22 → mag fix.lon.0 ≤ 2 ^ 22 → mag from.lat.0 ≤ 2 ^ 22 → mag from.lon.0 ≤ 2 ^ 22 → mag to.lat.0 ≤ 2 ^ 22
    → mag to.lon.0 ≤ 2 ^ 22 → ((closest_on (edge_of from to) (spot_of fix)).lat ≡ nan → ⊥) × ((closest_on (edge_of from to) (spot_of fix)).lon ≡ nan → ⊥)
unfolding edge_of closest_on
closest_number fix from to y x fy fx ty tx = (not_nan (2 ^ 73) _ sized.0, not_nan (2 ^ 73) _ sized.1) where
  by : (t u : Bool) → same_z to.lon.0 from.lon.0 ≡ t
      → Both (closest_on (if t then EqualLongitude to.lon else (if u then EqualLatitude to.lat else Sloped (slope_of (spot_of from) (spot_of to)))) (spot_of fix))
  by true u e = (wider (to_f32 fix.lat.0) (int_sized fix.lat.0 y), wider (to_f32 to.lon.0) (int_sized to.lon.0 tx))
  by false true e = (wider (to_f32 to.lat.0) (int_sized to.lat.0 ty), wider (to_f32 fix.lon.0) (int_sized fix.lon.0 x))
  by false false e = let s = slope_sized from to fy fx ty tx e in
      sloped_sized (slope_of (spot_of from) (spot_of to)) (spot_of fix) s.0 s.1 (int_sized fix.lat.0 y) (int_sized fix.lon.0 x)

  sized : Both (closest_on (edge_of from to) (spot_of fix))
  sized = by (same_z to.lon.0 from.lon.0) (same_z to.lat.0 from.lat.0) refl
