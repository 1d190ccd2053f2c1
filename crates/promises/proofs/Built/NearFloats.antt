-- Differences of floats up to 2 ^ 30 in size are at most 2 ^ 31. Assumes nothing.
use Rattle.numbers.proofs.Prelude.{ℕ, zero, suc, ◌+◌, ◌-◌, ◌*◌, ◌/◌, ◌^◌, ◌≤◌, ◌<◌, min, eqb, ltb, T, lit<, Float, binary32, fin, nan, inf, of_int, to_signed, add, sub, neg, ℤ, pos, negsuc, neg_ℤ}
use Rattle.numbers.proofs.Prelude.{nat_abs, Bool, true, false, ◌&&◌, ◌||◌, cond, ◌≡◌, refl, sym, subst, le_of_lt, mul_comm, mul_assoc, mul-one, one-mul, mul-pos, mul-le-mul_right, div-lt_iff_lt-mul}
use Rattle.numbers.{proofs.{Prelude.{arith}, float.Rounding.{round_neg}, write.Gaps.{size_neg}}, specs.Float.{to_f32, cut32, ◌⊟◌}}
use lib.{Dec.{ltb→lt, eqb→eq}, Ieee.{prec, emax, low, up, down, odd, units, round, sum, lt, eq, le, Fits.{down_pos, round_is}, Nearest.{div_mono}, Order.{round_mono}}}
use mathlib.Core.Bool.{beq}
use native.Mathlib.Nat.{div-one}

-- a float is no number, or finite and at most so great in size
abbrev pub Upto : ℕ → Float → Type 0
Upto b nan = Unit {0}
Upto b (inf s) = ⊥
Upto b (fin s m e) = m * up e ≤ b * down e

neg_upto : (b : ℕ) (x : Float) → Upto b x → Upto b (neg x)
unfolding neg
neg_upto b nan h = h
neg_upto b (inf s) h = h
neg_upto b (fin s m e) h = h

-- ---- cut
cut_fin : (s : Bool) (q a b c : ℕ) → q ≤ c → nat_abs (cond s (neg_ℤ (pos (min q a))) (pos (min q b))) ≤ c
cut_fin true q a b c h = rw (size_neg (pos (min q a))) (omega arith)
cut_fin false q a b c h = omega arith

pub cut_upto : (bits b : ℕ) (x : Float) → Upto b x → nat_abs (to_signed bits x) ≤ b
unfolding to_signed
cut_upto bits b nan h = omega arith
cut_upto bits b (inf s) h = elim h [ ]
cut_upto bits b (fin s m e) h =
    cut_fin s (m * up e / down e) (2 ^ bits) (2 ^ bits - 1) b
    (subst (λ (n : ℕ). m * up e / down e ≤ n) (div-one b) (div_mono (m * up e) (down e) b 1 (down_pos e) (lit< tt) (rw (mul-one (m * up e)) h)))

cut_small : (s : Bool) (q : ℕ) → nat_abs (cond s (neg_ℤ (pos (min q (2 ^ 31)))) (pos (min q (2 ^ 31 - 1)))) < 2 ^ 30 → q < 2 ^ 30
cut_small true q h = let k : min q (2 ^ 31) < 2 ^ 30 = rw (size_neg (pos (min q (2 ^ 31)))) at h in omega arith
cut_small false q h = omega arith

inf_large : (s : Bool) → nat_abs (cond s (neg_ℤ (pos (2 ^ 31))) (pos (2 ^ 31 - 1))) < 2 ^ 30 → ⊥
inf_large true h = omega arith
inf_large false h = omega arith

-- one whose cut is small is small itself
pub upto_cut : (x : Float) → nat_abs (cut32 x) < 2 ^ 30 → Upto (2 ^ 30) x
unfolding to_signed
upto_cut nan h = tt
upto_cut (inf s) h = inf_large s h
upto_cut (fin s m e) h = le_of_lt ((div-lt_iff_lt-mul (down_pos e)).0 (cut_small s (m * up e / down e) h))

-- ---- rounded
data Plus : Float → Type 0 where
  infinite : Plus (inf false)
  finite : {m : ℕ} {e : ℤ} → Plus (fin false m e)

odd_plus : (d q k l : ℕ) → Plus (odd d false q k l)
unfolding odd
odd_plus d zero k l = finite
odd_plus d (suc q) k l = finite

units_plus : (q k : ℕ) → Plus (units binary32 false q k)
unfolding units
units_plus q k = go (ltb (q * 2 ^ k) (2 ^ (low binary32 + suc (emax binary32)))) where
  go : (t : Bool) → Plus (cond t (odd (suc (prec binary32)) false q k (low binary32)) (inf false))
  go true = odd_plus (suc (prec binary32)) q k (low binary32)
  go false = infinite

round_plus : (a c : ℕ) → Plus (round binary32 false a c)
round_plus a c = subst Plus (sym (round_is binary32 false a c)) (units_plus _ _)

or_le : (a b : ℕ) → T (ltb a b || (eqb a b && true)) → a ≤ b
or_le a b = go (ltb a b) refl (eqb a b) refl where
  go : (s : Bool) → ltb a b ≡ s → (t : Bool) → eqb a b ≡ t → T (s || (t && true)) → a ≤ b
  go true p t q h = le_of_lt (ltb→lt a b (subst T (sym p) tt))
  go false p true q h = let e = eqb→eq a b (subst T (sym q) tt) in omega arith
  go false p false q h = absurd h

at_most : (b : ℕ) (k : ℕ) → b ≡ 2 ^ k → {x : Float} → Plus x → T (le x (fin false 1 (pos k))) → Upto b x
unfolding le lt eq
at_most b k same infinite h = h
at_most b k same (finite {m = m} {e = e}) h = rw same (or_le (m * up e) (2 ^ k * down e) (plain h)) where
  plain : T (ltb (m * up e * 1) (1 * 2 ^ k * down e) || (eqb (m * up e * 1) (1 * 2 ^ k * down e) && true)) → T (ltb (m * up e) (2 ^ k * down e) || (eqb (m * up e) (2 ^ k * down e) && true))
  plain h = simp (mul-one, one-mul) at h

thirty : round binary32 false (2 ^ 30) 1 ≡ fin false 1 (pos 30)
unfolding round
thirty = refl

thirty_one : round binary32 false (2 ^ 31) 1 ≡ fin false 1 (pos 31)
unfolding round
thirty_one = refl

module _ (k : ℕ) (exact : round binary32 false (2 ^ k) 1 ≡ fin false 1 (pos k)) (a c : ℕ) (some : 0 < c) (h : a ≤ 2 ^ k * c) where
  plus_upto : Upto (2 ^ k) (round binary32 false a c)
  plus_upto = at_most (2 ^ k) k refl (round_plus a c) (subst (λ (y : Float). T (le (round binary32 false a c) y)) exact (round_mono binary32 a c (2 ^ k) 1 some (lit< tt) (rw (mul-one a) h)))

  round_upto : (s : Bool) → Upto (2 ^ k) (round binary32 s a c)
  round_upto false = plus_upto
  round_upto true = subst (Upto (2 ^ k)) (sym (round_neg binary32 a c)) (neg_upto (2 ^ k) (round binary32 false a c) plus_upto)

pub whole_upto : (z : ℤ) → nat_abs z ≤ 2 ^ 30 → Upto (2 ^ 30) (to_f32 z)
unfolding of_int
whole_upto (pos n) h = round_upto 30 thirty n 1 (lit< tt) (omega arith) false
whole_upto (negsuc n) h = round_upto 30 thirty (suc n) 1 (lit< tt) (omega arith) true

-- ---- subtracted
choose : (b : ℕ) (t : Bool) (x y : Float) → Upto b x → Upto b y → Upto b (cond t x y)
choose b true x y h k = h
choose b false x y h k = k

sum_upto : (s : Bool) (a : ℕ) (t : Bool) (b c : ℕ) → 0 < c → a ≤ 2 ^ 30 * c → b ≤ 2 ^ 30 * c → Upto (2 ^ 31) (sum binary32 s a t b c)
unfolding sum
sum_upto s a t b c some h k =
    choose (2 ^ 31) (beq s t) (round binary32 s (a + b) c) _ (round_upto 31 thirty_one (a + b) c some (omega arith) s)
    (choose (2 ^ 31) (ltb a b) (round binary32 t (b - a) c) (round binary32 (s && ltb b a) (a - b) c) (round_upto 31 thirty_one (b - a) c some (omega arith) t)
    (round_upto 31 thirty_one (a - b) c some (omega arith) (s && ltb b a)))

add_upto : (x y : Float) → Upto (2 ^ 30) x → Upto (2 ^ 30) y → Upto (2 ^ 31) (add binary32 x y)
unfolding add
add_upto nan y h k = tt
add_upto (inf s) y h k = elim h [ ]
add_upto (fin s m e) nan h k = tt
add_upto (fin s m e) (inf t) h k = elim k [ ]
add_upto (fin s m e) (fin t n d) h k =
    sum_upto s (m * up e * down d) t (n * up d * down e) (down e * down d) (mul-pos (down_pos e) (down_pos d)) (rw (← mul_assoc (2 ^ 30) (down e) (down d))
    (mul-le-mul_right (down d) h)) (rw (mul_comm (down e) (down d), ← mul_assoc (2 ^ 30) (down d) (down e)) (mul-le-mul_right (down e) k))

pub difference_upto : (x y : Float) → Upto (2 ^ 30) x → Upto (2 ^ 30) y → Upto (2 ^ 31) (x ⊟ y)
unfolding sub
difference_upto x y h k = add_upto x (neg y) h (neg_upto (2 ^ 30) y k)
