-- `numbers::float::root::sqrt` meets its contract: each way through its tests has one kind of x, at which the definition computes.
use Rattle.numbers.proofs.Prelude.{ℕ, zero, suc, ◌*◌, ◌≤◌, ◌<◌, rules, eqb, ltb, T, Float, fin, nan, inf, of_bits, div, ℤ, pos, Bool, true, false, not, ◌≡◌, refl, sym, ap, subst, ◌∙◌}
use Rattle.numbers.proofs.{Prelude.{lt_of_le_of_lt, zero-mul, mul-pos, arith}}
use lib.{Dec.{ltb→lt, lt→ltb, eqb→eq, T_not}, Ieee.{up, down, lt, eq, level, Fits.{up_pos, and_l}, Positive.{positive, first_pos}}}
use Rattle.std.proofs.Common.{zero-lt-suc}
use Rattle.numbers.specs.Float.Root.{root}
use Rattle.numbers.proofs.float.root.sqrt.Goals as goal

abbrev nought : Float
nought = fin false 0 (pos 0)

on : {b : Bool} → b ≡ true → T b
on e = subst T (sym e) tt

off : {b : Bool} → b ≡ false → T (not b)
off {b} e = subst (λ (t : Bool). T (not t)) (sym e) tt

-- 0 and n as `lt` and `eq` write them out
zero_is : (e : ℤ) → 0 * 1 * down e ≡ 0
zero_is e = ap (λ (x : ℕ). x * down e) (zero-mul 1) ∙ zero-mul (down e)

number_pos : (m : ℕ) (e : ℤ) → 0 < suc m * up e * 1
number_pos m e = mul-pos (mul-pos (zero-lt-suc m) (up_pos e)) (zero-lt-suc 0)

from_zero : (x : ℕ) → 0 ≤ x
from_zero x = omega arith

-- x > 0
pub above_zero : (m : ℕ) (e : ℤ) → T (ltb (0 * 1 * down e) (m * up e * 1)) → 0 < m
above_zero m e t = first_pos m (up e) (first_pos (m * up e) 1 (lt_of_le_of_lt (from_zero (0 * 1 * down e)) (ltb→lt (0 * 1 * down e) (m * up e * 1) t)))

is_positive : (x : Float) → lt nought x ≡ true → lt x (inf false) ≡ true → T (positive x)
unfolding lt
is_positive nan a b = absurd (on a)
is_positive (inf true) a b = absurd (on a)
is_positive (inf false) a b = absurd (on b)
is_positive (fin true m e) a b = absurd (on a)
is_positive (fin false m e) a b = lt→ltb 0 m (above_zero m e (on a))

is_infinite : (x : Float) → lt nought x ≡ true → lt x (inf false) ≡ false → x ≡ root x
unfolding lt root
is_infinite nan a b = absurd (on a)
is_infinite (inf true) a b = absurd (on a)
is_infinite (inf false) a b = refl
is_infinite (fin true m e) a b = absurd (on a)
is_infinite (fin false m e) a b = absurd (off b)

is_zero : (x : Float) → eq x nought ≡ true → x ≡ root x
unfolding eq root
is_zero nan a = absurd (on a)
is_zero (inf s) a = absurd (on a)
is_zero (fin s zero e) a = refl
is_zero (fin s (suc m) e) a = absurd (clash (suc m * up e * 1) (number_pos m e) (eqb→eq (suc m * up e * 1) (0 * 1 * down e) (and_l (eqb (suc m * up e * 1) (0 * 1 * down e)) _ (on a)) ∙ zero_is e))
  where
    clash : (n : ℕ) → 0 < n → n ≡ 0 → ⊥
    clash n p q = omega arith

-- two zeros are equal, whatever their signs
zeros_level : (s : Bool) (a b : ℕ) → a ≡ 0 → b ≡ 0 → T (level s a false b)
zeros_level s a b p q = subst (λ (x : ℕ). T (level s x false b)) (sym p) (subst (λ (x : ℕ). T (level s 0 false x)) (sym q) (base s)) where
  base : (s : Bool) → T (level s 0 false 0)
  base true = tt
  base false = tt

has_none : (x : Float) → lt nought x ≡ false → eq x nought ≡ false → nan ≡ root x
unfolding lt eq root
has_none nan a b = refl
has_none (inf true) a b = refl
has_none (inf false) a b = absurd (off a)
has_none (fin s zero e) a b = absurd (T_not (eq (fin s zero e) nought) (off b) (zeros_level s (0 * up e * 1) (0 * 1 * down e) (ap (λ (x : ℕ). x * 1) (zero-mul (up e)) ∙ zero-mul 1) (zero_is e)))
has_none (fin true (suc m) e) a b = refl
has_none (fin false (suc m) e) a b =
    absurd (T_not (lt nought (fin false (suc m) e)) (off a) (lt→ltb (0 * 1 * down e) (suc m * up e * 1) (subst (λ (x : ℕ). x < suc m * up e * 1) (sym (zero_is e)) (number_pos m e))))

pub positive_root-requires : goal.positive_root-requires
unfolding div of_bits
positive_root-requires c =
    is_positive c.args.x c.if-x.true c.if-x-2.true

pub returns-then-x : goal.returns-then-x
unfolding div of_bits
returns-then-x c =
    is_infinite c.args.x c.if-x.true c.if-x-2.false

pub returns-then-x-3 : goal.returns-then-x-3
unfolding of_bits
returns-then-x-3 c =
    is_zero c.args.x c.if-x-3.true

pub returns : goal.returns
unfolding div of_bits
returns c =
    has_none c.args.x c.if-x.false c.if-x-3.false
