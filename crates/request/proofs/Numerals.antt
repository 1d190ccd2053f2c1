-- Numbers that digits spell, and their sizes. Assumes nothing.
use Rattle.numbers.proofs.Prelude.{ℕ, suc, ◌+◌, ◌-◌, ◌*◌, ◌/◌, ◌^◌, ◌≤◌, ◌<◌, eq-eqb, ne_eqb, le-leb, leb-true, lt-leb, eqb-true, eqb, leb, Float, length, take, drop, get_or, length-drop, Bool, true, false}
use Rattle.numbers.proofs.Prelude.{◌&&◌, ◌||◌, List, [], ◌∷◌, ◌≡◌, refl, sym, ap, subst, ◌∙◌, le_trans, mul_comm, mul_assoc, mul-le-mul_right, pow-suc, div-lt_iff_lt-mul, arith}
use Rattle.numbers.specs.{Answer.{Answer, found, failed, if◌then◌else◌, ◌>>=◌}, Reply.{given, refused, refusal}, declared.refusal.Refusal.{Refusal}}
use native.Mathlib.Nat.{pow-le-pow_right, one-le-pow, zero-lt-suc, mul-le-mul_left}
use Rattle.request.proofs.Texts.{here, ended}
use Rattle.request.specs.{Number.{Size, spelled, digit_of, value_from, part_of, is_tail, has_form, angle_of, side_of, decimal_of, unsigned, is_minus, degrees_of, nearest_to}, Request.{at}}
use Rattle.request.specs.{Text.{digits, formed, until}, Told.{shown, limited_to, IsSize}, declared.{degrees.Ratio.{Ratio}, number.Digits.{Digits}}}
use Rattle.std.specs.Prelude.{Result, Ok, Err, IfOk}
use Rattle.numbers.proofs.Replies.{held}
use Rattle.numbers.specs.Answer as A

-- ---- powers of ten
pub tens : {k m : ℕ} → k ≤ m → 10 ^ k ≤ 10 ^ m
tens h = pow-le-pow_right (zero-lt-suc 9) h

pub ten_more : (k : ℕ) → 10 ^ (k + 1) ≡ 10 * 10 ^ k
ten_more k = ap (λ (n : ℕ). 10 ^ n) (let e : k + 1 ≡ suc k = omega arith in e) ∙ pow-suc 10 k ∙ mul_comm (10 ^ k) 10

pub ten_some : (k : ℕ) → 1 ≤ 10 ^ k
ten_some k = one-le-pow k 10 (zero-lt-suc 9)

-- ---- values
digit_small : (byte : ℕ) → digit_of byte ≤ 9
digit_small byte = go (leb 48 byte) (leb byte 57) refl where
  go : (a b : Bool) → leb byte 57 ≡ b → (if a && b then byte - 48 else 0) ≤ 9
  go true true e = omega (arith, leb-true byte 57 e)
  go true false e = omega arith
  go false true e = omega arith
  go false false e = omega arith

pub value_least : (n : ℕ) (text : List ℕ) → n ≤ value_from n text
unfolding value_from
value_least n [] = omega arith
value_least n (b ∷ bs) = omega (arith, value_least (10 * n + digit_of b) bs)

bound_step : (n d p q v : ℕ) → d ≤ 9 → q ≡ 10 * p → v < (10 * n + d + 1) * p → v < (n + 1) * q
bound_step n d p q v h e l =
    le_trans l (le_trans (mul-le-mul_right p (let s : 10 * n + d + 1 ≤ (n + 1) * 10 = omega arith in s)) (subst (λ (x : ℕ). (n + 1) * 10 * p ≤ (n + 1) * x) (sym e) (subst (λ (x : ℕ).
    (n + 1) * 10 * p ≤ x) (mul_assoc (n + 1) 10 p) (omega arith))))

pub value_bound : (n : ℕ) (text : List ℕ) → value_from n text < (n + 1) * 10 ^ length text
unfolding value_from
value_bound n [] = omega arith
value_bound n (b ∷ bs) = bound_step n (digit_of b) (10 ^ length bs) (10 ^ suc (length bs)) _ (digit_small b) (pow-suc 10 (length bs)
    ∙ mul_comm (10 ^ length bs) 10) (value_bound (10 * n + digit_of b) bs)

-- so many digits and no more
pub value_short : (n m k : ℕ) (text : List ℕ) → n < m → length text ≤ k → value_from n text < m * 10 ^ k
value_short n m k text h l = le_trans (value_bound n text) (le_trans (mul-le-mul_right (10 ^ length text) (let s : n + 1 ≤ m = omega arith in s)) (mul-le-mul_left m (tens l)))

-- the loop over the digits
module _ (text : List ℕ) (at value : ℕ) where
  pub value_on : at < length text → value_from (10 * value + digit_of (get_or text at 0)) (drop (at + 1) text) ≡ value_from value (drop at text)
  unfolding value_from
  value_on h = rw (here text at h)

  pub value_end : length text ≤ at → value ≡ value_from value (drop at text)
  unfolding value_from
  value_end h = rw (ended text at h)

pub same_digits : {v w s t : ℕ} → v ≡ w → s ≡ t → ◌≡◌ {A = Digits} (record { value = v; scale = s }) (record { value = w; scale = t })
same_digits e f = cc

-- ---- tails and forms
module _ (most : ℕ) where
  tail_length : (text : List ℕ) → is_tail most text ≡ true → length text ≤ most + 1
  tail_length text h = go (eqb (length text) 0) (eqb (get_or text 0 0) 46) (leb 2 (length text)) (leb (length text - 1) most) (digits (drop 1 text)) refl refl h where
    go : (e p q r s : Bool) → eqb (length text) 0 ≡ e → leb (length text - 1) most ≡ r → (e || (p && q && r && s)) ≡ true → length text ≤ most + 1
    go true p q r s z f h = omega (arith, eqb-true (length text) 0 z)
    go false p q true s z f h = omega (arith, leb-true (length text - 1) most f)
    go false true true false s z f h = absurd (let n : ◌≡◌ {A = ℕ} 0 1 = cc in omega arith)
    go false true false false s z f h = absurd (let n : ◌≡◌ {A = ℕ} 0 1 = cc in omega arith)
    go false false q false s z f h = absurd (let n : ◌≡◌ {A = ℕ} 0 1 = cc in omega arith)

module _ (width most : ℕ) (text : List ℕ) where
  pub form_short : length text < width → false ≡ has_form width most text
  unfolding has_form
  form_short h = sym (simp (lt-leb width (length text) h))

  module _ (l : width ≤ length text) where
    pub form_other : digits (take width text) ≡ false → false ≡ has_form width most text
    unfolding has_form
    form_other e = sym (simp (le-leb width (length text) l, e))

    pub form_is : digits (take width text) ≡ true → is_tail most (drop width text) ≡ has_form width most text
    unfolding has_form
    form_is e = sym (simp (le-leb width (length text) l, e))

-- a text of a form is so long
pub form_holds : (width most : ℕ) (text : List ℕ) → has_form width most text ≡ true → (width ≤ length text) × (length text ≤ width + most + 1)
unfolding has_form
form_holds width most text h = go (leb width (length text)) (digits (take width text)) (is_tail most (drop width text)) refl refl h where
  go : (a b t : Bool) → leb width (length text) ≡ a → is_tail most (drop width text) ≡ t → (a && b && t) ≡ true → (width ≤ length text) × (length text ≤ width + most + 1)
  go true true true e f h = (leb-true width (length text) e, omega (arith, leb-true width (length text) e, tail_length most (drop width text) f, length-drop width text))
  go true true false e f h = absurd (let z : ◌≡◌ {A = ℕ} 0 1 = cc in omega arith)
  go true false t e f h = absurd (let z : ◌≡◌ {A = ℕ} 0 1 = cc in omega arith)
  go false b t e f h = absurd (let z : ◌≡◌ {A = ℕ} 0 1 = cc in omega arith)

-- ---- sizes
pub limit_over : (limit num den place : ℕ) → limit * den < num → refused (refusal 84 0 place) ≡ at place (limited_to limit num den)
limit_over limit num den place h = simp (lt-leb num (limit * den) h)

pub limit_in : (limit num den place : ℕ) → num ≤ limit * den → given (record { num = num; den = den }) ≡ at place (limited_to limit num den)
limit_in limit num den place h = simp (le-leb num (limit * den) h)

pub small_size : (limit num den : ℕ) → 1 ≤ den → limit ≤ 180 → num ≤ limit * den → num / den < 16777216
small_size limit num den d l h = (div-lt_iff_lt-mul d).1 (le_trans (let s : num < 181 * den = omega (arith, mul-le-mul_right den l) in s) (mul-le-mul_right den
    (let s : 181 ≤ 16777216 = omega arith in s)))

module _ (width limit : ℕ) (text : List ℕ) where
  pub angle_formless : has_form (width + 2) 9 text ≡ false → failed ≡ angle_of width limit text
  unfolding angle_of spelled
  angle_formless e = simp e

  module _ (e : has_form (width + 2) 9 text ≡ true) where
    pub angle_over : 59 < part_of width 2 text → (place : ℕ) → refused (refusal 84 0 place) ≡ at place (angle_of width limit text)
    unfolding angle_of spelled
    angle_over h place = simp (e, lt-leb (part_of width 2 text) 59 h)

    pub angle_limited : part_of width 2 text ≤ 59 → {num den : ℕ} → den ≡ 60 * 10 ^ length (drop (width + 3) text)
        → num ≡ part_of 0 width text * den + value_from (part_of width 2 text) (drop (width + 3) text) → limited_to limit num den ≡ angle_of width limit text
    unfolding angle_of spelled
    angle_limited h f g = simp (e, le-leb (part_of width 2 text) 59 h, g, f)

module _ (limit : ℕ) (text : List ℕ) {whole : ℕ} (w : whole ≡ length (until 46 46 text)) where
  pub decimal_none : whole < 1 → failed ≡ decimal_of limit text
  unfolding decimal_of spelled
  decimal_none h = simp (← w, lt-leb 1 whole h)

  pub decimal_long : 1 ≤ whole → 3 < whole → failed ≡ decimal_of limit text
  unfolding decimal_of spelled
  decimal_long l h = simp (← w, le-leb 1 whole l, lt-leb whole 3 h)

  module _ (l : 1 ≤ whole) (h : whole ≤ 3) where
    pub decimal_formless : has_form whole 9 text ≡ false → failed ≡ decimal_of limit text
    unfolding decimal_of spelled
    decimal_formless e = simp (← w, le-leb 1 whole l, le-leb whole 3 h, e)

    pub decimal_limited : has_form whole 9 text ≡ true → {num den : ℕ} → den ≡ 10 ^ length (drop (whole + 1) text) → num ≡ value_from (part_of 0 whole text) (drop (whole + 1) text)
        → limited_to limit num den ≡ decimal_of limit text
    unfolding decimal_of spelled
    decimal_limited e f g = simp (← w, le-leb 1 whole l, le-leb whole 3 h, e, f, g)

-- ---- the numbers that the code works out
pub record Small (value scale : ℕ) : Type 0 where
  pub some : 1 ≤ scale
  pub short : scale ≤ 1000000000
  pub small : value < 1000000000000

pub decimals_small : (text : List ℕ) (from start : ℕ) → start < 1000 → length text ≤ from + 9 → {value scale : ℕ} → value ≡ value_from start (drop from text)
    → scale ≡ 10 ^ length (drop from text) → Small value scale
decimals_small text from start h l v s = let few : length (drop from text) ≤ 9 = omega (arith, length-drop from text) in record {
  some = omega (arith, ten_some (length (drop from text)));
  short = omega (arith, tens few);
  small = omega (arith, value_short start 1000 9 (drop from text) h few);
}

pub degrees_small : (degrees width den : ℕ) → degrees < 10 ^ width → width ≤ 3 → den ≤ 60000000000 → degrees * den ≤ 60000000000000
degrees_small degrees width den h w d = le_trans (mul-le-mul_right den (let s : degrees ≤ 1000 = omega (arith, tens w) in s)) (omega arith)

pub no_decimals : (text : List ℕ) (from start : ℕ) → length text ≤ from
    → ◌≡◌ {A = Digits} (record { value = start; scale = 1 }) (record { value = value_from start (drop from text); scale = 10 ^ length (drop from text) })
unfolding value_from
no_decimals text from start h = rw (ended text from h)

-- ---- sides and signs
module _ (plus minus : ℕ) (text : List ℕ) (place : ℕ) where
  pub side_plus : formed (plus ∷ []) text ≡ true → given false ≡ at place (side_of plus minus text)
  unfolding side_of
  side_plus e = simp e

  pub side_minus : formed (plus ∷ []) text ≡ false → formed (minus ∷ []) text ≡ true → given true ≡ at place (side_of plus minus text)
  unfolding side_of
  side_minus e f = simp (e, f)

  pub side_none : formed (plus ∷ []) text ≡ false → formed (minus ∷ []) text ≡ false → refused (refusal 80 0 place) ≡ at place (side_of plus minus text)
  unfolding side_of
  side_none e f = simp (e, f)

pub first_none : (text : List ℕ) → length text ≡ 0 → 0 ≡ get_or text 0 0
first_none [] h = refl
first_none (b ∷ bs) h = absurd (omega arith)

pub first_some : (text : List ℕ) (byte : ℕ) → get_or text 0 0 ≡ byte → 0 < byte → 1 ≤ length text
first_some [] byte e h = absurd (omega arith)
first_some (b ∷ bs) byte e h = omega arith

module _ (text : List ℕ) where
  pub plus_sign : get_or text 0 0 ≡ 43 → drop 1 text ≡ unsigned text
  plus_sign e = simp (eq-eqb (get_or text 0 0) 43 e)

  pub minus_sign : (get_or text 0 0 ≡ 43 → ⊥) → get_or text 0 0 ≡ 45 → drop 1 text ≡ unsigned text
  minus_sign n e = simp (ne_eqb (get_or text 0 0) 43 n, eq-eqb (get_or text 0 0) 45 e)

  pub no_sign : (get_or text 0 0 ≡ 43 → ⊥) → (get_or text 0 0 ≡ 45 → ⊥) → text ≡ unsigned text
  no_sign n m = simp (ne_eqb (get_or text 0 0) 43 n, ne_eqb (get_or text 0 0) 45 m)

-- ---- degrees of a word
module _ (limit : ℕ) (text : List ℕ) (place : ℕ) {r : Result Ratio Refusal} (e : r ≡ at place (decimal_of limit (unsigned text))) where
  pub degrees_are : {size : Ratio} → r ≡ Ok size → {x : Float} → x ≡ nearest_to (record { minus = is_minus text; size = record { num = size.num; den = size.den } })
      → given x ≡ shown (at place (degrees_of limit text)) nearest_to
  unfolding degrees_of
  degrees_are is f = ap given f ∙ go (decimal_of limit (unsigned text)) (rw is at e) where
    go : (a : Answer Size) {num den : ℕ} → given (record { num = num; den = den }) ≡ at place a
        → given (nearest_to (record { minus = is_minus text; size = record { num = num; den = den } }))
        ≡ shown (at place (a >>= λ size. found (record { minus = is_minus text; size = size }))) nearest_to
    go (found a) e = cc
    go failed e = absurd (let z : ◌≡◌ {A = ℕ} 0 1 = cc in omega arith)
    go (A.refused n) e = absurd (let z : ◌≡◌ {A = ℕ} 0 1 = cc in omega arith)

  pub degrees_refused : {why : Refusal} → r ≡ Err why → refused why ≡ shown (at place (degrees_of limit text)) nearest_to
  unfolding degrees_of
  degrees_refused is = go (decimal_of limit (unsigned text)) (rw is at e) where
    go : (a : Answer Size) {why : Refusal} → refused why ≡ at place a → refused why ≡ shown (at place (a >>= λ size. found (record { minus = is_minus text; size = size }))) nearest_to
    go (found a) e = absurd (let z : ◌≡◌ {A = ℕ} 0 1 = cc in omega arith)
    go failed e = cc
    go (A.refused n) e = cc

-- where the point is, counted from 0
pub whole_is : (text : List ℕ) (whole : ℕ) → whole ≡ 0 + length (until 46 46 text) → whole ≡ length (until 46 46 text)
whole_is text whole e = omega arith

pub size_held : {r : Result Ratio Refusal} {size : Ratio} → r ≡ Ok size → IfOk r IsSize → (0 < size.den) × (size.num / size.den < 16777216)
unfolding IsSize
size_held is h = held IsSize is h
