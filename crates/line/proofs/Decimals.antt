-- A number's decimal digits, as `io::decimal` has them. Assumes nothing.
use Rattle.numbers.proofs.Prelude.{ℕ, zero, suc, ◌-◌, ◌/◌, ◌%◌, ◌^◌, ◌≤◌, ◌<◌, lt-ltb, le-ltb, ltb, length, length-append, Bool, true, false, cond, List, [], ◌∷◌, ◌++◌, ◌≡◌, refl, sym, ap, subst}
use Rattle.numbers.proofs.Prelude.{◌∙◌, pow-suc, arith}
use Rattle.io.specs.Digits.{hex_digit_ascii, last_digits, IsDigitCount}
use Rattle.line.specs.Put.{digit, decimal_of, decimal}

glyph_digit : (n : ℕ) → hex_digit_ascii (n % 10) ≡ digit n
glyph_digit n = rw (lt-ltb (n % 10) 10 (omega arith)) refl

few : (k n : ℕ) → n < 10 → decimal_of k n ≡ digit n ∷ []
unfolding decimal_of
few zero n h = refl
few (suc k) n h = rw (lt-ltb n 10 h) refl

more : (k n : ℕ) → 10 ≤ n → decimal_of (suc k) n ≡ decimal_of k (n / 10) ++ (digit n ∷ [])
unfolding decimal_of
more k n h = rw (le-ltb n 10 h) refl

-- the fewest digits are those without zeros in front
fewest : (k r n : ℕ) → n < 10 ^ suc k → 1 ≤ r → n < 10 ^ r → (1 < r → 10 ^ (r - 1) ≤ n) → last_digits 10 r n ≡ decimal_of k n
fewest k zero n fits some small large = absurd (omega arith)
fewest k (suc zero) n fits some small large = ap (λ (d : ℕ). d ∷ []) (glyph_digit n) ∙ sym (few k n (omega (arith, pow-suc 10 0)))
fewest zero (suc (suc r)) n fits some small large =
    let ten : 10 ^ suc r ≤ n = subst (λ (e : ℕ). 10 ^ e ≤ n) (let e : suc (suc r) - 1 ≡ suc r = omega arith in e) (large (omega arith)) in
    let some : 1 ≤ 10 ^ r = omega arith in absurd (omega (arith, pow-suc 10 r, pow-suc 10 0, ten, some, fits))
fewest (suc k) (suc (suc r)) n fits some small large =
    let ten : 10 ^ suc r ≤ n = subst (λ (e : ℕ). 10 ^ e ≤ n) (let e : suc (suc r) - 1 ≡ suc r = omega arith in e) (large (omega arith)) in
    let some : 1 ≤ 10 ^ r = omega arith in
    let rest : last_digits 10 (suc r) (n / 10) ≡ decimal_of k (n / 10) =
    fewest k (suc r) (n / 10) (omega (arith, pow-suc 10 (suc k), fits)) (omega arith) (omega (arith, pow-suc 10 (suc r), small))
    (λ h. subst (λ (e : ℕ). 10 ^ e ≤ n / 10) (let e : r ≡ suc r - 1 = omega arith in e) (omega (arith, pow-suc 10 r, ten))) in
    ap (λ (d : ℕ). last_digits 10 (suc r) (n / 10) ++ (d ∷ [])) (glyph_digit n)
    ∙ ap (λ (ds : List ℕ). ds ++ (digit n ∷ [])) rest
    ∙ sym (more k n (omega (arith, pow-suc 10 r, ten, some)))

pub in_digits : (n r : ℕ) → n < 2 ^ 64 → IsDigitCount 10 1 n r → last_digits 10 r n ≡ decimal n
unfolding decimal
in_digits n r fits f = fewest 19 r n (omega (arith, fits)) f.0 f.1 f.2

digits_few : (k n : ℕ) → length (decimal_of k n) ≤ suc k
unfolding decimal_of
digits_few zero n = omega arith
digits_few (suc k) n = go (ltb n 10) (digits_few k (n / 10)) where
  go : (t : Bool) → length (decimal_of k (n / 10)) ≤ suc k → length (cond t (digit n ∷ []) (decimal_of k (n / 10) ++ (digit n ∷ []))) ≤ suc (suc k)
  go true h = omega arith
  go false h = omega (arith, h, length-append (decimal_of k (n / 10)) (digit n ∷ []))

-- twenty at most
pub decimal_short : (n : ℕ) → length (decimal n) ≤ 20
unfolding decimal
decimal_short n = digits_few 19 n
