-- Lists: empty ones, zeros, and words that are stored one after another. Assumes nothing.
use Rattle.numbers.proofs.Prelude.{ℕ, zero, suc, ◌+◌, ◌-◌, ◌≤◌, length, drop, get_or, set, sets, set_out, List, [], ◌∷◌, ◌++◌, ◌≡◌, refl, sym, ap, ◌∙◌, add-zero, sub-zero, arith}
use Rattle.numbers.specs.Lists.{zeros}

pub none_left : (l : List ℕ) → length l ≡ 0 → l ≡ []
none_left [] e = refl
none_left (x ∷ l) e = absurd (omega arith)

-- ---- zeros
pub zeros_drop : (k n : ℕ) → drop k (zeros n) ≡ zeros (n - k)
zeros_drop zero n = simp sub-zero
zeros_drop (suc k) zero = let z : 0 - suc k ≡ 0 = omega arith in rw z
zeros_drop (suc k) (suc n) = let z : suc n - suc k ≡ n - k = omega arith in rw z (zeros_drop k n)

pub zero_at : (n i : ℕ) → get_or (zeros n) i 0 ≡ 0
zero_at zero i = refl
zero_at (suc n) zero = refl
zero_at (suc n) (suc i) = zero_at n i

-- behind a list they change no word of it
pub wider_at : (list : List ℕ) (n i : ℕ) → get_or (list ++ zeros n) i 0 ≡ get_or list i 0
wider_at [] n i = zero_at n i
wider_at (x ∷ xs) n zero = refl
wider_at (x ∷ xs) n (suc i) = wider_at xs n i

-- ---- words that are stored
pub sets_append : (xs ys before : List ℕ) (at : ℕ) → sets before at (xs ++ ys) ≡ sets (sets before at xs) (at + length xs) ys
sets_append [] ys before at = ap (λ (n : ℕ). sets before n ys) (sym (add-zero at))
sets_append (x ∷ xs) ys before at = sets_append xs ys (set before at x) (suc at) ∙ ap (λ (n : ℕ). sets (sets (set before at x) (suc at) xs) n ys) (omega arith)

-- past the end nothing is
pub sets_past : (words xs : List ℕ) (at : ℕ) → length xs ≤ at → sets xs at words ≡ xs
sets_past [] xs at h = refl
sets_past (b ∷ bs) xs at h = ap (λ (ys : List ℕ). sets ys (suc at) bs) (set_out xs at b h) ∙ sets_past bs xs (suc at) (omega arith)
