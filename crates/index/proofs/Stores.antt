-- Words that go into a lent buffer one after another, and stores that do not meet. Assumes nothing.
use Rattle.numbers.proofs.Prelude.{ℕ, suc, ◌+◌, ◌≤◌, ◌<◌, length, drop, get_or, set, length-replicate, sets, sets-eq, get_or-set_other, List, [], ◌∷◌, ◌++◌, ◌≡◌, refl, sym, ap, subst, ◌∙◌, arith}
use Rattle.numbers.{proofs.Lists.{zeros_drop}, specs.Lists.{zeros, padded}}
use lib.Seq.{set_comm}
use Rattle.writer.{proofs.Stores.{Left}, specs.inner.Stored.{Stored}}

-- ---- stores that do not meet
-- a word before others
pub set_before : (ys l : List ℕ) (i j x : ℕ) → i < j → set (sets l j ys) i x ≡ sets (set l i x) j ys
set_before [] l i j x h = refl
set_before (y ∷ ys) l i j x h = set_before ys (set l j y) i (suc j) x (omega arith) ∙ ap (λ (m : List ℕ). sets m (suc j) ys) (set_comm l j i y x (λ e. omega (arith, e)))

pub sets_before : (xs ys l : List ℕ) (i j : ℕ) → i + length xs ≤ j → sets (sets l j ys) i xs ≡ sets (sets l i xs) j ys
sets_before [] ys l i j h = refl
sets_before (x ∷ xs) ys l i j h = ap (λ (m : List ℕ). sets m (suc i) xs) (set_before ys l i j x (omega arith)) ∙ sets_before xs ys (set l i x) (suc i) j (omega arith)

pub read_below : (vs l : List ℕ) (i k d : ℕ) → k < i → get_or (sets l i vs) k d ≡ get_or l k d
read_below [] l i k d h = refl
read_below (v ∷ vs) l i k d h = read_below vs (set l i v) (suc i) k d (omega arith) ∙ get_or-set_other l i k v d (λ e. omega (arith, e))

pub read_above : (vs l : List ℕ) (i k d : ℕ) → i + length vs ≤ k → get_or (sets l i vs) k d ≡ get_or l k d
read_above [] l i k d h = refl
read_above (v ∷ vs) l i k d h = read_above vs (set l i v) (suc i) k d (omega arith) ∙ get_or-set_other l i k v d (λ e. omega (arith, e))

-- what stood before all that is stored stands there still
pub left_below : {before all now rest : List ℕ} {from at : ℕ} → Left before from all now at rest → from ≤ at → (i : ℕ) → i < from → get_or now i 0 ≡ get_or before i 0
left_below {before} {all} {now} {rest} {from} {at} l h i k = sym (read_below rest now at i 0 (omega arith)) ∙ ap (λ (m : List ℕ). get_or m i 0) l.same ∙ read_below all before from i 0 k

-- ---- over zeros
pub over_zeros : (n : ℕ) (xs : List ℕ) → length xs ≤ n → sets (zeros n) 0 xs ≡ padded n xs
over_zeros n xs h = let z : 0 + length xs ≡ length xs = omega arith in let l : length (zeros n) ≡ n = length-replicate {A = ℕ} n 0 in
    sets-eq xs (zeros n) 0 (omega (arith, l)) ∙ ap (λ (k : ℕ). xs ++ drop k (zeros n)) z ∙ ap (λ (r : List ℕ). xs ++ r) (zeros_drop (length xs) n)

-- a word by another name
pub same_word : {before after : List ℕ} {at next v w : ℕ} → v ≡ w → Stored before at (v ∷ []) after next → Stored before at (w ∷ []) after next
same_word {before} {after} {at} {next} e s = subst (λ (x : ℕ). Stored before at (x ∷ []) after next) e s
