-- Which numbers an answer can be refused with. Assumes nothing.
use Rattle.numbers.proofs.{Prelude.{ℕ, eqb-true, eqb, ltb, length, drop, get_or, Bool, true, false, ◌&&◌, ◌||◌, List, [], ◌∷◌, ◌++◌, ◌≡◌, refl, ap, ◌∙◌}, Tests.{both, differ}}
use Rattle.numbers.specs.{Answer.{Answer, found, failed, refused, if◌then◌else◌, ◌>>=◌}, Varint.{is_last, too_long, forward_at, start_of, backward_at}}

-- ---- lists of numbers
abbrev pub one_of : List ℕ → ℕ → Bool
one_of [] n = false
one_of (m ∷ ms) n = eqb n m || one_of ms n

-- n is a number of the list
abbrev pub Listed : List ℕ → ℕ → Type 0
Listed ms n = one_of ms n ≡ true

-- a list that goes on has the same numbers and more
pub still_listed : (ms more : List ℕ) (n : ℕ) → Listed ms n → Listed (ms ++ more) n
still_listed [] more n h = cc
still_listed (m ∷ ms) more n h = go (eqb n m) (still_listed ms more n) h where
  go : (here : Bool) → (Listed ms n → Listed (ms ++ more) n) → (here || one_of ms n) ≡ true → (here || one_of (ms ++ more) n) ≡ true
  go true later h = refl
  go false later h = later h

-- where every number of a list passes a test
abbrev pub all : (ℕ → Bool) → List ℕ → Bool
all test [] = true
all test (m ∷ ms) = test m && all test ms

pub listed_so : (test : ℕ → Bool) (ms : List ℕ) (n : ℕ) → all test ms ≡ true → Listed ms n → test n ≡ true
listed_so test [] n a h = differ h
listed_so test (m ∷ ms) n a h = go (eqb n m) refl h (listed_so test ms n (both (test m) (all test ms) a).1) where
  go : (t : Bool) → eqb n m ≡ t → (t || one_of ms n) ≡ true → (Listed ms n → test n ≡ true) → test n ≡ true
  go true e h later = ap test (eqb-true n m e) ∙ (both (test m) (all test ms) a).0
  go false e h later = later h

-- ---- answers
-- a number that it is refused with has the property
pub data Numbered (P : ℕ → Type 0) {A : Type 0} : Answer A → Type 0 where
  as_found : {a : A} → Numbered P (found a)
  as_failed : Numbered P failed
  as_refused : {n : ℕ} → P n → Numbered P (refused n)

-- what both sides of a choice have, the choice has
pub either : {A : Type 0} (Q : A → Type 0) (test : Bool) {a b : A} → Q a → Q b → Q (if test then a else b)
either Q true on off = on
either Q false on off = off

module _ {P : ℕ → Type 0} where
  pub then_numbered : {A B : Type 0} {answer : Answer A} {next : A → Answer B} → Numbered P answer → ((a : A) → Numbered P (next a)) → Numbered P (answer >>= next)
  then_numbered as_found k = k _
  then_numbered as_failed k = as_failed
  then_numbered (as_refused h) k = as_refused h

-- varints are refused with 12 alone
module _ {P : ℕ → Type 0} (twelve : P 12) (file : List ℕ) where
  pub forward_numbered : (place : ℕ) → Numbered P (forward_at file place)
  unfolding forward_at
  forward_numbered place =
      either (Numbered P) (ltb place (length file)) (either (Numbered P) (too_long (drop place file)) (as_refused twelve) as_found) as_failed

  pub backward_numbered : (place : ℕ) → Numbered P (backward_at file place)
  unfolding backward_at
  backward_numbered place = let start = start_of file place in
      either (Numbered P) (ltb place (length file) && is_last (get_or file place 0) && ltb 0 start) (then_numbered (forward_numbered start) (λ number. as_found)) as_failed
