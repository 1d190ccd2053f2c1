-- The two readings of a file's numbers (request Q-6): what holds of both, and how the strict one differs from the plain one. Assumes nothing.
use Rattle.numbers.proofs.Prelude.{ℕ, ◌≤◌, ◌<◌, length, Bool, true, false, List, ◌≡◌, refl, sym, arith}
use Rattle.numbers.proofs.{Answers.{All}, Laws.{Read, forward_read}, Refusals.{Numbered, as_found, as_failed, as_refused, forward_numbered}}
use Rattle.numbers.specs.{Answer.{Answer, found, failed, refused, if◌then◌else◌, ◌>>=◌}, Varint.{Numeral, numeral, forward_at, is_complete, whole_of, reading_of}}
use Rattle.numbers.proofs.varint.Strict as S

-- ---- refused 31, or the same
-- the strict answer beside the plain one
pub data Strictly {A : Type 0} : Answer A → Answer A → Type 0 where
  cut : {plain : Answer A} → Strictly (refused 31) plain
  same : {answer : Answer A} → Strictly answer answer

pub then_strictly : {A B : Type 0} {strict plain : Answer A} {k k' : A → Answer B} → Strictly strict plain → ((a : A) → Strictly (k a) (k' a)) → Strictly (strict >>= k) (plain >>= k')
then_strictly cut h = cut
then_strictly (same {answer = found a}) h = h a
then_strictly (same {answer = failed}) h = same
then_strictly (same {answer = refused n}) h = same

-- both choose alike
pub strictly_either : {A : Type 0} (test : Bool) {a a' b b' : Answer A} → Strictly a a' → Strictly b b' → Strictly (if test then a else b) (if test then a' else b')
strictly_either true h k = h
strictly_either false h k = k

-- the leaf's `strict_or_plain`
pub reading_strictly : (file : List ℕ) (place : ℕ) → Strictly (reading_of true file place) (reading_of false file place)
unfolding reading_of whole_of
reading_strictly file place = go (forward_at file place) where
  chosen : (test : Bool) (number : Numeral) → Strictly (if test then found number else refused 31) (found number)
  chosen true number = same
  chosen false number = cut

  go : (answer : Answer Numeral) → Strictly (answer >>= λ number. if is_complete file number then found number else refused 31) answer
  go (found number) = chosen (is_complete file number) number
  go failed = same
  go (refused n) = same

-- ---- what holds of both readings
pub plain_reading : (file : List ℕ) (place : ℕ) → reading_of false file place ≡ forward_at file place
unfolding reading_of
plain_reading file place = refl

-- a number that the file holds
pub read_both : (file : List ℕ) (place : ℕ) (strict : Bool) {value next : ℕ} → numeral value next ≡ forward_at file place → next ≤ length file → numeral value next ≡ reading_of strict file place
read_both = S.read_both

-- whatever is found at a place was read there
pub reading_read : (strict : Bool) (file : List ℕ) (place : ℕ) → All (λ (number : Numeral). Read file place number.value number.place) (reading_of strict file place)
unfolding reading_of whole_of
reading_read false file place = forward_read file place
reading_read true file place = go (forward_at file place) (forward_read file place) where
  chosen : (test : Bool) (number : Numeral) → Read file place number.value number.place
      → All (λ (n : Numeral). Read file place n.value n.place) (if test then found number else refused 31)
  chosen true number h = h
  chosen false number h = tt

  go : (answer : Answer Numeral) → All (λ (n : Numeral). Read file place n.value n.place) answer
      → All (λ (n : Numeral). Read file place n.value n.place) (answer >>= λ number. if is_complete file number then found number else refused 31)
  go (found number) h = chosen (is_complete file number) number h
  go failed h = tt
  go (refused n) h = tt

-- a strict reading finds complete numbers alone
pub strict_complete : (file : List ℕ) (place : ℕ) → All (λ (number : Numeral). is_complete file number ≡ true) (reading_of true file place)
unfolding reading_of whole_of
strict_complete file place = go (forward_at file place) where
  chosen : (number : Numeral) (test : Bool) → is_complete file number ≡ test → All (λ (n : Numeral). is_complete file n ≡ true) (if test then found number else refused 31)
  chosen number true e = e
  chosen number false e = tt

  go : (answer : Answer Numeral) → All (λ (n : Numeral). is_complete file n ≡ true) (answer >>= λ number. if is_complete file number then found number else refused 31)
  go (found number) = chosen number (is_complete file number) refl
  go failed = tt
  go (refused n) = tt

-- the plain reading is refused with 12 alone, the strict one with 31 too
pub reading_numbered : {P : ℕ → Type 0} (strict : Bool) → P 12 → (strict ≡ true → P 31) → (file : List ℕ) (place : ℕ) → Numbered P (reading_of strict file place)
unfolding reading_of whole_of
reading_numbered false twelve thirty_one file place = forward_numbered twelve file place
reading_numbered {P} true twelve thirty_one file place = go (forward_at file place) (forward_numbered twelve file place) where
  chosen : (test : Bool) (number : Numeral) → Numbered P (if test then found number else refused 31)
  chosen true number = as_found
  chosen false number = as_refused (thirty_one refl)

  go : (answer : Answer Numeral) → Numbered P answer → Numbered P (answer >>= λ number. if is_complete file number then found number else refused 31)
  go (found number) h = chosen (is_complete file number) number
  go failed h = as_failed
  go (refused n) (as_refused h) = as_refused h

-- read strictly: 31 where the plain reading finds an incomplete number,
pub incomplete_refused : (file : List ℕ) (place : ℕ) {number : Numeral} → forward_at file place ≡ found number → is_complete file number ≡ false → reading_of true file place ≡ refused 31
unfolding reading_of
incomplete_refused file place e i = sym (S.cut file e i)

-- and nowhere else
pub record Cut (file : List ℕ) (place : ℕ) : Type 0 where
  pub number : Numeral
  pub found_there : forward_at file place ≡ found number
  pub incomplete : is_complete file number ≡ false

pub refused_incomplete : (file : List ℕ) (place : ℕ) → reading_of true file place ≡ refused 31 → Cut file place
unfolding reading_of whole_of
refused_incomplete file place e = go (forward_at file place) refl (forward_numbered {P = λ n. n ≡ 12} refl file place) e where
  chosen : (number : Numeral) → forward_at file place ≡ found number → (test : Bool) → is_complete file number ≡ test → (if test then found number else refused 31) ≡ refused 31 → Cut file place
  chosen number is true i r = let z : ◌≡◌ {A = ℕ} 0 1 = cc in absurd (omega arith)
  chosen number is false i r = record { number = number; found_there = is; incomplete = i }

  go : (answer : Answer Numeral) → forward_at file place ≡ answer → Numbered (λ n. n ≡ 12) answer → (answer >>= λ number. if is_complete file number then found number else refused 31) ≡ refused 31
      → Cut file place
  go (found number) is h r = chosen number is (is_complete file number) refl r
  go failed is h r = let z : ◌≡◌ {A = ℕ} 0 1 = cc in absurd (omega arith)
  go (refused n) is (as_refused h) r = let z : n ≡ 31 = cc in absurd (omega arith)

-- ---- a reading whose numbers end after their place
abbrev pub Grows : (ℕ → Answer Numeral) → Type 0
Grows read = (place : ℕ) → All (λ (number : Numeral). place < number.place) (read place)

pub reading_grows : (strict : Bool) (file : List ℕ) → Grows (reading_of strict file)
reading_grows strict file place = go (reading_of strict file place) (reading_read strict file place) where
  go : (answer : Answer Numeral) → All (λ (number : Numeral). Read file place number.value number.place) answer → All (λ (number : Numeral). place < number.place) answer
  go (found number) h = h.grows
  go failed h = tt
  go (refused n) h = tt
