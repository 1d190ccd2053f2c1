-- Request Q-6: a strict walk is refused 31 exactly where the plain walk meets a number that the file's end cuts, and is else the plain walk. Assumes nothing.
use Rattle.numbers.proofs.Prelude.{ℕ, zero, suc, ◌+◌, ◌-◌, ◌≤◌, ◌<◌, ltb-true, ltb-false, leb-false, ltb, length, drop, get_or, length-drop, get_or-drop, Bool, true, false, ◌&&◌, ◌||◌, List, [], ◌∷◌}
use Rattle.numbers.proofs.Prelude.{◌≡◌, refl, sym, ap, subst, ◌∙◌, arith}
use Rattle.numbers.{proofs.{Answers.{found_one, not_failed, not_refused, All}, Readings.{read_both}, varint.Bytes.{size_last, size_more}}, specs.Answer.{Answer, found, failed, refused}}
use Rattle.numbers.specs.{Answer.{if◌then◌else◌, ◌>>=◌}, Varint.{Numeral, numeral, is_last, size_of, too_long, forward_at, is_complete, whole_of, reading_of, start_of, backward_at}}
use Rattle.zones.specs.Cut.{where_found, cut_at, EndsCut}

-- ---- where a number ends
record Sized (file : List ℕ) (place : ℕ) (number : Numeral) : Type 0 where
  inside : place < length file
  next : number.place ≡ place + size_of (drop place file)

found_sized : (file : List ℕ) (place : ℕ) {number : Numeral} → found number ≡ forward_at file place → Sized file place number
unfolding forward_at
found_sized file place e = let here = not_failed (ltb place (length file)) e in
    let both = found_one (not_refused 12 (too_long (drop place file)) here.1).1 in
    record { inside = ltb-true _ _ here.0; next = ap (λ (n : Numeral). n.place) both }

-- bytes that end inside the number at their head end with a high bit
high_last : (bytes : List ℕ) → length bytes < size_of bytes → 0 < length bytes → 128 ≤ get_or bytes (length bytes - 1) 0
unfolding size_of
high_last [] h some = absurd (omega arith)
high_last (b ∷ []) h some = go (is_last b) refl h where
  go : (last : Bool) → is_last b ≡ last → 1 < 1 + (if last then 0 else 1) → 128 ≤ b
  go true e h = absurd (omega arith)
  go false e h = ltb-false b 128 e
high_last (b ∷ c ∷ bytes) h some = go (is_last b) (high_last (c ∷ bytes)) h where
  go : (last : Bool) → (length (c ∷ bytes) < size_of (c ∷ bytes) → 0 < length (c ∷ bytes) → 128 ≤ get_or (c ∷ bytes) (length (c ∷ bytes) - 1) 0)
      → length (b ∷ c ∷ bytes) < 1 + (if last then 0 else size_of (c ∷ bytes)) → 128 ≤ get_or (b ∷ c ∷ bytes) (length (b ∷ c ∷ bytes) - 1) 0
  go true rest h = absurd (omega arith)
  go false rest h = let n : length (b ∷ c ∷ bytes) - 1 ≡ suc (length (c ∷ bytes) - 1) = omega arith in rw n (rest (omega arith) (omega arith))

ends_cut : (file : List ℕ) (place : ℕ) {number : Numeral} → found number ≡ forward_at file place → is_complete file number ≡ false → EndsCut file
ends_cut file place {number} e i = let s = found_sized file place e in let bytes = drop place file in let size = length-drop place file in
    let high = high_last bytes (omega (arith, s.next, s.inside, size, leb-false number.place (length file) i)) (omega (arith, s.inside, size)) in
    let n : place + (length bytes - 1) ≡ length file - 1 = omega (arith, s.inside, size) in
    let moved : get_or bytes (length bytes - 1) 0 ≡ get_or file (length file - 1) 0 = get_or-drop place file (length bytes - 1) 0 ∙ ap (λ (k : ℕ). get_or file k 0) n in
    omega (arith, high, moved)

-- ---- the strict answer beside the plain one: 31 where the walk meets a cut number, and then the file ends inside one; else the same
pub data Cuts (E : Type 0) {A : Type 0} : Bool → Answer A → Answer A → Type 0 where
  cut : {plain : Answer A} → E → Cuts E true (refused 31) plain
  same : {answer : Answer A} → Cuts E false answer answer

module _ {E : Type 0} where
  pub then_cuts : {A B : Type 0} {b : Bool} {c : A → Bool} {strict plain : Answer A} {k k' : A → Answer B} → Cuts E b strict plain → ((a : A) → Cuts E (c a) (k a) (k' a))
      → Cuts E (b || where_found plain c) (strict >>= k) (plain >>= k')
  then_cuts (cut e) h = cut e
  then_cuts (same {answer = found a}) h = h a
  then_cuts (same {answer = failed}) h = same
  then_cuts (same {answer = refused n}) h = same

  -- nothing is read behind it
  pub last_cuts : {A B : Type 0} {b : Bool} {strict plain : Answer A} (k : A → Answer B) → Cuts E b strict plain → Cuts E b (strict >>= k) (plain >>= k)
  last_cuts k (cut e) = cut e
  last_cuts k (same {answer = found a}) = same
  last_cuts k (same {answer = failed}) = same
  last_cuts k (same {answer = refused n}) = same

  -- both choose alike
  pub either_cuts : {A : Type 0} (test : Bool) {b c : Bool} {x x' y y' : Answer A} → Cuts E b x x' → Cuts E c y y' → Cuts E (if test then b else c) (if test then x else y) (if test then x' else y')
  either_cuts true h k = h
  either_cuts false h k = k

-- the leaf: 31 exactly where the plain reading finds a number that is not complete
pub reading_cuts : (file : List ℕ) (place : ℕ) → Cuts (EndsCut file) (cut_at file place) (reading_of true file place) (reading_of false file place)
unfolding cut_at reading_of whole_of
reading_cuts file place = go (forward_at file place) refl where
  chosen : (number : Numeral) → found number ≡ forward_at file place → (test : Bool) → is_complete file number ≡ test
      → Cuts (EndsCut file) (if test then false else true) (if test then found number else refused 31) (found number)
  chosen number is true e = same
  chosen number is false e = cut (ends_cut file place is e)

  go : (answer : Answer Numeral) → answer ≡ forward_at file place
      → Cuts (EndsCut file) (where_found answer (λ number. if is_complete file number then false else true)) (answer >>= λ number. if is_complete file number then found number else refused 31) answer
  go (found number) is = chosen number is (is_complete file number) refl
  go failed is = same
  go (refused n) is = same

-- ---- a number that is read backward is always complete
module _ (file : List ℕ) (place : ℕ) (here : place < length file) (last : get_or file place 0 < 128) where
  reaches : (k : ℕ) → k ≤ place → k + size_of (drop k file) ≡ place + 1 → start_of file k + size_of (drop (start_of file k) file) ≡ place + 1
  unfolding start_of
  reaches zero below size = size
  reaches (suc k) below size = go (is_last (get_or file k 0)) refl (reaches k (omega arith)) where
    go : (b : Bool) → is_last (get_or file k 0) ≡ b → (k + size_of (drop k file) ≡ place + 1 → start_of file k + size_of (drop (start_of file k) file) ≡ place + 1)
        → (if b then suc k else start_of file k) + size_of (drop (if b then suc k else start_of file k) file) ≡ place + 1
    go true e rest = size
    go false e rest = let k1 : k + 1 ≡ suc k = omega arith in
        rest (omega (arith, size_more file k (omega arith) (ltb-false _ _ e), ap (λ (n : ℕ). size_of (drop n file)) k1, size))

  upward : start_of file place + size_of (drop (start_of file place) file) ≡ place + 1
  upward = reaches place (omega arith) (omega (arith, size_last file place here last))

-- What a backward reading finds stands whole in the file: read forward from behind the place that it gives, strictly too, it is the same value and
-- ends behind the place where the backward reading began.
pub record Upward (file : List ℕ) (place : ℕ) (number : Numeral) : Type 0 where
  pub forward : forward_at file (number.place + 1) ≡ numeral number.value (place + 1)
  pub complete : reading_of true file (number.place + 1) ≡ numeral number.value (place + 1)

pub backward_complete : (file : List ℕ) (place : ℕ) → All (Upward file place) (backward_at file place)
unfolding backward_at
backward_complete file place = go (ltb place (length file)) (is_last (get_or file place 0)) (ltb 0 (start_of file place)) refl refl refl where
  found_there : place < length file → get_or file place 0 < 128 → 0 < start_of file place → (answer : Answer Numeral) → answer ≡ forward_at file (start_of file place)
      → All (Upward file place) (answer >>= λ number. numeral number.value (start_of file place - 1))
  found_there here last some (found number) is = let s = found_sized file (start_of file place) is in
      let ends : number.place ≡ place + 1 = omega (arith, s.next, upward file place here last) in
      let again : start_of file place ≡ start_of file place - 1 + 1 = omega arith in
      let there : numeral number.value (place + 1) ≡ forward_at file (start_of file place) = ap (numeral number.value) (sym ends) ∙ is in record {
        forward = subst (λ (start : ℕ). forward_at file start ≡ numeral number.value (place + 1)) again (sym there);
        complete = subst (λ (start : ℕ). reading_of true file start ≡ numeral number.value (place + 1)) again (sym (read_both file (start_of file place) true there (omega arith)));
      }
  found_there here last some failed is = tt
  found_there here last some (refused n) is = tt

  go : (a b c : Bool) → ltb place (length file) ≡ a → is_last (get_or file place 0) ≡ b → ltb 0 (start_of file place) ≡ c
      → All (Upward file place) (if a && b && c then (forward_at file (start_of file place) >>= λ number. numeral number.value (start_of file place - 1)) else failed)
  go true true true e f g = found_there (ltb-true _ _ e) (ltb-true _ _ f) (ltb-true _ _ g) (forward_at file (start_of file place)) refl
  go true true false e f g = tt
  go true false true e f g = tt
  go true false false e f g = tt
  go false true true e f g = tt
  go false true false e f g = tt
  go false false true e f g = tt
  go false false false e f g = tt
