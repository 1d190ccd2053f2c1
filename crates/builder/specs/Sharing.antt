-- What is found twice: equal texts, equal records, and the first of each. "Equal means the same texts, byte for byte, field by field."
use Rattle.std.specs.Prelude.{if◌then◌else◌, ◌+◌, ◌&&◌, ◌||◌, ◌∷◌}
use Rattle.numbers.specs.Prelude.{ℕ, eqb, Bool, true, false, List, []}
use Rattle.builder.specs.Yards.{Text}

-- two lists have the same items, in turn
unfoldable pub same_by : {A : Type 0} → (A → A → Bool) → List A → List A → Bool
same_by same [] [] = true
same_by same [] (y ∷ ys) = false
same_by same (x ∷ xs) [] = false
same_by same (x ∷ xs) (y ∷ ys) = same x y && same_by same xs ys

abbrev pub same_text : Text → Text → Bool
same_text = same_by eqb

abbrev pub same_texts : List Text → List Text → Bool
same_texts = same_by same_text

module _ {A : Type 0} (same : A → A → Bool) where
  unfoldable pub is_in : A → List A → Bool
  is_in x [] = false
  is_in x (y ∷ ys) = same x y || is_in x ys

  -- how often it is found
  unfoldable pub times_in : A → List A → ℕ
  times_in x [] = 0
  times_in x (y ∷ ys) = (if same x y then 1 else 0) + times_in x ys

  -- the first of each, beside those seen before
  unfoldable pub firsts_after : List A → List A → List A
  firsts_after seen [] = []
  firsts_after seen (x ∷ xs) = if is_in x seen then firsts_after seen xs else (x ∷ firsts_after (x ∷ seen) xs)

  abbrev pub firsts : List A → List A
  firsts = firsts_after []

  -- the sizes of those before the first that is the same
  unfoldable pub size_before : (A → ℕ) → A → List A → ℕ
  size_before size x [] = 0
  size_before size x (y ∷ ys) = if same x y then 0 else (size y + size_before size x ys)

-- those that are good
unfoldable pub good_ones : {A : Type 0} → (A → Bool) → List A → List A
good_ones good [] = []
good_ones good (x ∷ xs) = if good x then (x ∷ good_ones good xs) else good_ones good xs

-- ---- how the first of each is found, once all are in the order of a key that equal ones share
-- the first that is good, else the one that is given
unfoldable pub first_with : {A : Type 0} → (A → Bool) → A → List A → A
first_with good other [] = other
first_with good other (x ∷ xs) = if good x then x else first_with good other xs
