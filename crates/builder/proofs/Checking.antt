-- Borders that are checked one after another, as they are lent. Assumes nothing.
use Rattle.numbers.proofs.Prelude.{ℕ, suc, ◌+◌, ◌-◌, ◌*◌, ◌≤◌, ◌<◌, le-leb, leb-true, lt-leb, leb-false, leb, ℤ, length, take, drop, get_or, length-drop, drop_of_length-le}
use Rattle.numbers.proofs.Prelude.{drop-drop, Bool, true, false, List, [], ◌∷◌, ◌++◌, ◌≡◌, refl, sym, ap, ◌∙◌, arith}
use Rattle.numbers.specs.{Answer.{if◌then◌else◌}, Reply.{Reply, given, refused, ◌>>◌}, declared.refusal.Refusal.{Refusal}}
use Rattle.writer.specs.Writer.{checks}
use Rattle.builder.specs.{File.{borders_good}, Yards.{Text, part_of, part_end, next_part, yards_from}}

-- ---- parts of a list
module _ {A : Type 0} (l : List A) (at count : ℕ) where
  part_by : (r : ℕ) (t : Bool) → r ≡ (if t then at + count else at) → take (r - at) (drop at l) ≡ (if t then take count (drop at l) else [])
  part_by r true e = let is : r ≡ at + count = e in let s : r - at ≡ count = omega (arith, is) in ap (λ (n : ℕ). take n (drop at l)) s
  part_by r false e = let is : r ≡ at = e in let s : r - at ≡ 0 = omega (arith, is) in ap (λ (n : ℕ). take n (drop at l)) s

  pub part_is : (r : ℕ) → r ≡ part_end (length l) at count → take (r - at) (drop at l) ≡ part_of count (drop at l)
  unfolding part_of
  part_is r e = part_by r (leb count (length l - at)) e ∙ ap (λ (n : ℕ). if leb count n then take count (drop at l) else []) (sym (length-drop at l))

  next_by : (r : ℕ) (t : Bool) → leb count (length l - at) ≡ t → r ≡ (if t then at + count else length l) → drop r l ≡ drop count (drop at l)
  next_by r true _ e = let is : r ≡ at + count = e in ap (λ (n : ℕ). drop n l) is ∙ sym (drop-drop count at l)
  next_by r false cut e = let is : r ≡ length l = e in let far : length l - at < count = leb-false count (length l - at) cut in
      drop_of_length-le l {i = r} (omega (arith, is)) ∙ sym (drop-drop count at l ∙ drop_of_length-le l {i = at + count} (omega (arith, far)))

  pub next_is : (r : ℕ) → r ≡ next_part (length l) at count → drop r l ≡ drop count (drop at l)
  next_is r e = next_by r (leb count (length l - at)) refl e

-- a part ends, and the next one begins, inside the list
module _ (size at count : ℕ) (inside : at ≤ size) where
  ends_by : (r : ℕ) (t : Bool) → leb count (size - at) ≡ t → r ≡ (if t then at + count else at) → (at ≤ r) × (r ≤ size)
  ends_by r true fit e = let is : r ≡ at + count = e in let room : count ≤ size - at = leb-true count (size - at) fit in
      (omega (arith, is), omega (arith, is, room, inside))
  ends_by r false fit e = let is : r ≡ at = e in (omega (arith, is), omega (arith, is, inside))

  pub ends_inside : (r : ℕ) → r ≡ part_end size at count → (at ≤ r) × (r ≤ size)
  ends_inside r e = ends_by r (leb count (size - at)) refl e

  begins_by : (r : ℕ) (t : Bool) → leb count (size - at) ≡ t → r ≡ (if t then at + count else size) → r ≤ size
  begins_by r true fit e = let is : r ≡ at + count = e in let room : count ≤ size - at = leb-true count (size - at) fit in omega (arith, is, room, inside)
  begins_by r false fit e = let is : r ≡ size = e in omega (arith, is)

  pub begins_inside : (r : ℕ) → r ≡ next_part size at count → r ≤ size
  begins_inside r e = begins_by r (leb count (size - at)) refl e

module _ (size at count : ℕ) where
  pub end_fits : count ≤ size - at → at + count ≡ part_end size at count
  end_fits h = sym (ap (λ (b : Bool). if b then at + count else at) (le-leb count (size - at) h))

  pub end_cut : size - at < count → at ≡ part_end size at count
  end_cut h = sym (ap (λ (b : Bool). if b then at + count else at) (lt-leb count (size - at) h))

  pub next_fits : count ≤ size - at → at + count ≡ next_part size at count
  next_fits h = sym (ap (λ (b : Bool). if b then at + count else size) (le-leb count (size - at) h))

  pub next_cut : size - at < count → size ≡ next_part size at count
  next_cut h = sym (ap (λ (b : Bool). if b then at + count else size) (lt-leb count (size - at) h))

pub parts_checked : (lats : List ℤ) (lat tall : ℕ) (lons : List ℤ) (lon wide e f : ℕ) → e ≡ part_end (length lats) lat tall → f ≡ part_end (length lons) lon wide
    → (r : Reply (Unit {0})) → r ≡ checks 0 (take (e - lat) (drop lat lats)) (take (f - lon) (drop lon lons)) [] → r ≡ checks 0 (part_of tall (drop lat lats)) (part_of wide (drop lon lons)) []
parts_checked lats lat tall lons lon wide e f ends ends' r is =
    is ∙ (ap (λ (l : List ℤ). checks 0 l (take (f - lon) (drop lon lons)) []) (part_is lats lat tall e ends) ∙ ap (λ (l : List ℤ). checks 0 (part_of tall (drop lat lats)) l [])
    (part_is lons lon wide f ends'))

-- ---- yards as they are lent
-- the checks look at neither pieces nor texts
pub borders_alone : (ns : List ℕ) (ys xs : List ℤ) (w w' : List ℕ) (t t' : List Text) → borders_good (yards_from ns ys xs w t) ≡ borders_good (yards_from ns ys xs w' t')
unfolding yards_from borders_good
borders_alone (a ∷ b ∷ p ∷ v ∷ rest) ys xs w w' t t' =
    ap (λ (k : Reply (Unit {0})). checks 0 (part_of a ys) (part_of b xs) [] >> k) (borders_alone rest (drop a ys) (drop b xs) (drop (5 * p) w) (drop (5 * p) w') (drop v t) (drop v t'))
borders_alone (a ∷ b ∷ p ∷ []) ys xs w w' t t' = refl
borders_alone (a ∷ b ∷ []) ys xs w w' t t' = refl
borders_alone (a ∷ []) ys xs w w' t t' = refl
borders_alone [] ys xs w w' t t' = refl

-- four words are a yard
pub four_words : (yard rest : List ℕ) → length yard ≡ 4 → yard ++ rest ≡ get_or yard 0 0 ∷ get_or yard 1 0 ∷ get_or yard 2 0 ∷ get_or yard 3 0 ∷ rest
four_words [] rest h = absurd (omega (arith, h))
four_words (a ∷ []) rest h = absurd (omega (arith, h))
four_words (a ∷ b ∷ []) rest h = absurd (omega (arith, h))
four_words (a ∷ b ∷ p ∷ []) rest h = absurd (omega (arith, h))
four_words (a ∷ b ∷ p ∷ v ∷ []) rest h = refl
four_words (a ∷ b ∷ p ∷ v ∷ e ∷ more) rest h = let many : suc (suc (suc (suc (suc (length more))))) ≡ 4 = h in absurd (omega (arith, many))

-- fewer are none
none_left : (ns : List ℕ) (ys xs : List ℤ) → length ns < 4 → borders_good (yards_from ns ys xs [] []) ≡ given tt
unfolding yards_from borders_good
none_left (a ∷ b ∷ p ∷ v ∷ rest) ys xs h = let few : suc (suc (suc (suc (length rest)))) < 4 = h in absurd (omega (arith, few))
none_left (a ∷ b ∷ p ∷ []) ys xs h = refl
none_left (a ∷ b ∷ []) ys xs h = refl
none_left (a ∷ []) ys xs h = refl
none_left [] ys xs h = refl

-- ---- the loop
abbrev good_from : List ℕ → List ℤ → List ℤ → Reply (Unit {0})
good_from ns ys xs = borders_good (yards_from ns ys xs [] [])

-- what is left of the words, cut by so many
pub record Checking (yards : List ℕ) (lats lons : List ℤ) (left : List ℕ) (size lat lon : ℕ) : Type 0 where
  pub four : size ≡ 4
  pub tall : lat ≤ length lats
  pub wide : lon ≤ length lons
  pub same : good_from left (drop lat lats) (drop lon lons) ≡ good_from yards lats lons

pub check_starts : (yards : List ℕ) (lats lons : List ℤ) (left : List ℕ) (size : ℕ) → left ≡ yards → size ≡ 4 → Checking yards lats lons left size 0 0
check_starts yards lats lons left size e f = record { four = f; tall = omega arith; wide = omega arith; same = ap (λ (ns : List ℕ). good_from ns lats lons) e }

module _ (yards : List ℕ) (lats lons : List ℤ) (left : List ℕ) (size lat lon : ℕ) (c : Checking yards lats lons left size lat lon) where
  module _ (yard rest : List ℕ) (cut : left ≡ yard ++ rest) (long : length yard ≡ size) where
    abbrev here : Reply (Unit {0})
    here = checks 0 (part_of (get_or yard 0 0) (drop lat lats)) (part_of (get_or yard 1 0) (drop lon lons)) []

    abbrev later : Reply (Unit {0})
    later = good_from rest (drop (get_or yard 0 0) (drop lat lats)) (drop (get_or yard 1 0) (drop lon lons))

    step : good_from left (drop lat lats) (drop lon lons) ≡ (here >> later)
    unfolding yards_from borders_good
    step =
        ap (λ (ns : List ℕ). good_from ns (drop lat lats) (drop lon lons)) (cut ∙ four_words yard rest (long ∙ c.four)) ∙ ap (λ (k : Reply (Unit {0})). here >> k) (borders_alone
        rest (drop (get_or yard 0 0) (drop lat lats)) (drop (get_or yard 1 0) (drop lon lons)) (drop (5 * get_or yard 2 0) []) [] (drop (get_or yard 3 0) []) [])

    pub check_refused : (r : Reply (Unit {0})) → r ≡ here → (why : Refusal) → r ≡ refused why → refused why ≡ good_from yards lats lons
    check_refused r is why e = let no : here ≡ refused why = sym is ∙ e in sym (step ∙ ap (λ (k : Reply (Unit {0})). k >> later) no) ∙ c.same

    pub check_goes : (r : Reply (Unit {0})) → r ≡ here → r ≡ given tt → (lat' lon' : ℕ) → lat' ≡ next_part (length lats) lat (get_or yard 0 0)
        → lon' ≡ next_part (length lons) lon (get_or yard 1 0) → (size' : ℕ) → size' ≡ size → Checking yards lats lons rest size' lat' lon'
    check_goes r is e lat' lon' tall' wide' size' kept = let good : here ≡ given tt = sym is ∙ e in
        let onward : later ≡ good_from yards lats lons = sym (step ∙ ap (λ (k : Reply (Unit {0})). k >> later) good) ∙ c.same in
        let ys : drop lat' lats ≡ drop (get_or yard 0 0) (drop lat lats) = next_is lats lat (get_or yard 0 0) lat' tall' in
        let xs : drop lon' lons ≡ drop (get_or yard 1 0) (drop lon lons) = next_is lons lon (get_or yard 1 0) lon' wide' in record {
          four = kept ∙ c.four;
          tall = begins_inside (length lats) lat (get_or yard 0 0) c.tall lat' tall';
          wide = begins_inside (length lons) lon (get_or yard 1 0) c.wide lon' wide';
          same = ap (λ (l : List ℤ). good_from rest l (drop lon' lons)) ys
              ∙ (ap (λ (l : List ℤ). good_from rest (drop (get_or yard 0 0) (drop lat lats)) l) xs ∙ onward);
        }

  pub check_ends : length left < size → given tt ≡ good_from yards lats lons
  check_ends few = sym (none_left left (drop lat lats) (drop lon lons) (omega (arith, few, c.four))) ∙ c.same
