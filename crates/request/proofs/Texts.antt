-- The bytes of a text, one after the other. Assumes nothing.
use Rattle.numbers.proofs.Prelude.{ℕ, zero, suc, ◌+◌, ◌-◌, ◌≤◌, ◌<◌, ltb-true, ltb-false, eqb, ltb, cond, not, length, take, drop, get_or, length-drop, drop_of_length-le, drop-cons, drop-drop, take_all}
use Rattle.numbers.proofs.Prelude.{Bool, true, false, ◌&&◌, ◌||◌, List, [], ◌∷◌, ◌≡◌, refl, sym, ap, ◌∙◌, add-one, arith}
use Rattle.numbers.{specs.Answer.{if◌then◌else◌}}
use Rattle.std.{proofs.lemmas.List.Sums.{prefix_len-le-length}, specs.{Prelude.{Some, None, position}, List.{position_or_len, list_all, zip}}}
use Rattle.request.specs.{Text.{formed, until, behind, unblanked, to_comma}, Told.{likened}}

-- the byte at a place, and what is left behind it
pub here : (text : List ℕ) (at : ℕ) → at < length text → drop at text ≡ get_or text at 0 ∷ drop (at + 1) text
here text at h = rw (add-one, drop-cons text at 0 h)

pub ended : (text : List ℕ) (at : ℕ) → length text ≤ at → drop at text ≡ []
ended text at h = drop_of_length-le text h

-- ---- forms
pub form_length : (form text : List ℕ) → (length text ≡ length form → ⊥) → false ≡ formed form text
unfolding formed
form_length [] [] h = absurd (h refl)
form_length [] (b ∷ bs) h = refl
form_length (m ∷ ms) [] h = refl
form_length (m ∷ ms) (b ∷ bs) h = go (likened m b) (form_length ms bs (λ e. h (ap suc e))) where
  go : (t : Bool) → false ≡ formed ms bs → false ≡ (t && formed ms bs)
  go true e = e
  go false e = refl

pub form_lengths : (form text : List ℕ) → formed form text ≡ true → length text ≡ length form
unfolding formed
form_lengths [] [] h = refl
form_lengths [] (b ∷ bs) h = let z : ◌≡◌ {A = Bool} false true = h in absurd (let n : ◌≡◌ {A = ℕ} 0 1 = cc in omega arith)
form_lengths (m ∷ ms) [] h = let z : ◌≡◌ {A = Bool} false true = h in absurd (let n : ◌≡◌ {A = ℕ} 0 1 = cc in omega arith)
form_lengths (m ∷ ms) (b ∷ bs) h = ap suc (form_lengths ms bs (go (likened m b) h)) where
  go : (t : Bool) → (t && formed ms bs) ≡ true → formed ms bs ≡ true
  go true e = e
  go false e = absurd (let n : ◌≡◌ {A = ℕ} 0 1 = cc in omega arith)

pub form_zip : (form text : List ℕ) → length text ≡ length form → list_all (λ pair. likened pair.0 pair.1) (zip form text) ≡ formed form text
unfolding formed
form_zip [] [] h = refl
form_zip [] (b ∷ bs) h = absurd (omega arith)
form_zip (m ∷ ms) [] h = absurd (omega arith)
form_zip (m ∷ ms) (b ∷ bs) h = ap (λ (t : Bool). likened m b && t) (form_zip ms bs (omega arith))

-- ---- what stands before a byte
module _ (a b : ℕ) where
  pub until_take : (text : List ℕ) → take (length (until a b text)) text ≡ until a b text
  unfolding until
  until_take [] = refl
  until_take (x ∷ xs) = go (eqb x a || eqb x b) (until_take xs) where
    go : (t : Bool) → take (length (until a b xs)) xs ≡ until a b xs → take (length (if t then [] else (x ∷ until a b xs))) (x ∷ xs) ≡ (if t then [] else (x ∷ until a b xs))
    go true h = refl
    go false h = ap (λ (ys : List ℕ). x ∷ ys) h

  -- how long it is, in std's words
  pub until_place : (text : List ℕ) → length (until a b text) ≡ position_or_len (λ byte. eqb byte a || eqb byte b) text
  unfolding until
  until_place [] = refl
  until_place (x ∷ xs) = go (eqb x a || eqb x b) (until_place xs) where
    go : (t : Bool) → length (until a b xs) ≡ position_or_len (λ byte. eqb byte a || eqb byte b) xs
        → length (if t then [] else (x ∷ until a b xs)) ≡ cond (not t) (1 + position_or_len (λ byte. eqb byte a || eqb byte b) xs) 0
    go true h = refl
    go false h = omega (arith, h)

-- ---- the first place that passes
module _ (p : ℕ → Bool) (text : List ℕ) where
  by_place : (t : Bool) {at : ℕ} → ltb (position_or_len p text) (length text) ≡ t → cond t (Some (position_or_len p text)) None ≡ Some at → (at ≡ position_or_len p text) × (at < length text)
  by_place true {at} f e = let same : at ≡ position_or_len p text = cc in (same, omega (arith, same, ltb-true (position_or_len p text) (length text) f))
  by_place false f e = let z : ◌≡◌ {A = ℕ} 0 1 = cc in absurd (omega arith)

  no_place : (t : Bool) → ltb (position_or_len p text) (length text) ≡ t → cond t (Some (position_or_len p text)) None ≡ None → position_or_len p text ≡ length text
  no_place true f e = let z : ◌≡◌ {A = ℕ} 0 1 = cc in absurd (omega arith)
  no_place false f e = omega (arith, ltb-false (position_or_len p text) (length text) f, prefix_len-le-length (λ x. not (p x)) text)

  pub first_place : {at : ℕ} → position p text ≡ Some at → (at ≡ position_or_len p text) × (at < length text)
  first_place e = by_place (ltb (position_or_len p text) (length text)) refl e

  pub none_passes : position p text ≡ None → position_or_len p text ≡ length text
  none_passes e = no_place (ltb (position_or_len p text) (length text)) refl e

-- a part that the code lends: from a place to the first of two bytes
pub part_is : (a b : ℕ) (text : List ℕ) (from to : ℕ) → to ≡ from + length (until a b (drop from text)) → take (to - from) (drop from text) ≡ until a b (drop from text)
part_is a b text from to e = ap (λ (n : ℕ). take n (drop from text)) (let d : to - from ≡ length (until a b (drop from text)) = omega arith in d) ∙ until_take a b (drop from text)

-- ---- fields
pub behind_none : (n : ℕ) → behind n [] ≡ []
unfolding behind until
behind_none zero = refl
behind_none (suc n) = behind_none n

module _ (body : List ℕ) (at comma : ℕ) (e : comma ≡ at + length (to_comma (drop at body))) where
  pub behind_on : (n : ℕ) → behind n (drop (comma + 1) body) ≡ behind (suc n) (drop at body)
  unfolding behind
  behind_on n = ap (behind n) (ap (λ (k : ℕ). drop k body) (let s : comma + 1 ≡ at + (length (to_comma (drop at body)) + 1) = omega arith in s)
      ∙ sym (drop-drop (length (to_comma (drop at body)) + 1) at body))

  pub behind_end : comma ≡ length body → (n : ℕ) → drop comma body ≡ behind (suc n) (drop at body)
  behind_end f n = ended body comma (omega arith) ∙ sym (ap (behind n) (ended body (comma + 1) (omega arith)) ∙ behind_none n) ∙ behind_on n

-- the place of what is left
pub place_is : (text left : List ℕ) (at : ℕ) → drop at text ≡ left → at ≤ length text → at ≡ length text - length left
place_is text left at e h = omega (arith, ap length e, length-drop at text)

-- ---- blanks
abbrev pub no_blank : ℕ → Bool
no_blank byte = not (eqb byte 32 || eqb byte 9)

pub blanks_end : (text : List ℕ) → drop (position_or_len no_blank text) text ≡ unblanked text
unfolding unblanked
blanks_end [] = refl
blanks_end (x ∷ xs) = go (eqb x 32 || eqb x 9) (blanks_end xs) where
  go : (t : Bool) → drop (position_or_len no_blank xs) xs ≡ unblanked xs → drop (cond (not (not t)) (1 + position_or_len no_blank xs) 0) (x ∷ xs) ≡ (if t then unblanked xs else (x ∷ xs))
  go true h = ap (λ (k : ℕ). drop k (x ∷ xs)) (let e : 1 + position_or_len no_blank xs ≡ suc (position_or_len no_blank xs) = omega arith in e) ∙ h
  go false h = refl

-- ---- a part up to the end
pub rest_is : (text : List ℕ) (from : ℕ) → take (length text - from) (drop from text) ≡ drop from text
rest_is text from = take_all (length text - from) (drop from text) (omega (arith, length-drop from text))
