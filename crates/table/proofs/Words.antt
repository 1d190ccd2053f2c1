-- Hits and their words. Assumes nothing.
use Rattle.numbers.proofs.Prelude.{ℕ, zero, suc, ◌+◌, ◌-◌, ◌*◌, ◌/◌, ◌≤◌, ◌<◌, length, take, get_or, set, length-append, length-replicate, length-take-le, get_or-take, List, [], ◌∷◌, ◌++◌, ◌≡◌, refl}
use Rattle.numbers.{proofs.Prelude.{sym, ap, ◌∙◌, arith}, specs.Lists.{zeros, padded}}
use Rattle.table.specs.{Hits.{width, words_of, words, slots, Real, no_hit, hit_at, put_hit}, declared.hits.Hit.{Hit}}

pub words_length : (hits : List Hit) → length (words hits) ≡ width * length hits
unfolding words
words_length [] = refl
words_length (hit ∷ hits) = omega (arith, words_length hits)

pub words_append : (xs ys : List Hit) → words (xs ++ ys) ≡ words xs ++ words ys
unfolding words
words_append [] ys = refl
words_append (x ∷ xs) ys = ap (λ (ws : List ℕ). words_of x ++ ws) (words_append xs ys)

pub slots_words : (hits : List Hit) → slots (words hits) ≡ hits
unfolding words slots
slots_words [] = refl
slots_words (hit ∷ hits) = ap (λ (hs : List Hit). hit ∷ hs) (slots_words hits)

-- four words further
module _ (a b c d : ℕ) (ws : List ℕ) (i : ℕ) where
  pub put_further : (hit : Hit) → put_hit (a ∷ b ∷ c ∷ d ∷ ws) (suc i) hit ≡ a ∷ b ∷ c ∷ d ∷ put_hit ws i hit
  put_further hit = let e : width * suc i ≡ suc (suc (suc (suc (width * i)))) = omega arith in
      let f : width * suc i + 1 ≡ suc (suc (suc (suc (width * i + 1)))) = omega arith in
      let g : width * suc i + 2 ≡ suc (suc (suc (suc (width * i + 2)))) = omega arith in
      let h : width * suc i + 3 ≡ suc (suc (suc (suc (width * i + 3)))) = omega arith in rw (h, g, f, e)

  pub at_further : hit_at (a ∷ b ∷ c ∷ d ∷ ws) (suc i) ≡ hit_at ws i
  at_further = let e : width * suc i ≡ suc (suc (suc (suc (width * i)))) = omega arith in
      let f : width * suc i + 1 ≡ suc (suc (suc (suc (width * i + 1)))) = omega arith in
      let g : width * suc i + 2 ≡ suc (suc (suc (suc (width * i + 2)))) = omega arith in
      let h : width * suc i + 3 ≡ suc (suc (suc (suc (width * i + 3)))) = omega arith in rw (h, g, f, e)

-- a hit is put where the next one goes
pub put_next : (hits : List Hit) (more : List ℕ) (hit : Hit) → put_hit (words hits ++ 0 ∷ 0 ∷ 0 ∷ 0 ∷ more) (length hits) hit ≡ words (hits ++ hit ∷ []) ++ more
unfolding words
put_next [] more hit = refl
put_next (x ∷ xs) more hit = put_further _ _ _ _ _ (length xs) hit ∙ ap (λ (ws : List ℕ). words_of x ++ ws) (put_next xs more hit)

-- a hit of a list, and one put in its place
pub word_at : (hits : List Hit) (more : List ℕ) (i : ℕ) → i < length hits → hit_at (words hits ++ more) i ≡ get_or hits i no_hit
unfolding words
word_at [] more i h = absurd (omega arith)
word_at (x ∷ xs) more zero h = refl
word_at (x ∷ xs) more (suc i) h = at_further x.polygon x.metadata x.kind x.place (words xs ++ more) i ∙ word_at xs more i (omega arith)

pub word_put : (hits : List Hit) (more : List ℕ) (i : ℕ) (hit : Hit) → i < length hits → put_hit (words hits ++ more) i hit ≡ words (set hits i hit) ++ more
unfolding words
word_put [] more i hit h = absurd (omega arith)
word_put (x ∷ xs) more zero hit h = refl
word_put (x ∷ xs) more (suc i) hit h = put_further _ _ _ _ _ i hit ∙ ap (λ (ws : List ℕ). words_of x ++ ws) (word_put xs more i hit (omega arith))

-- the next hit, in words that are zero after the hits
pub put_padded : (n : ℕ) (hits : List Hit) (hit : Hit) → length hits < n / width → put_hit (padded n (words hits)) (length hits) hit ≡ padded n (words (hits ++ hit ∷ []))
put_padded n hits hit h = let l = words_length hits in let k = words_length (hits ++ hit ∷ []) in let m = length-append hits (hit ∷ []) in
    let e : n - length (words hits) ≡ suc (suc (suc (suc (n - length (words (hits ++ hit ∷ [])))))) = omega arith in
    rw e (put_next hits (zeros (n - length (words (hits ++ hit ∷ [])))) hit)

pub real_append : (hits : List Hit) (hit : Hit) → Real hits → (hit.kind ≡ 0 → ⊥) → Real (hits ++ hit ∷ [])
unfolding Real
real_append [] hit r k = (k, tt)
real_append (x ∷ xs) hit r k = (r.0, real_append xs hit r.1 k)

-- ---- any list of words
pub slots_size : (ws : List ℕ) → (width * length (slots ws) ≤ length ws) × (length ws < width * length (slots ws) + width)
unfolding slots
slots_size [] = (omega arith, omega arith)
slots_size (a ∷ []) = (omega arith, omega arith)
slots_size (a ∷ b ∷ []) = (omega arith, omega arith)
slots_size (a ∷ b ∷ c ∷ []) = (omega arith, omega arith)
slots_size (a ∷ b ∷ c ∷ d ∷ ws) = let h = slots_size ws in (omega arith, omega arith)

pub slot_at : (ws : List ℕ) (i : ℕ) → i < length (slots ws) → hit_at ws i ≡ get_or (slots ws) i no_hit
unfolding slots
slot_at [] i h = absurd (omega arith)
slot_at (a ∷ []) i h = absurd (omega arith)
slot_at (a ∷ b ∷ []) i h = absurd (omega arith)
slot_at (a ∷ b ∷ c ∷ []) i h = absurd (omega arith)
slot_at (a ∷ b ∷ c ∷ d ∷ ws) zero h = refl
slot_at (a ∷ b ∷ c ∷ d ∷ ws) (suc i) h = at_further a b c d ws i ∙ slot_at ws i (omega arith)

-- the first slots of words that begin with hits
pub first_slots : (hits : List Hit) (more : List ℕ) → take (length hits) (slots (words hits ++ more)) ≡ hits
unfolding words slots
first_slots [] more = refl
first_slots (hit ∷ hits) more = ap (λ (l : List Hit). hit ∷ l) (first_slots hits more)

-- the matches are the first slots
module _ (hits : List ℕ) (count : ℕ) (room : count ≤ length hits / width) where
  pub count_slots : length (take count (slots hits)) ≡ count
  count_slots = length-take-le count (slots hits) (omega (arith, (slots_size hits).0, (slots_size hits).1))

  pub slot_is : (got : Hit) (i : ℕ) → i < count → got ≡ hit_at hits i → got ≡ get_or (take count (slots hits)) i no_hit
  slot_is got i h e = e ∙ slot_at hits i (omega (arith, (slots_size hits).1)) ∙ sym (get_or-take count (slots hits) i no_hit h)

-- hits in words that are zero beyond them
module _ (n : ℕ) (hits : List Hit) {ws : List ℕ} (kept : ws ≡ padded n (words hits)) where
  pub padded_slots : take (length hits) (slots ws) ≡ hits
  padded_slots = ap (λ (l : List ℕ). take (length hits) (slots l)) kept ∙ first_slots hits (zeros (n - length (words hits)))

  pub padded_room : length ws ≡ n → length hits ≤ length ws / width
  padded_room same = let zero = n - length (words hits) in
      omega (arith, same, ap length kept ∙ length-append (words hits) (zeros zero), length-replicate {A = ℕ} zero 0, words_length hits)
