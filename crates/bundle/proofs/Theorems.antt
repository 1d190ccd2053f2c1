-- What the bundle promises, by name. Assumes nothing.
use Rattle.numbers.proofs.Prelude.{ℕ, zero, suc, ◌+◌, ◌-◌, ◌*◌, ◌/◌, ◌≤◌, ◌<◌, leb-true, eqb-true, eqb, leb, length, drop, get_or, get_or-drop, Bool, true, false, List, [], ◌∷◌, map, ◌≡◌, refl, sym, ap}
use Rattle.numbers.proofs.Prelude.{subst, ◌∙◌, arith}
use Rattle.numbers.proofs.{Refusals.{Listed, Numbered, as_found, as_failed}, Replies.{NumberedReply, answers, then_reply, and_then, demands, or_else_lem, number_of_lem, given_from, demanded}, Tests.{both}}
use Rattle.numbers.specs.{Answer.{Answer, found, failed, if◌then◌else◌}, Reply.{given, refused, refusal, plain, ◌or_else◌}, declared.refusal.Refusal.{Refusal}}
use lib.Bits.{xor_zero_r}
use Rattle.bundle.proofs.Entries.{head_good}
use Rattle.bundle.specs.{Bundle.{xored, word_at, agrees, is_bundle, is_index, is_data, is_end, head_of, is_entry, seek_of, find_of}, First.{First, FoundAt}, declared.find.File.{File}}
use Rattle.std.specs.Prelude.{Result}
use Rattle.numbers.specs.Answer as A

-- a mask of 0 leaves every byte as it is
pub xored_zero : (xs : List ℕ) → map (xored 0) xs ≡ xs
xored_zero [] = refl
xored_zero (x ∷ xs) = λ i. xor_zero_r x i ∷ xored_zero xs i

-- ---- same_found
-- two replies that the promise of `find` permits are equal
pub same_found : (bundle name : List ℕ) (r s : Result File Refusal) → r ≡ find_of bundle name → s ≡ find_of bundle name → r ≡ s
same_found bundle name r s p q = p ∙ sym q

-- ---- found_refusals
abbrev Two : ℕ → Type 0
Two = Listed (88 ∷ 89 ∷ [])

head_told : (bundle : List ℕ) → NumberedReply Two (head_of bundle)
unfolding head_of
head_told bundle =
    and_then (demands (is_bundle bundle) (refusal 89 0 0) refl) (and_then (demands (eqb (get_or bundle 11 0) 0) (refusal 89 0 11) refl)
    (and_then (demands (is_index (word_at bundle 12)) (refusal 89 0 12) refl) (and_then (demands (is_data (word_at bundle 12) (word_at bundle 16)) (refusal 89 0 16) refl)
    (and_then (demands (is_end (word_at bundle 16) (word_at bundle 20) (length bundle)) (refusal 89 0 20) refl) answers))))

seek_told : (n : ℕ) (bundle name : List ℕ) (place : ℕ) → Numbered Two (seek_of n bundle name place)
unfolding seek_of
seek_told zero bundle name place = as_failed
seek_told (suc n) bundle name place = go (is_entry bundle name place) (seek_told n bundle name (place + 52)) where
  go : (t : Bool) → Numbered Two (seek_of n bundle name (place + 52)) → Numbered Two (if t then found place else seek_of n bundle name (place + 52))
  go true h = as_found
  go false h = h

find_told : (bundle name : List ℕ) → NumberedReply Two (find_of bundle name)
unfolding find_of
find_told bundle name =
    then_reply (head_told bundle) (λ head. then_reply (or_else_lem (plain 88) (seek_told _ bundle name head.index) refl) (λ place. and_then (demands (leb (head.start + word_at bundle
    (place + 40) + word_at bundle (place + 44)) head.end) (refusal 89 0 place) refl) answers))

-- a search is refused with 88 and 89 alone
pub found_refusals : (bundle name : List ℕ) {why : Refusal} → refused why ≡ find_of bundle name → Two why.number
found_refusals bundle name e = number_of_lem (find_told bundle name) (sym e)

-- ---- found_first
seek_first : (n : ℕ) (bundle name : List ℕ) (at : ℕ) {place : ℕ} → found place ≡ seek_of n bundle name at → First bundle name at place
unfolding seek_of
seek_first zero bundle name at e = absurd (let z : ◌≡◌ {A = ℕ} 0 1 = cc in omega arith)
seek_first (suc n) bundle name at e = go (is_entry bundle name at) refl (λ p q. seek_first n bundle name (at + 52) {place = p} q) e where
  each : {place : ℕ} → is_entry bundle name at ≡ false → (h : First bundle name (at + 52) place) (k : ℕ) → k < suc h.before → is_entry bundle name (at + 52 * k) ≡ false
  each f h zero l = ap (is_entry bundle name) (let z : at + 52 * 0 ≡ at = omega arith in z) ∙ f
  each f h (suc k) l = ap (is_entry bundle name) (let z : at + 52 * suc k ≡ at + 52 + 52 * k = omega arith in z) ∙ h.none k (omega arith)

  later : {place : ℕ} → is_entry bundle name at ≡ false → First bundle name (at + 52) place → First bundle name at place
  later f h = record { before = suc h.before; there = omega (arith, h.there); has = h.has; none = λ k l. each f h k l }

  go : (t : Bool) {place : ℕ} → is_entry bundle name at ≡ t → ((p : ℕ) → found p ≡ seek_of n bundle name (at + 52) → First bundle name (at + 52) p)
      → found place ≡ (if t then found at else seek_of n bundle name (at + 52)) → First bundle name at place
  go true {place = place} f k e = let s : place ≡ at = cc in subst (First bundle name at) (sym s) (record { before = 0; there = omega arith; has = f; none = λ j l. absurd (omega arith) })
  go false {place = place} f k e = later f (k place e)

agree_each : (n : ℕ) (xs ys : List ℕ) → agrees n xs ys ≡ true → (k : ℕ) → k < n → get_or xs k 0 ≡ get_or ys k 0
unfolding agrees
agree_each zero xs ys e k l = absurd (omega arith)
agree_each (suc n) xs ys e zero l = eqb-true _ _ (both (eqb (get_or xs 0 0) (get_or ys 0 0)) (agrees n (drop 1 xs) (drop 1 ys)) e).0
agree_each (suc n) xs ys e (suc k) l =
    let h = agree_each n (drop 1 xs) (drop 1 ys) (both (eqb (get_or xs 0 0) (get_or ys 0 0)) (agrees n (drop 1 xs) (drop 1 ys)) e).1 k (omega arith) in
    let z : 1 + k ≡ suc k = omega arith in sym (get_or-drop 1 xs k 0 ∙ ap (λ (j : ℕ). get_or xs j 0) z) ∙ h ∙ get_or-drop 1 ys k 0 ∙ ap (λ (j : ℕ). get_or ys j 0) z

-- an entry that has the name: each of its 40 bytes is the name's, and 0 behind the name
pub entry_bytes : (bundle name : List ℕ) (place : ℕ) → is_entry bundle name place ≡ true → (length name ≤ 40) × ((k : ℕ) → k < 40 → get_or bundle (place + k) 0 ≡ get_or name k 0)
unfolding is_entry
entry_bytes bundle name place e = let h = both (leb (length name) 40) (agrees 40 (drop place bundle) name) e in
    (leb-true _ _ h.0, λ k l. sym (get_or-drop place bundle k 0) ∙ agree_each 40 (drop place bundle) name h.1 k l)

seek_given : (answer : Answer ℕ) {place : ℕ} → given place ≡ (answer or_else plain 88) → found place ≡ answer
seek_given (found p) e = cc
seek_given failed e = absurd (let z : ◌≡◌ {A = ℕ} 0 1 = cc in omega arith)
seek_given (A.refused n) e = absurd (let z : ◌≡◌ {A = ℕ} 0 1 = cc in omega arith)

pub found_first : (bundle name : List ℕ) {file : File} → given file ≡ find_of bundle name → FoundAt bundle name file
unfolding find_of
found_first bundle name {file = file} e = let h = given_from (head_of bundle) _ e in
    let p = given_from (seek_of ((h.it.start - h.it.index) / 52) bundle name h.it.index or_else plain 88) _ h.onto in
    let d = demanded (leb (h.it.start + word_at bundle (p.it + 40) + word_at bundle (p.it + 44)) h.it.end) (refusal 89 0 p.it) p.onto in
    let f = d.1 in let same : file ≡ record { start = h.it.start + word_at bundle (p.it + 40); length = word_at bundle (p.it + 44) } = cc in
    let s = ap (λ (x : File). x.start) same in let l = ap (λ (x : File). x.length) same in
    let u = leb-true (h.it.start + word_at bundle (p.it + 40) + word_at bundle (p.it + 44)) h.it.end d.0 in
    let g = head_good bundle h.is in record {
      head = h.it;
      head_is = h.is;
      place = p.it;
      first = seek_first _ bundle name h.it.index (seek_given _ p.is);
      starts = s;
      lasts = l;
      in_data = omega (arith, s, l, u);
      inside = omega (arith, s, l, u, g.inside);
    }

-- what is found lies inside the bundle
pub found_inside : (bundle name : List ℕ) {file : File} → find_of bundle name ≡ given file → file.start + file.length ≤ length bundle
found_inside bundle name e = (found_first bundle name (sym e)).inside
