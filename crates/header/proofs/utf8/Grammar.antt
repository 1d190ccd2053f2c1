-- `is_utf8` decides the grammar of RFC 3629. Assumes nothing.
use Rattle.numbers.proofs.Prelude.{ℕ, zero, suc, ◌≤◌, ◌<◌, leb-true, ltb-true, lt-leb, ltb, leb, length, Bool, true, false, ◌&&◌, List, [], ◌∷◌, ◌++◌, ◌≡◌, refl, ap, ◌∙◌, arith}
use Rattle.numbers.{proofs.Tests.{both, differ}, specs.Answer.{if◌then◌else◌}}
use Rattle.header.specs.Utf8.{Range, ◌∈◌, characters, Fits, none, next, Among, here, later, Octets, ended, char, Pending, due, wrong, started_by, begun_by, followed, goes_on, is_utf8}
use Rattle.header.proofs.utf8.Octets.{stays_wrong}
use mathlib.Core.Bool.{and-false}

-- ---- the row that begins with a byte
above : ℕ → List (List Range) → Bool
above high [] = true
above high ([] ∷ rows) = above high rows
above high ((first ∷ rest) ∷ rows) = ltb high first.low && above high rows

sorted : List (List Range) → Bool
sorted [] = true
sorted ([] ∷ rows) = sorted rows
sorted ((first ∷ rest) ∷ rows) = above first.high rows && sorted rows

sorted_characters : sorted characters ≡ true
unfolding sorted above characters
sorted_characters = refl

past : (high : ℕ) (first : Range) (rest : List Range) (rows : List (List Range)) → above high rows ≡ true → Among (first ∷ rest) rows → high < first.low
unfolding above
past high first rest _ e (here {rows = rows}) = ltb-true _ _ (both (ltb high first.low) (above high rows) e).0
past high first rest _ e (later {other = []} {rows = rows} at) = past high first rest rows e at
past high first rest _ e (later {other = f ∷ fs} {rows = rows} at) = past high first rest rows (both (ltb high f.low) (above high rows) e).1 at

row_of : (b : ℕ) (first : Range) (rest : List Range) (rows : List (List Range)) → sorted rows ≡ true → Among (first ∷ rest) rows → (b ∈ first) ≡ true → started_by b rows ≡ due rest
unfolding started_by sorted
row_of b first rest _ s here e = rw e refl
row_of b first rest _ s (later {other = []} {rows = rows} at) e = row_of b first rest rows s at e
row_of b first rest _ s (later {other = f ∷ fs} {rows = rows} at) e =
    let h = past f.high first rest rows (both (above f.high rows) (sorted rows) s).0 at in
    let low : first.low ≤ b = leb-true _ _ (both (leb first.low b) (leb b first.high) e).0 in let beyond : f.high < b = omega arith in
    simp (lt-leb b f.high beyond, and-false) (row_of b first rest rows (both (above f.high rows) (sorted rows) s).1 at e)

-- ---- from the grammar to the test
through : {ranges : List Range} {c : List ℕ} (rest : List ℕ) → Fits ranges c → goes_on (c ++ rest) (due ranges) ≡ goes_on rest (due [])
unfolding goes_on followed
through rest none = refl
through rest (next {range = range} {ranges = ranges} {bs = bs} e fits) = ap (λ (t : Bool). goes_on (bs ++ rest) (if t then due ranges else wrong)) e ∙ through rest fits

complete : {bytes : List ℕ} → Octets bytes → goes_on bytes (due []) ≡ true
unfolding goes_on followed begun_by
complete ended = refl
complete (char at none more) = complete more
complete (char {rest = rest} at (next {range = range} {ranges = ranges} {b = b} {bs = bs} e fits) more) =
    ap (goes_on (bs ++ rest)) (row_of b range ranges characters sorted_characters at e) ∙ through rest fits ∙ complete more

-- ---- and back
record Split (ranges : List Range) (bytes : List ℕ) : Type 0 where
  c : List ℕ
  rest : List ℕ
  is : bytes ≡ c ++ rest
  fits : Fits ranges c
  onward : goes_on rest (due []) ≡ true
  shorter : length rest ≤ length bytes

split : (bytes : List ℕ) (ranges : List Range) → goes_on bytes (due ranges) ≡ true → Split ranges bytes
unfolding goes_on followed
split [] [] e = record { c = []; rest = []; is = refl; fits = none; onward = e; shorter = omega arith }
split [] (range ∷ ranges) e = differ e
split (b ∷ bytes) [] e = record { c = []; rest = b ∷ bytes; is = refl; fits = none; onward = e; shorter = omega arith }
split (b ∷ bytes) (range ∷ ranges) e = by_range (split bytes ranges) (b ∈ range) refl e where
  by_range : (goes_on bytes (due ranges) ≡ true → Split ranges bytes) → (test : Bool) → (b ∈ range) ≡ test → goes_on bytes (if test then due ranges else wrong) ≡ true →
      Split (range ∷ ranges) (b ∷ bytes)
  by_range shorter true is e = let s = shorter e in
      record { c = b ∷ s.c; rest = s.rest; is = ap (λ (bs : List ℕ). b ∷ bs) s.is; fits = next is s.fits; onward = s.onward; shorter = omega (arith, s.shorter) }
  by_range shorter false is e = differ (stays_wrong bytes ∙ e)

record Row (b : ℕ) (rest : List Range) (rows : List (List Range)) : Type 0 where
  first : Range
  at : Among (first ∷ rest) rows
  is : (b ∈ first) ≡ true

row : (b : ℕ) (rest : List Range) (rows : List (List Range)) → started_by b rows ≡ due rest → Row b rest rows
unfolding started_by
row b rest [] e = let z : ◌≡◌ {A = ℕ} 0 1 = cc in absurd (omega arith)
row b rest ([] ∷ rows) e = let r = row b rest rows e in record { first = r.first; at = later r.at; is = r.is }
row b rest ((f ∷ fs) ∷ rows) e = by_range (row b rest rows) (b ∈ f) refl e where
  by_range : (started_by b rows ≡ due rest → Row b rest rows) → (test : Bool) → (b ∈ f) ≡ test → (if test then due fs else started_by b rows) ≡ due rest → Row b rest ((f ∷ fs) ∷ rows)
  by_range others true is e = let same : fs ≡ rest = cc in record { first = f; at = rw same here; is = is }
  by_range others false is e = let r = others e in record { first = r.first; at = later r.at; is = r.is }

-- of all lists that are not longer
abbrev Sound : ℕ → Type 0
Sound n = (bytes : List ℕ) → length bytes ≤ n → goes_on bytes (due []) ≡ true → Octets bytes

longer : (n : ℕ) → Sound n → Sound (suc n)
unfolding goes_on followed begun_by
longer n shorter [] h e = ended
longer n shorter (b ∷ bytes) h e = by_row (started_by b characters) refl e where
  by_row : (pending : Pending) → started_by b characters ≡ pending → goes_on bytes pending ≡ true → Octets (b ∷ bytes)
  by_row (due rest) is e = let r = row b rest characters is in let s = split bytes rest e in
      rw s.is (char r.at (next r.is s.fits) (shorter s.rest (omega (arith, s.shorter)) s.onward))
  by_row wrong is e = differ (stays_wrong bytes ∙ e)

empty : Sound zero
empty [] h e = ended
empty (b ∷ bytes) h e = absurd (omega arith)

sound : (n : ℕ) → Sound n
sound zero = empty
sound (suc n) = longer n (sound n)

pub grammar : (bytes : List ℕ) → (is_utf8 bytes ≡ true → Octets bytes) × (Octets bytes → is_utf8 bytes ≡ true)
unfolding is_utf8
grammar bytes = (sound (length bytes) bytes (omega arith), complete)
