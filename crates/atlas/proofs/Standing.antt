-- Words that stand one after the other. Assumes nothing.
use Rattle.numbers.proofs.Prelude.{ℕ, zero, suc, ◌+◌, ◌-◌, ◌<◌, length, Bool, true, false, List, [], ◌∷◌, ◌++◌, ◌≡◌, refl, sym, ap, ◌∙◌, arith}
use Rattle.border.specs.declared.reader.{Encoding.{Encoding}, Reader.{Reader}}
use Rattle.marks.specs.Marks.{Span, span_from, mark_of, marks_from, counted}
use Rattle.index.{proofs.Standing.{at_append, and_end}, specs.inner.Own.{is_word, is_at}}

-- by the answers on the parts
pub first_not : (words : List ℕ) (at : ℕ) (xs ys : List ℕ) → is_at words at xs ≡ false → false ≡ is_at words at (xs ++ ys)
first_not words at xs ys e = sym (at_append words at xs ys ∙ rw e)

pub first_so : (words : List ℕ) (at : ℕ) (xs ys : List ℕ) {b : Bool} → is_at words at xs ≡ true → b ≡ is_at words (at + length xs) ys → b ≡ is_at words at (xs ++ ys)
first_so words at xs ys {b} e g = g ∙ sym (at_append words at xs ys ∙ rw e)

pub word_at : (words : List ℕ) (at x : ℕ) → is_word words at x ≡ is_at words at (x ∷ [])
unfolding is_at
word_at words at x = and_end (is_word words at x)

-- a word that was asked for by another name
pub word_said : (words : List ℕ) (at : ℕ) {b : Bool} {x y : ℕ} → b ≡ is_word words at x → x ≡ y → b ≡ is_at words at (y ∷ [])
word_said words at {b} {x} {y} e g = e ∙ (λ i. is_word words at (g i)) ∙ word_at words at y

-- the marks of one stretch more
marks_more : (edges : ℕ) (file : List ℕ) (encoding : Encoding) (reader : Reader) {span : Span} → span ≡ span_from edges file encoding reader → (left : ℕ) → 0 < left
    → marks_from edges left file encoding reader ≡ mark_of reader span.box ++ marks_from edges (left - 1) file encoding span.last
unfolding marks_from
marks_more edges file encoding reader is zero h = absurd (omega (arith, h))
marks_more edges file encoding reader is (suc k) h = let e : suc k - 1 ≡ k = omega arith in
    rw e (λ i. mark_of reader (sym is i).box ++ marks_from edges k file encoding (sym is i).last)

module _ (edges : ℕ) (file : List ℕ) (encoding : Encoding) (words : List ℕ) (reader : Reader) {span : Span} (is : span ≡ span_from edges file encoding reader) (left at : ℕ) (more : 0 < left) where
  pub next_marks : marks_from edges left file encoding reader ≡ mark_of reader span.box ++ marks_from edges (left - 1) file encoding span.last
  next_marks = marks_more edges file encoding reader is left more

  pub mark_not : is_at words at (mark_of reader span.box) ≡ false → false ≡ is_at words at (marks_from edges left file encoding reader)
  mark_not e = first_not words at (mark_of reader span.box) (marks_from edges (left - 1) file encoding span.last) e ∙ ap (is_at words at) (sym next_marks)

  pub mark_so : is_at words at (mark_of reader span.box) ≡ true
      → is_at words (at + 11) (marks_from edges (left - 1) file encoding span.last) ≡ is_at words at (marks_from edges left file encoding reader)
  mark_so e = first_so words at (mark_of reader span.box) (marks_from edges (left - 1) file encoding span.last) e refl ∙ ap (is_at words at) (sym next_marks)

pub no_marks : (edges : ℕ) (file : List ℕ) (encoding : Encoding) (reader : Reader) (left : ℕ) → left ≡ 0 → marks_from edges left file encoding reader ≡ []
unfolding marks_from
no_marks edges file encoding reader zero e = refl
no_marks edges file encoding reader (suc k) e = absurd (omega (arith, e))

pub counted_none : (count : ℕ) (xs : List ℕ) → count ≡ 0 → counted count xs ≡ []
unfolding counted
counted_none zero xs e = refl
counted_none (suc k) xs e = absurd (omega (arith, e))

pub counted_some : (count : ℕ) (xs : List ℕ) → (count ≡ 0 → ⊥) → counted count xs ≡ (count ∷ []) ++ xs
unfolding counted
counted_some zero xs e = absurd (e refl)
counted_some (suc k) xs e = refl

-- how many stretches, then their marks and those of their groups
module _ (words : List ℕ) (place count : ℕ) (fine coarse : List ℕ) (some : count ≡ 0 → ⊥) where
  abbrev all : List ℕ
  all = counted count (fine ++ coarse)

  said : all ≡ (count ∷ []) ++ (fine ++ coarse)
  said = counted_some count (fine ++ coarse) some

  pub other_count : is_at words place (count ∷ []) ≡ false → false ≡ is_at words place all
  other_count e = first_not words place (count ∷ []) (fine ++ coarse) e ∙ ap (is_at words place) (sym said)

  module _ (here : is_at words place (count ∷ []) ≡ true) where
    behind : is_at words (place + 1) (fine ++ coarse) ≡ is_at words place all
    behind = first_so words place (count ∷ []) (fine ++ coarse) here refl ∙ ap (is_at words place) (sym said)

    pub other_fine : is_at words (place + 1) fine ≡ false → false ≡ is_at words place all
    other_fine e = first_not words (place + 1) fine coarse e ∙ behind

    pub same_fine : is_at words (place + 1) fine ≡ true → {at : ℕ} → at ≡ place + 1 + length fine → {b : Bool} → b ≡ is_at words at coarse → b ≡ is_at words place all
    same_fine e h g = first_so words (place + 1) fine coarse e (g ∙ ap (λ (k : ℕ). is_at words k coarse) h) ∙ behind
