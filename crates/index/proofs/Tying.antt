-- Words held against a file. Assumes nothing.
use Rattle.numbers.proofs.Prelude.{ℕ, suc, ◌+◌, ◌-◌, ◌/◌, ◌≤◌, ◌<◌, eq-eqb, ne_eqb, le-leb, leb-true, lt-leb, eqb, leb, length, Bool, true, false, ◌&&◌, List, ◌≡◌, sym, ap, ◌∙◌, arith}
use Rattle.numbers.{proofs.{Replies.{carried, onward, met}, Tests.{both}}, specs.{Answer.{if◌then◌else◌}, Reply.{given, refused, plain, demand}, declared.refusal.Refusal.{Refusal}}}
use Rattle.table.specs.Find.{is_precision}
use Rattle.header.specs.{Header.{head_of}, declared.header.Head.{Head}}
use Rattle.index.specs.{Index.{four_at, words_for, records_at}, Tied.{word_at, begin_of, is_headed, keeps_from, is_tied, tied_with, tied_of}}

-- ---- the head
module _ (words : List ℕ) (size n : ℕ) where
  pub too_short : length words < records_at → false ≡ is_headed words size n
  too_short h = rw (lt-leb records_at (length words) h)

  module _ (a : records_at ≤ length words) where
    pub other_length : (word_at words 0 ≡ n → ⊥) → false ≡ is_headed words size n
    other_length h = rw (le-leb records_at (length words) a, ne_eqb (word_at words 0) n h)

    module _ (b : word_at words 0 ≡ n) where
      pub other_size : (word_at words 1 ≡ size → ⊥) → false ≡ is_headed words size n
      other_size h = rw (le-leb records_at (length words) a, eq-eqb (word_at words 0) n b, ne_eqb (word_at words 1) size h)

      module _ (c : word_at words 1 ≡ size) where
        module _ (d : word_at words 3 ≡ begin_of words size) where
          pub end_decides : begin_of words size ≤ length words → leb (word_at words 2051) (length words) ≡ is_headed words size n
          end_decides h = rw (
            le-leb records_at (length words) a,
            eq-eqb (word_at words 0) n b,
            eq-eqb (word_at words 1) size c,
            eq-eqb (word_at words 3) (begin_of words size) d,
            le-leb (begin_of words size) (length words) h,
          )

first_and_fifth : (a b c d e f : Bool) → (a && (b && (c && (d && (e && f))))) ≡ true → (a ≡ true) × (e ≡ true)
first_and_fifth a b c d e f h = let one = both a (b && (c && (d && (e && f)))) h in
    (one.0, (both e f (both d (e && f) (both c (d && (e && f)) (both b (c && (d && (e && f))) one.1).1).1).1).0)

-- what a head that goes with a file says of the room
pub begin_inside : (words : List ℕ) (size n : ℕ) → is_headed words size n ≡ true → (records_at ≤ length words) × (begin_of words size ≤ length words)
begin_inside words size n h =
    let parts = first_and_fifth (leb records_at (length words)) (eqb (word_at words 0) n) (eqb (word_at words 1) size) (eqb (word_at words 3) (begin_of words size))
    (leb (begin_of words size) (length words)) (leb (word_at words 2051) (length words)) h in (leb-true _ _ parts.0, leb-true _ _ parts.1)

-- the lists end inside
pub end_inside : (words : List ℕ) (size n : ℕ) → is_headed words size n ≡ true → word_at words 2051 ≤ length words
end_inside words size n h = let one = both (leb records_at (length words)) _ h in
    let four = both (eqb (word_at words 3) (begin_of words size)) _ (both (eqb (word_at words 1) size) _ (both (eqb (word_at words 0) n) _ one.1).1).1 in
    leb-true (word_at words 2051) (length words) (both (leb (begin_of words size) (length words)) (leb (word_at words 2051) (length words)) four.1).1

-- ---- the loop over the kept bytes
module _ (words : List ℕ) (from : ℕ) (bytes : List ℕ) (size : ℕ) where
  abbrev whole : Bool
  whole = keeps_from words from bytes (words_for size) 0

  pub record Comparing (at place : ℕ) : Type 0 where
    pub within : place ≤ size + 3
    pub places : at + (size + 3 - place) / 4 ≡ from + words_for size
    pub same : whole ≡ keeps_from words at bytes ((size + 3 - place) / 4) place

  pub comparing_starts : Comparing from 0
  comparing_starts = let z : size + 3 - 0 ≡ size + 3 = omega arith in record { within = omega arith; places = omega arith; same = rw z }

  module _ {at place : ℕ} (g : Comparing at place) where
    pub comparing_ends : size ≤ place → true ≡ whole
    unfolding keeps_from
    comparing_ends h = let z : (size + 3 - place) / 4 ≡ 0 = omega arith in sym (g.same ∙ ap (λ (m : ℕ). keeps_from words at bytes m place) z)

    module _ (more : place < size) where
      step : (size + 3 - place) / 4 ≡ suc ((size + 3 - (place + 4)) / 4)
      step = omega arith

      turned : whole ≡ (if eqb (word_at words at) (four_at bytes place) then keeps_from words (at + 1) bytes ((size + 3 - (place + 4)) / 4) (place + 4) else false)
      unfolding keeps_from
      turned = g.same ∙ ap (λ (m : ℕ). keeps_from words at bytes m place) step

      pub comparing_next : eqb (word_at words at) (four_at bytes place) ≡ true → Comparing (at + 1) (place + 4)
      comparing_next e = record { within = omega arith; places = omega (arith, g.places, step); same = turned ∙ rw e }

      pub comparing_differs : eqb (word_at words at) (four_at bytes place) ≡ false → false ≡ whole
      comparing_differs e = sym (turned ∙ rw e)

-- ---- the reply
module _ (file : List ℕ) (head : Head) (words : List ℕ) where
  pub with_so : is_precision head.preamble.precision ≡ true → is_tied file head words ≡ true → given tt ≡ tied_with file head words
  with_so p t = rw (p, t)

module _ (file words : List ℕ) where
  pub tied_opened : {head : Head} → given head ≡ head_of file → tied_with file head words ≡ tied_of file words
  unfolding tied_of
  tied_opened e = onward e (λ (head : Head). tied_with file head words)

  pub tied_unopened : {why : Refusal} → refused why ≡ head_of file → refused why ≡ tied_of file words
  unfolding tied_of
  tied_unopened e = carried e _

  module _ {head : Head} (e : given head ≡ head_of file) where
    module _ (p : is_precision head.preamble.precision ≡ true) where
      after : demand (is_tied file head words) (plain 36) ≡ tied_of file words
      unfolding tied_of
      after = met p (plain 16) _ ∙ onward e _

      pub tied_so : is_tied file head words ≡ true → given tt ≡ tied_of file words
      tied_so t = rw t at after

      pub tied_not : is_tied file head words ≡ false → refused (plain 36) ≡ tied_of file words
      tied_not t = rw t at after
