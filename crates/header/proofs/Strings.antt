-- Strings: where a remote one stands, and how the bytes of one go out. Assumes nothing.
use Rattle.numbers.proofs.{Answers.{not_failed, All}, Laws.{Read}, Prelude.{ℕ, ◌+◌, ◌-◌, ◌%◌, ◌^◌, ◌≤◌, leb-true, ltb-true, eqb, ltb, leb, length, take, drop, length-drop}}
use Rattle.numbers.{proofs.{Prelude.{length-take-le, Bool, true, false, List, map, ◌≡◌, refl, sym, ap, ◌∙◌, arith}, Readings.{reading_read}}, specs.Answer.{Answer, found, failed, refused}}
use Rattle.numbers.specs.{Answer.{if◌then◌else◌, ◌>>=◌}, Reply.{given, refusal, ◌or_else◌}, Varint.{Numeral, reading_of}}
use native.Mathlib.Nat.{add-mod-mod}
use Rattle.header.specs.{Text.{within, remote_at, string_at, bytes_of, or_blamed, text_at}, Utf8.{unmasked, is_utf8}, declared.text.{Blame.{Blame}, Text.{Text}}}
use Rattle.numbers.specs.Reply as R
use Rattle.numbers.specs.{declared.refusal.Refusal.{Refusal}}

pub away : (metadata value : ℕ) → 256 ≤ value → (metadata + (value - 256) % 2 ^ 32) % 2 ^ 32 ≡ (metadata + value - 256) % 2 ^ 32
away metadata value h = let e : metadata + (value - 256) ≡ metadata + value - 256 = omega arith in
    add-mod-mod metadata (value - 256) (2 ^ 32) ∙ ap (λ (n : ℕ). n % 2 ^ 32) e

-- what was found was found from something
record From {A B : Type 0} (answer : Answer A) (next : A → Answer B) (b : B) : Type 0 where
  it : A
  onto : found b ≡ next it

found_from : {A B : Type 0} {b : B} (answer : Answer A) (next : A → Answer B) → found b ≡ (answer >>= next) → From answer next b
found_from (found a) next e = record { it = a; onto = e }
found_from failed next e = let z : ◌≡◌ {A = ℕ} 0 1 = cc in absurd (omega arith)
found_from (refused n) next e = let z : ◌≡◌ {A = ℕ} 0 1 = cc in absurd (omega arith)

-- a number that was read ends at most one place behind the file
pub read_within : (strict : Bool) (file : List ℕ) (place : ℕ) {number : Numeral} → found number ≡ reading_of strict file place → number.place ≤ length file + 1
read_within strict file place {number} e = go (reading_of strict file place) (reading_read strict file place) e where
  go : (answer : Answer Numeral) → All (λ (n : Numeral). Read file place n.value n.place) answer → found number ≡ answer → number.place ≤ length file + 1
  go (found n) h is = let same : number ≡ n = cc in rw same h.within
  go failed h is = let z : ◌≡◌ {A = ℕ} 0 1 = cc in absurd (omega arith)
  go (refused n) h is = let z : ◌≡◌ {A = ℕ} 0 1 = cc in absurd (omega arith)

-- ---- a string that was found lies in the file
pub record Lies (file : List ℕ) (text : Text) : Type 0 where
  pub inside : text.start + text.size ≤ length file
  pub short : text.size ≤ 256

module _ (file : List ℕ) (text : Text) where
  within_lies : (t : Text) → t.size ≤ 256 → found text ≡ within file t → Lies file text
  unfolding within
  within_lies t short e = empty (eqb t.size 0) e where
    whole : (test : Bool) → leb (t.start + t.size) (length file) ≡ test → found text ≡ (if test then found t else refused 14) → Lies file text
    whole true is e = let same : t ≡ text = cc in rw (← same) (record { inside = leb-true _ _ is; short = short })
    whole false is e = let z : ◌≡◌ {A = ℕ} 0 1 = cc in absurd (omega arith)

    empty : (test : Bool) → found text ≡
        (if test then found (record { start = 0; size = 0; next = t.next }) else (if leb (t.start + t.size) (length file) then found t else refused 14)) → Lies file text
    empty true e = let same : record { start = 0; size = 0; next = t.next } ≡ text = cc in rw (← same) (record { inside = omega arith; short = omega arith })
    empty false e = whole (leb (t.start + t.size) (length file)) refl e

  remote_lies : (strict : Bool) (place next : ℕ) → found text ≡ remote_at strict file place next → Lies file text
  unfolding remote_at
  remote_lies strict place next e = let n = found_from (reading_of strict file place) _ e in let small = not_failed (leb n.it.value 256) n.onto in
      within_lies (record { start = n.it.place; size = n.it.value; next = next }) (leb-true _ _ small.0) small.1

  pub string_lies : (strict : Bool) (metadata place : ℕ) → found text ≡ string_at strict file metadata place → Lies file text
  unfolding string_at
  string_lies strict metadata place e = let n = found_from (reading_of strict file place) _ e in by_size n.it (ltb n.it.value 256) refl n.onto where
    by_size : (number : Numeral) (test : Bool) → ltb number.value 256 ≡ test
        → found text ≡ (if test then within file (record { start = number.place; size = number.value; next = number.place + number.value }) else remote_at
        strict file ((metadata + number.value - 256) % 2 ^ 32) number.place) → Lies file text
    by_size number true is e = within_lies _ (omega (arith, ltb-true number.value 256 is)) e
    by_size number false is e = remote_lies strict _ _ e

  -- a reply that was given is a string that was found
  pub text_lies : (strict : Bool) (metadata place : ℕ) (blame : Blame) → given text ≡ text_at strict file metadata place blame → Lies file text
  unfolding text_at
  text_lies strict metadata place blame e = go (string_at strict file metadata place) refl e where
    checked : (t : Text) (test : Bool) → given text ≡ (if test then given t else R.refused (refusal blame.number 2 blame.detail)) → t ≡ text
    checked t true e = cc
    checked t false e = let z : ◌≡◌ {A = ℕ} 0 1 = cc in absurd (omega arith)

    go : (answer : Answer Text) → string_at strict file metadata place ≡ answer → given text ≡ or_blamed file blame answer → Lies file text
    go (found t) is e = string_lies strict metadata place (ap found (sym (checked t (is_utf8 (bytes_of file t)) e)) ∙ sym is)
    go failed is e = let z : ◌≡◌ {A = ℕ} 0 1 = cc in absurd (omega arith)
    go (refused n) is e = let z : ◌≡◌ {A = ℕ} 0 1 = cc in absurd (omega arith)

  -- its bytes, as the part of the file that is lent
  abbrev pub part : List ℕ
  part = take (text.start + text.size - text.start) (drop text.start file)

  pub part_is : map unmasked part ≡ bytes_of file text
  unfolding bytes_of
  part_is = let n : text.start + text.size - text.start ≡ text.size = omega arith in ap (λ (k : ℕ). map unmasked (take k (drop text.start file))) n

  pub part_length : Lies file text → length part ≡ text.size
  part_length l = let n : text.start + text.size - text.start ≡ text.size = omega arith in
      ap (λ (k : ℕ). length (take k (drop text.start file))) n ∙ length-take-le text.size (drop text.start file) (rw length-drop (omega (arith, l.inside)))

-- what was given was found
pub given_found : {A : Type 0} {a : A} (why : Refusal) (answer : Answer A) → given a ≡ (answer or_else why) → found a ≡ answer
given_found why (found a) e = cc
given_found why failed e = let z : ◌≡◌ {A = ℕ} 0 1 = cc in absurd (omega arith)
given_found why (refused number) e = let z : ◌≡◌ {A = ℕ} 0 1 = cc in absurd (omega arith)

-- a string that was not found, as its blame has it
pub blamed : (file : List ℕ) (blame : Blame) (answer : Answer Text) {why : Refusal} → R.refused why ≡ (answer or_else refusal blame.number 1 blame.detail) → R.refused why ≡ or_blamed file blame answer
blamed file blame (found text) e = let z : ◌≡◌ {A = ℕ} 0 1 = cc in absurd (omega arith)
blamed file blame failed e = e
blamed file blame (refused number) e = e
