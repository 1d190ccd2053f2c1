-- Names and notice, one after another. Assumes nothing.
use Rattle.numbers.proofs.Prelude.{ℕ, suc, ◌+◌, ◌-◌, ◌^◌, ◌≤◌, ◌<◌, leb-true, leb, length, Bool, true, false, List, [], ◌++◌, append_assoc, ◌≡◌, refl, sym, ap, ◌∙◌, sub-zero, arith}
use Rattle.numbers.{proofs.Replies.{carried, onward}, specs.{Reply.{Reply, given, refused, plain, demand, ◌>>=◌, ◌>>◌}, declared.refusal.Refusal.{Refusal}}}
use Rattle.header.specs.{Field.{entry}, Header.{Texts, texts_from, blame_of, place_after, preamble_of}, Text.{text_at, bytes_of}, declared.{header.Preamble.{Preamble}, text.Text.{Text}}}

-- a file that has a preamble is not over 1 GiB
pub short_enough : (file : List ℕ) (p : Preamble) → given p ≡ preamble_of file → length file ≤ 2 ^ 30
unfolding preamble_of
short_enough file p e = go _ (leb (length file) (2 ^ 30)) refl e where
  go : (rest : Reply Preamble) (test : Bool) → leb (length file) (2 ^ 30) ≡ test → given p ≡ (demand test (plain 1) >> rest) → length file ≤ 2 ^ 30
  go rest true is e = leb-true (length file) (2 ^ 30) is
  go rest false is e = let z : ◌≡◌ {A = ℕ} 0 1 = cc in absurd (omega arith)

-- ---- bytes that went out before others
abbrev pub before : List ℕ → Reply Texts → Reply Texts
before bytes (given texts) = given (record { bytes = bytes ++ texts.bytes; place = texts.place })
before bytes (refused why) = refused why

joined : (bytes : List ℕ) (r : Reply Texts) → (r >>= λ rest. given (record { bytes = bytes ++ rest.bytes; place = rest.place })) ≡ before bytes r
joined bytes (given texts) = refl
joined bytes (refused why) = refl

pub before_none : (r : Reply Texts) → before [] r ≡ r
before_none (given texts) = refl
before_none (refused why) = refl

pub before_twice : (xs ys : List ℕ) (r : Reply Texts) → before xs (before ys r) ≡ before (xs ++ ys) r
before_twice xs ys (given texts) = simp append_assoc
before_twice xs ys (refused why) = refl

-- the place alone
abbrev place_of : Reply Texts → Reply ℕ
place_of r = r >>= λ texts. given texts.place

place_before : (bytes : List ℕ) (r : Reply Texts) → place_of (before bytes r) ≡ place_of r
place_before bytes (given texts) = refl
place_before bytes (refused why) = refl

-- ---- one string more
module _ (strict : Bool) (file : List ℕ) (names more index place : ℕ) where
  pub next_text : (text : Text) → given text ≡ text_at strict file 0 place (blame_of names index)
      → texts_from strict file names (suc more) index place ≡ before (entry (bytes_of file text)) (texts_from strict file names more (index + 1) text.next)
  unfolding texts_from
  next_text text e = sym (onward e _) ∙ joined (entry (bytes_of file text)) (texts_from strict file names more (index + 1) text.next)

  pub bad_text : (why : Refusal) → refused why ≡ text_at strict file 0 place (blame_of names index) → refused why ≡ texts_from strict file names (suc more) index place
  unfolding texts_from
  bad_text why e = carried e _

-- ---- before each turn of the loop that skips them
pub record Skipping (strict : Bool) (file : List ℕ) (names index place : ℕ) : Type 0 where
  pub at : index ≤ names + 1
  pub so_far : place_of (texts_from strict file names (names + 1 - index) index place) ≡ place_after strict file names

pub starts : (strict : Bool) (file : List ℕ) (names : ℕ) → Skipping strict file names 0 7
starts strict file names = record { at = omega arith; so_far = rw sub-zero refl }

module _ {strict : Bool} {file : List ℕ} {names index place : ℕ} (s : Skipping strict file names index place) where
  module _ (within : index ≤ names) where
    opened : place_of (texts_from strict file names (suc (names + 1 - (index + 1))) index place) ≡ place_after strict file names
    opened = let e : names + 1 - index ≡ suc (names + 1 - (index + 1)) = omega arith in rw e at s.so_far

    pub goes : (text : Text) → given text ≡ text_at strict file 0 place (blame_of names index) → Skipping strict file names (index + 1) text.next
    goes text e = record {
      at = omega arith;
      so_far =
          sym (place_before (entry (bytes_of file text)) (texts_from strict file names (names + 1 - (index + 1)) (index + 1) text.next))
          ∙ ap place_of (sym (next_text strict file names (names + 1 - (index + 1)) index place text e))
          ∙ opened;
    }

    pub stops : (why : Refusal) → refused why ≡ text_at strict file 0 place (blame_of names index) → refused why ≡ place_after strict file names
    stops why e = ap place_of (bad_text strict file names (names + 1 - (index + 1)) index place why e) ∙ opened

  pub ends : names < index → given place ≡ place_after strict file names
  unfolding texts_from
  ends past = let e : names + 1 - index ≡ 0 = omega (arith, s.at) in rw e at s.so_far
