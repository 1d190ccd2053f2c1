-- Names and notice, text by text. Assumes nothing.
use Rattle.numbers.proofs.Prelude.{ℕ, suc, ◌-◌, ◌≤◌, ◌<◌, le-leb, lt-leb, leb, take, drop, Bool, true, false, List, [], ◌++◌, append_assoc, append-nil, ◌≡◌, refl, sym, ap, subst, ◌∙◌, arith}
use Rattle.numbers.specs.{Answer.{Answer, found, failed}, Reply.{Reply, given, refused, plain, demand, ◌or_else◌, ◌>>=◌, ◌>>◌}, Spelling.{varint_of}, declared.refusal.Refusal.{Refusal}}
use Rattle.header.specs.{Text.{string_at}, declared.{header.Head.{Head}, text.Text.{Text}}}
use Rattle.salvage.proofs.moves.Capping.{capped_then, capped_as}
use Rattle.salvage.specs.{File.{texts_inline, head_texts}, inner.{Moves.Laid.{Capped}, Rescue.Texts.{short_text, text_bytes, behind, Inlined}}}
use Rattle.numbers.specs.Answer as A

-- ---- one text
module _ (strict : Bool) (file : List ℕ) (place : ℕ) where
  abbrev read : Reply Text
  read = string_at strict file 0 place or_else plain 26

  pub short_fits : {text : Text} → given text ≡ read → text.size ≤ 255 → given text ≡ short_text strict file place
  unfolding short_text
  short_fits {text} e h = rw (← e, le-leb text.size 255 h)

  pub short_long : {text : Text} → given text ≡ read → 255 < text.size → refused (plain 26) ≡ short_text strict file place
  unfolding short_text
  short_long {text} e h = rw (← e, lt-leb text.size 255 h)

  pub short_refused : {why : Refusal} → refused why ≡ read → refused why ≡ short_text strict file place
  unfolding short_text
  short_refused e = rw (← e)

-- ---- behind what was written before
behind_none : (r : Reply (List ℕ)) → behind [] r ≡ r
behind_none (given bytes) = refl
behind_none (refused why) = refl

behind_twice : (xs ys : List ℕ) (r : Reply (List ℕ)) → behind xs (behind ys r) ≡ behind (xs ++ ys) r
behind_twice xs ys (given bytes) = ap given (sym (append_assoc xs ys bytes))
behind_twice xs ys (refused why) = refl

module _ (file : List ℕ) (head : Head) where
  -- a text and those behind it
  abbrev from : ℕ → Text → Reply (List ℕ)
  from more t = texts_inline file head more t.next >>= λ bytes. given (varint_of t.size ++ (take t.size (drop t.start file) ++ bytes))

  -- a text is followed by the others
  texts_next : (more place : ℕ) {text : Text} → given text ≡ short_text head.strict file place →
      texts_inline file head (suc more) place ≡ behind (text_bytes file text) (texts_inline file head more text.next)
  unfolding short_text texts_inline text_bytes
  texts_next more place {text} e = go (string_at head.strict file 0 place) e where
    joined : (t : Text) (rest : Reply (List ℕ)) →
        (rest >>= λ bytes. given (varint_of t.size ++ (take t.size (drop t.start file) ++ bytes))) ≡ behind (varint_of t.size ++ take t.size (drop t.start file)) rest
    joined t (given bytes) = ap given (sym (append_assoc (varint_of t.size) (take t.size (drop t.start file)) bytes))
    joined t (refused why) = refl

    tested : (t : Text) (test : Bool) → given text ≡ (demand test (plain 26) >> given t)
        → (demand test (plain 26) >> from more t) ≡ behind (varint_of text.size ++ take text.size (drop text.start file)) (texts_inline file head more text.next)
    tested t true is = let same : t ≡ text = cc in rw (← same) (joined t (texts_inline file head more t.next))
    tested t false is = let z : ◌≡◌ {A = ℕ} 0 1 = cc in absurd (omega arith)

    go : (answer : Answer Text) → given text ≡ ((answer or_else plain 26) >>= λ t. demand (leb t.size 255) (plain 26) >> given t)
        → ((answer or_else plain 26) >>= λ t. demand (leb t.size 255) (plain 26) >> from more t)
        ≡ behind (varint_of text.size ++ take text.size (drop text.start file)) (texts_inline file head more text.next)
    go (found t) is = tested t (leb t.size 255) is
    go failed is = let z : ◌≡◌ {A = ℕ} 0 1 = cc in absurd (omega arith)
    go (A.refused n) is = let z : ◌≡◌ {A = ℕ} 0 1 = cc in absurd (omega arith)

  -- one that is refused ends them
  texts_refused : (more place : ℕ) {why : Refusal} → refused why ≡ short_text head.strict file place → refused why ≡ texts_inline file head (suc more) place
  unfolding short_text texts_inline
  texts_refused more place {why} e = go (string_at head.strict file 0 place) e where
    tested : (t : Text) (test : Bool) → refused why ≡ (demand test (plain 26) >> given t) → refused why ≡ (demand test (plain 26) >> from more t)
    tested t true is = let z : ◌≡◌ {A = ℕ} 0 1 = cc in absurd (omega arith)
    tested t false is = let same : why ≡ plain 26 = cc in ap refused same

    go : (answer : Answer Text) → refused why ≡ ((answer or_else plain 26) >>= λ t. demand (leb t.size 255) (plain 26) >> given t)
        → refused why ≡ ((answer or_else plain 26) >>= λ t. demand (leb t.size 255) (plain 26) >> from more t)
    go (found t) is = tested t (leb t.size 255) is
    go failed is = let same : why ≡ plain 26 = cc in ap refused same
    go (A.refused n) is = let same : why ≡ plain n = cc in ap refused same

  -- ---- the loop
  module _ (before : List ℕ) (at : ℕ) where
    pub record Texting (now : List ℕ) (left place next : ℕ) : Type 0 where
      pub done : List ℕ
      pub rest : behind done (texts_inline file head left place) ≡ head_texts file head
      pub laid : Capped before at done now next

    module _ {now : List ℕ} {left place next : ℕ} (t : Texting now left place next) where
      opened : 0 < left → behind t.done (texts_inline file head (suc (left - 1)) place) ≡ head_texts file head
      opened h = let one : suc (left - 1) ≡ left = omega arith in ap (λ (n : ℕ). behind t.done (texts_inline file head n place)) one ∙ t.rest

      pub texts_go : {text : Text} {after : List ℕ} {next' : ℕ} → 0 < left → given text ≡ short_text head.strict file place → Capped now next (text_bytes file text) after next' →
          Texting after (left - 1) text.next next'
      texts_go {text} h e c =
          record {
            done = t.done ++ text_bytes file text;
            rest = sym (behind_twice t.done (text_bytes file text) (texts_inline file head (left - 1) text.next)) ∙ ap (behind t.done) (sym (texts_next (left - 1) place e)) ∙ opened h;
            laid = capped_then t.done (text_bytes file text) t.laid c;
          }

      pub texts_stop : (after : List ℕ) {why : Refusal} {r : Reply ℕ} → r ≡ refused why → 0 < left → refused why ≡ short_text head.strict file place
          → Inlined (head_texts file head) before at after r
      texts_stop after {why} is h e =
          rw is (subst (λ (r : Reply (List ℕ)). Inlined r before at after (refused why)) (ap (behind t.done) (texts_refused (left - 1) place e) ∙ opened h) refl)

      pub texts_end : left ≤ 0 → Inlined (head_texts file head) before at now (given next)
      unfolding texts_inline
      texts_end h = let none : left ≡ 0 = omega arith in
          let all : behind t.done (texts_inline file head 0 place) ≡ head_texts file head = ap (λ (n : ℕ). behind t.done (texts_inline file head n place)) (sym none) ∙ t.rest in
          subst (λ (r : Reply (List ℕ)). Inlined r before at now (given next)) all (capped_as (sym (append-nil t.done)) t.laid)
