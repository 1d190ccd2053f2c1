-- Names and notice, written inline, are read back, plainly and strictly. Assumes nothing.
use Rattle.numbers.proofs.Prelude.{ℕ, zero, suc, ◌+◌, ◌≤◌, ◌<◌, lt-ltb, le-leb, leb-true, eqb-true, eqb-false, eqb, leb, length, take, drop, length-append, length-drop, length-take-le, Bool, true}
use Rattle.numbers.proofs.Prelude.{false, List, [], ◌∷◌, ◌++◌, map, append_assoc, ◌≡◌, refl, sym, ap, subst, ◌∙◌, add-zero, arith}
use Rattle.numbers.{proofs.Replies.{given_from, demanded}, specs.{Answer.{Answer, found, failed, refused, if◌then◌else◌}, Reply.{Reply, given, refusal, plain, ◌or_else◌}, Spelling.{varint_of}}}
use Rattle.border.proofs.{AtPlace.{at_as, at_inside, at_take, number_at}, OnWay.{At, at_first, at_next}}
use Rattle.header.{proofs.Strings.{string_lies}, specs.{Field.{entry}, Header.{blame_of, Texts, texts_from}, Text.{within, string_at, bytes_of, or_blamed, text_at}, Utf8.{unmasked, is_utf8}}}
use Rattle.header.specs.declared.{header.Head.{Head}, text.{Blame.{Blame}, Text.{Text}}}
use Rattle.salvage.specs.File.{texts_inline}
use Rattle.numbers.specs.Reply as R

-- ---- a string, by its bytes as they stand
pub record Lain (file : List ℕ) (answer : Answer Text) (raw : List ℕ) (next : ℕ) : Type 0 where
  pub text : Text
  pub is : answer ≡ found text
  pub stand : take text.size (drop text.start file) ≡ raw
  pub size : text.size ≡ length raw
  pub after : text.next ≡ next

no_bytes : (raw : List ℕ) → length raw ≡ 0 → [] ≡ raw
no_bytes [] e = refl
no_bytes (b ∷ raw) e = absurd (omega arith)

pub within_lain : (file raw : List ℕ) (start size next : ℕ) → length raw ≡ size → take size (drop start file) ≡ raw → (0 < size → start + size ≤ length file)
    → Lain file (within file (record { start = start; size = size; next = next })) raw next
unfolding within
within_lain file raw start size next sized there inside = by_size (eqb size 0) refl where
  by_size : (none : Bool) → eqb size 0 ≡ none → Lain file (if none then found (record { start = 0; size = 0; next = next }) else (if leb (start + size)
      (length file) then found (record { start = start; size = size; next = next }) else refused 14)) raw next
  by_size true e = let zero_size : size ≡ 0 = eqb-true size 0 e in
      record { text = record { start = 0; size = 0; next = next }; is = refl; stand = no_bytes raw (sized ∙ zero_size); size = sym (sized ∙ zero_size); after = refl }
  by_size false e =
      record {
        text = record { start = start; size = size; next = next };
        is = rw (le-leb (start + size) (length file) (inside (omega (arith, eqb-false size 0 e))));
        stand = there;
        size = sym sized;
        after = refl;
      }

pub lain_bytes : {file raw : List ℕ} {answer : Answer Text} {next : ℕ} (l : Lain file answer raw next) → bytes_of file l.text ≡ map unmasked raw
unfolding bytes_of
lain_bytes l = ap (map unmasked) l.stand

-- a text that was given was found, and is UTF-8
pub record TextFound (strict : Bool) (file : List ℕ) (metadata place : ℕ) (text : Text) : Type 0 where
  pub is : string_at strict file metadata place ≡ found text
  pub good : is_utf8 (bytes_of file text) ≡ true

pub text_found : (strict : Bool) (file : List ℕ) (metadata place : ℕ) (blame : Blame) (text : Text) → given text ≡ text_at strict file metadata place blame → TextFound strict file metadata place text
unfolding text_at
text_found strict file metadata place blame text e = go (string_at strict file metadata place) refl e where
  chosen : (t : Text) → string_at strict file metadata place ≡ found t → (test : Bool) → is_utf8 (bytes_of file t) ≡ test
      → given text ≡ (if test then given t else R.refused (refusal blame.number 2 blame.detail)) → TextFound strict file metadata place text
  chosen t is true good e = let same : t ≡ text = cc (e) in rw (← same) (record { is = is; good = good })
  chosen t is false good e = let z : ◌≡◌ {A = ℕ} 0 1 = cc in absurd (omega arith)

  go : (answer : Answer Text) → string_at strict file metadata place ≡ answer → given text ≡ or_blamed file blame answer → TextFound strict file metadata place text
  go (found t) is e = chosen t is (is_utf8 (bytes_of file t)) refl e
  go failed is e = let z : ◌≡◌ {A = ℕ} 0 1 = cc in absurd (omega arith)
  go (refused n) is e = let z : ◌≡◌ {A = ℕ} 0 1 = cc in absurd (omega arith)

pub text_given : (strict : Bool) (file : List ℕ) (metadata place : ℕ) (blame : Blame) {text : Text} → TextFound strict file metadata place text → text_at strict file metadata place blame ≡ given text
unfolding text_at
text_given strict file metadata place blame f = rw (f.is, f.good)

-- ---- a text inline
module _ (strict : Bool) (new raw : List ℕ) (metadata place : ℕ) (short : length raw ≤ 255) (here : At new place (varint_of (length raw) ++ raw)) where
  abbrev behind : ℕ
  behind = place + length (varint_of (length raw))

  bytes : At new behind raw
  bytes = at_next new place (varint_of (length raw)) raw here

  size : behind + length raw ≡ place + length (varint_of (length raw) ++ raw)
  size = omega (arith, length-append (varint_of (length raw)) raw)

  pub inline_lain : Lain new (string_at strict new metadata place) raw (place + length (varint_of (length raw) ++ raw))
  unfolding string_at
  inline_lain = let read = number_at strict new place (length raw) (omega arith) (at_first new place (varint_of (length raw)) raw here) in
      let l = within_lain new raw behind (length raw) (behind + length raw) refl (at_take bytes) (at_inside bytes) in
      record { text = l.text; is = rw (read, lt-ltb (length raw) 256 (omega arith)) l.is; stand = l.stand; size = l.size; after = l.after ∙ size }

-- ---- all of them
texts_step : (strict : Bool) (new : List ℕ) (names more index place : ℕ) (text : Text) (rest : Texts) → text_at strict new 0 place (blame_of names index) ≡ given text
    → texts_from strict new names more (index + 1) text.next ≡ given rest
    → texts_from strict new names (suc more) index place ≡ given (record { bytes = entry (bytes_of new text) ++ rest.bytes; place = rest.place })
unfolding texts_from
texts_step strict new names more index place text rest e g = rw (e, g)

inline_step : (new : List ℕ) (head' : Head) (more place : ℕ) (text : Text) (bytes : List ℕ) → string_at head'.strict new 0 place ≡ found text → text.size ≤ 255
    → texts_inline new head' more text.next ≡ given bytes → texts_inline new head' (suc more) place ≡ given (varint_of text.size ++ (take text.size (drop text.start new) ++ bytes))
unfolding texts_inline
inline_step new head' more place text bytes e short g = rw (e, le-leb text.size 255 short, g)

-- the names in both files
pub data SameNames (file new : List ℕ) (head head' : Head) (names : ℕ) : ℕ → ℕ → ℕ → ℕ → Type 0 where
  no_names : {index place place' : ℕ} → SameNames file new head head' names 0 index place place'
  one_name : {more index place place' : ℕ} (text text' : Text) → text_at head.strict file 0 place (blame_of names index) ≡ given text
      → text_at head'.strict new 0 place' (blame_of names index) ≡ given text' → bytes_of new text' ≡ bytes_of file text
      → SameNames file new head head' names more (index + 1) text.next text'.next → SameNames file new head head' names (suc more) index place place'

pub record Both (file : List ℕ) (head : Head) (new : List ℕ) (head' : Head) (names more index place place' : ℕ) (out bytes : List ℕ) : Type 0 where
  pub opens : texts_from head'.strict new names more index place' ≡ given (record { bytes = out; place = place' + length bytes })
  pub inline : texts_inline new head' more place' ≡ given bytes
  pub names_same : SameNames file new head head' names more index place place'

module _ (file : List ℕ) (head : Head) (is_strict : head.strict ≡ true) (new : List ℕ) (head' : Head) where
  -- one of them, and those that follow
  module _ (names more index place place' : ℕ) (text : Text) (was : TextFound true file 0 place text) (short : text.size ≤ 255) where
    abbrev raw : List ℕ
    raw = take text.size (drop text.start file)

    raw_length : length raw ≡ text.size
    raw_length = let l = string_lies file text true 0 place (sym was.is) in length-take-le text.size (drop text.start file) (omega (arith, length-drop text.start file, l.inside))

    module _ (out bytes : List ℕ) (here : At new place' (varint_of text.size ++ (raw ++ bytes))) (later : At new (place' + length (varint_of (length raw) ++ raw)) bytes
        → Both file head new head' names more (index + 1) text.next (place' + length (varint_of (length raw) ++ raw)) out bytes) where
      here_raw : At new place' ((varint_of (length raw) ++ raw) ++ bytes)
      here_raw = at_as (ap (λ (n : ℕ). varint_of n ++ (raw ++ bytes)) (sym raw_length) ∙ sym (append_assoc (varint_of (length raw)) raw bytes)) here

      lain : Lain new (string_at head'.strict new 0 place') raw (place' + length (varint_of (length raw) ++ raw))
      lain = inline_lain head'.strict new raw 0 place' (omega (arith, raw_length)) (at_first new place' (varint_of (length raw) ++ raw) bytes here_raw)

      same_bytes : bytes_of new lain.text ≡ bytes_of file text
      unfolding bytes_of
      same_bytes = lain_bytes lain

      found_again : TextFound head'.strict new 0 place' lain.text
      found_again = record { is = lain.is; good = ap is_utf8 same_bytes ∙ was.good }

      follows : Both file head new head' names more (index + 1) text.next (place' + length (varint_of (length raw) ++ raw)) out bytes
      follows = later (at_next new place' (varint_of (length raw) ++ raw) bytes here_raw)

      sized : place' + length (varint_of (length raw) ++ raw) + length bytes ≡ place' + length (varint_of text.size ++ (raw ++ bytes))
      sized =
          let whole : length ((varint_of (length raw) ++ raw) ++ bytes) ≡ length (varint_of text.size ++ (raw ++ bytes)) =
          ap length (append_assoc (varint_of (length raw)) raw bytes ∙ ap (λ (n : ℕ). varint_of n ++ (raw ++ bytes)) raw_length) in
          omega (arith, length-append (varint_of (length raw) ++ raw) bytes, whole)

      text_next : Both file head new head' names (suc more) index place place' (entry (bytes_of file text) ++ out) (varint_of text.size ++ (raw ++ bytes))
      text_next =
          record {
            opens = texts_step head'.strict new names more index place' lain.text (record { bytes = out; place = place' + length (varint_of (length raw) ++ raw) + length bytes })
                (text_given head'.strict new 0 place' (blame_of names index) found_again)
                (ap (texts_from head'.strict new names more (index + 1)) lain.after ∙ follows.opens)
                ∙ ap (λ (b : List ℕ). given (record { bytes = entry b ++ out; place = place' + length (varint_of (length raw) ++ raw) + length bytes })) same_bytes
                ∙ ap (λ (n : ℕ). given (record { bytes = entry (bytes_of file text) ++ out; place = n })) sized;
            inline = inline_step new head' more place' lain.text bytes lain.is (omega (arith, lain.size, raw_length)) (ap (texts_inline new head' more) lain.after ∙ follows.inline)
                ∙ ap (λ (x : List ℕ). given (varint_of lain.text.size ++ (x ++ bytes))) lain.stand
                ∙ ap (λ (n : ℕ). given (varint_of n ++ (raw ++ bytes))) (lain.size ∙ raw_length);
            names_same = one_name text lain.text (ap (λ (t : Bool). text_at t file 0 place (blame_of names index)) is_strict ∙ text_given true file 0 place (blame_of names index) was)
                (text_given head'.strict new 0 place' (blame_of names index) found_again)
                same_bytes
                (subst (λ (n : ℕ). SameNames file new head head' names more (index + 1) text.next n) (sym lain.after) follows.names_same);
          }

  one_text : (answer : Answer Text) (text t : Text) → given text ≡ (answer or_else plain 26) → answer ≡ found t → t ≡ text
  one_text (found u) text t e is = cc
  one_text failed text t e is = let z : ◌≡◌ {A = ℕ} 0 1 = cc in absurd (omega arith)
  one_text (refused n) text t e is = let z : ◌≡◌ {A = ℕ} 0 1 = cc in absurd (omega arith)

  -- Texts that were read, and written inline at a place, are read there again, and written the same.
  pub texts_again : (names more index place place' : ℕ) (texts : Texts) (bytes : List ℕ) → texts_from true file names more index place ≡ given texts → texts_inline file head more place ≡ given bytes
      → At new place' bytes → Both file head new head' names more index place place' texts.bytes bytes
  unfolding texts_from texts_inline
  texts_again names zero index place place' texts bytes e g here = let none : [] ≡ bytes = cc (g) in
      let empty : record { bytes = []; place = place } ≡ texts = cc (e) in
      rw (← none, ← empty) (record { opens = ap (λ (n : ℕ). given (record { bytes = []; place = n })) (sym (add-zero place')); inline = refl; names_same = no_names })
  texts_again names (suc more) index place place' texts bytes e g here = let one = given_from (text_at true file 0 place (blame_of names index)) _ (sym e) in
      let two = given_from (texts_from true file names more (index + 1) one.it.next) _ one.onto in
      let was = text_found true file 0 place (blame_of names index) one.it one.is in
      let three = given_from (string_at head.strict file 0 place or_else plain 26) _ (sym g) in
      let same : one.it ≡ three.it = one_text (string_at head.strict file 0 place) three.it one.it three.is (ap (λ (t : Bool). string_at t file 0 place) is_strict ∙ was.is) in
      let four = demanded (leb three.it.size 255) (plain 26) three.onto in
      let five = given_from (texts_inline file head more three.it.next) _ four.1 in
      go one.it was two.it (sym two.is) two.onto three.it same (leb-true _ _ four.0) five.it (sym five.is) five.onto (texts_again names more) where
        go : (text : Text) → TextFound true file 0 place text → (rest : Texts) → texts_from true file names more (index + 1) text.next ≡ given rest
            → ◌≡◌ {A = Reply Texts} (given texts) (given (record { bytes = entry (bytes_of file text) ++ rest.bytes; place = rest.place })) → (t : Text) → text ≡ t → t.size ≤ 255
            → (later : List ℕ) → texts_inline file head more t.next ≡ given later → ◌≡◌ {A = Reply (List ℕ)} (given bytes) (given (varint_of t.size ++ (take t.size (drop t.start file) ++ later)))
            → ((index place place' : ℕ) (texts : Texts) (bytes : List ℕ) → texts_from true file names more index place ≡ given texts → texts_inline file head more
            place ≡ given bytes → At new place' bytes → Both file head new head' names more index place place' texts.bytes bytes) → Both file head new head'
            names (suc more) index place place' texts.bytes bytes
        go text was rest rest_is whole t same short later later_is bytes_are further =
            let out : texts ≡ record { bytes = entry (bytes_of file text) ++ rest.bytes; place = rest.place } = cc (whole) in
            let spelt : bytes ≡ varint_of t.size ++ (take t.size (drop t.start file) ++ later) = cc (bytes_are) in
            let spelt' : bytes ≡ varint_of text.size ++ (take text.size (drop text.start file) ++ later) = rw same spelt in
            let later' : texts_inline file head more text.next ≡ given later = rw same later_is in
            let both = text_next names more index place place' text was (rw same short) rest.bytes later (at_as spelt' here) (further (index + 1) text.next _ rest later rest_is later') in
            subst (λ (o : List ℕ). Both file head new head' names (suc more) index place place' o bytes) (sym (ap (λ (x : Texts). x.bytes) out))
            (subst (λ (b : List ℕ). Both file head new head' names (suc more) index place place' (entry (bytes_of file text) ++ rest.bytes) b) (sym spelt') both)
