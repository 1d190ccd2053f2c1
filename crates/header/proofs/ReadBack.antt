-- What opening and the strings of a file say, from the numbers and bytes that are read there, plainly and strictly. Assumes nothing.
use Rattle.numbers.proofs.Prelude.{ℕ, suc, ◌+◌, ◌-◌, ◌%◌, ◌^◌, ◌≤◌, ◌<◌, eq-eqb, lt-ltb, le-leb, le-ltb, lt-leb, eqb-true, eqb-false, eqb, ltb, leb, length, take, drop, get_or, Bool, true, false, List}
use Rattle.numbers.proofs.Prelude.{[], ◌∷◌, ◌++◌, map, ◌≡◌, refl, sym, ap, ◌∙◌, arith}
use Rattle.numbers.specs.{Answer.{Answer, found, refused, if◌then◌else◌}, Lists.{zeros}, Reply.{given, plain, demand, ◌>>◌}, Varint.{numeral, reading_of}}
use Rattle.header.specs.{Field.{entry, field, field_at}, Header.{is_kind, preamble_of, blame_of, Texts, texts_from, texts_of, sections_from, sections_at, Contents, contents_by, head_by}}
use Rattle.header.specs.{Opening.{replied_of, fitting_of, opened_by}, Text.{within, remote_at, string_at, bytes_of, text_at}, Utf8.{unmasked, is_utf8}, declared.header.Preamble.{Preamble}}
use Rattle.header.specs.declared.{header.Sections.{Sections}, text.{Blame.{Blame}, Text.{Text}}}
use Rattle.numbers.specs.Reply as R

-- ---- strings
-- what a string at a place says: this text, and reading goes on at a place
pub record Says (strict : Bool) (file : List ℕ) (metadata place : ℕ) (t : List ℕ) (next : ℕ) : Type 0 where
  pub text : Text
  pub reads : string_at strict file metadata place ≡ found text
  pub bytes : bytes_of file text ≡ t
  pub after : text.next ≡ next

-- the same of an answer
record Told (file : List ℕ) (answer : Answer Text) (t : List ℕ) (next : ℕ) : Type 0 where
  text : Text
  is : answer ≡ found text
  bytes : bytes_of file text ≡ t
  after : text.next ≡ next

-- a text's bytes stand at a place, XOR 0x80
pub record Masked (file : List ℕ) (start : ℕ) (t : List ℕ) : Type 0 where
  pub there : map unmasked (take (length t) (drop start file)) ≡ t
  pub inside : 0 < length t → start + length t ≤ length file

none_there : (file t : List ℕ) (next : ℕ) → length t ≡ 0 → bytes_of file (record { start = 0; size = 0; next = next }) ≡ t
unfolding bytes_of
none_there file [] next e = refl
none_there file (b ∷ t) next e = absurd (omega arith)

within_told : (file t : List ℕ) (start next : ℕ) → Masked file start t → Told file (within file (record { start = start; size = length t; next = next })) t next
unfolding within bytes_of
within_told file t start next masked = by_size (eqb (length t) 0) refl where
  by_size : (none : Bool) → eqb (length t) 0 ≡ none → Told file (if none then found (record { start = 0; size = 0; next = next }) else (if leb (start + length t)
      (length file) then found (record { start = start; size = length t; next = next }) else refused 14)) t next
  by_size true e = record { text = record { start = 0; size = 0; next = next }; is = refl; bytes = none_there file t next (eqb-true (length t) 0 e); after = refl }
  by_size false e =
      record {
        text = record { start = start; size = length t; next = next };
        is = rw (le-leb (start + length t) (length file) (masked.inside (omega (arith, eqb-false (length t) 0 e))));
        bytes = masked.there;
        after = refl;
      }

module _ (strict : Bool) (file t : List ℕ) (short : length t ≤ 255) (metadata place next : ℕ) where
  -- a text inline: its length, and its bytes behind it
  pub inline_says : reading_of strict file place ≡ numeral (length t) next → Masked file next t → Says strict file metadata place t (next + length t)
  unfolding string_at
  inline_says read masked = let told = within_told file t next (next + length t) masked in
      record { text = told.text; reads = rw (read, lt-ltb (length t) 256 (omega arith)) told.is; bytes = told.bytes; after = told.after }

  -- a text elsewhere: 256 and how far behind the metadata's begin its length stands
  pub remote_says : (offset start : ℕ) → metadata + offset < 2 ^ 32 → reading_of strict file place ≡ numeral (256 + offset) next → reading_of strict file (metadata + offset) ≡ numeral (length t) start
      → Masked file start t → Says strict file metadata place t next
  unfolding string_at remote_at
  remote_says offset start small read far masked = let same : (metadata + (256 + offset) - 256) % 2 ^ 32 ≡ metadata + offset = omega arith in
      let told = within_told file t start next masked in
      record { text = told.text; reads = rw (read, le-ltb (256 + offset) 256 (omega arith), same, far, le-leb (length t) 256 (omega arith)) told.is; bytes = told.bytes; after = told.after }

module _ {strict : Bool} {file : List ℕ} {metadata place : ℕ} {t : List ℕ} {next : ℕ} (s : Says strict file metadata place t next) (good : is_utf8 t ≡ true) where
  -- as a text that must be UTF-8
  pub says_text : (blame : Blame) → text_at strict file metadata place blame ≡ given s.text
  unfolding text_at
  says_text blame = rw (s.reads, s.bytes, good)

  -- as the next of some texts
  pub says_texts : (names more index : ℕ) (texts : Texts) → texts_from strict file names more (index + 1) next ≡ given texts → metadata ≡ 0
      → texts_from strict file names (suc more) index place ≡ given (record { bytes = entry t ++ texts.bytes; place = texts.place })
  unfolding texts_from bytes_of
  says_texts names more index texts later zero =
      let here : text_at strict file 0 place (blame_of names index) ≡ given s.text = ap (λ (m : ℕ). text_at strict file m place (blame_of names index)) (sym zero) ∙ says_text (blame_of names index) in
      rw (here, s.after, later, s.bytes)

  -- as a field
  pub says_field : (tag room : ℕ) → field_at strict file metadata place tag room ≡ (demand (leb (length (field tag t)) room) (plain 18) >> given (record { bytes = field tag t; next = next }))
  unfolding field_at
  says_field tag room = rw (says_text (record { number = 15; detail = 0 }), s.bytes, s.after)

pub no_texts : (strict : Bool) (file : List ℕ) (names index place : ℕ) → texts_from strict file names 0 index place ≡ given (record { bytes = []; place = place })
unfolding texts_from
no_texts strict file names index place = refl

-- ---- the header
-- the first seven bytes
pub preamble_is : (kind version precision count : ℕ) (rest file : List ℕ) → file ≡ 0x50 ∷ 0x4C ∷ 0x42 ∷ kind ∷ version ∷ precision ∷ count ∷ rest → length file ≤ 2 ^ 30
    → is_kind kind ≡ true → ltb version 2 ≡ true → preamble_of file ≡ given (record { kind = kind; version = version; precision = precision; count = count })
unfolding preamble_of
preamble_is kind version precision count rest file e small known new = let b0 : get_or file 0 0 ≡ 0x50 = ap (λ (f : List ℕ). get_or f 0 0) e in
    let b1 : get_or file 1 0 ≡ 0x4C = ap (λ (f : List ℕ). get_or f 1 0) e in let b2 : get_or file 2 0 ≡ 0x42 = ap (λ (f : List ℕ). get_or f 2 0) e in
    let b3 : get_or file 3 0 ≡ kind = ap (λ (f : List ℕ). get_or f 3 0) e in let b4 : get_or file 4 0 ≡ version = ap (λ (f : List ℕ). get_or f 4 0) e in
    let b5 : get_or file 5 0 ≡ precision = ap (λ (f : List ℕ). get_or f 5 0) e in let b6 : get_or file 6 0 ≡ count = ap (λ (f : List ℕ). get_or f 6 0) e in
    simp (le-leb (length file) (2 ^ 30) small, le-leb 7 (length file) (omega (arith, ap length e)), b0, b1, b2, b3, b4, b5, b6, known, new)

-- the three sizes
pub sections_are : (strict : Bool) (file : List ℕ) (p q r s t m d : ℕ) → length file ≤ 2 ^ 30 → reading_of strict file p ≡ numeral t q → reading_of strict file q ≡ numeral m r
    → reading_of strict file r ≡ numeral d s → s + (t + (m + d)) ≡ length file → sections_at strict file p ≡ given (record { table = s; metadata = s + t; «data» = s + (t + m) })
unfolding sections_at sections_from
sections_are strict file p q r s t m d small one two three whole = let first : t % 2 ^ 32 ≡ t = omega arith in let second : m % 2 ^ 32 ≡ m = omega arith in
    let sum : d + (s + (t + m)) ≡ length file = omega arith in
    simp (
      one,
      two,
      three,
      first,
      second,
      lt-ltb (t + m) (2 ^ 32) (omega arith),
      lt-ltb (s + (t + m)) (2 ^ 32) (omega arith),
      sum,
      lt-ltb (length file) (2 ^ 64) (omega arith),
      eq-eqb (length file) (length file) refl,
    )

-- all of it
module _ (strict : Bool) (file : List ℕ) (preamble : Preamble) (texts : Texts) (sections : Sections) (first : preamble_of file ≡ given preamble)
    (second : texts_of strict file preamble.count ≡ given texts)
    (third : sections_at strict file texts.place ≡ given sections) where
  pub contents_are : contents_by strict file ≡ given (record { head = record { preamble = preamble; sections = sections; strict = strict }; bytes = texts.bytes })
  unfolding contents_by
  contents_are = rw (first, second, third)

module _ (strict : Bool) (file : List ℕ) (contents : Contents) (is : contents_by strict file ≡ given contents) where
  pub head_is : head_by strict file ≡ given contents.head
  unfolding head_by
  head_is = rw is

  pub opened_is : (room : ℕ) → length contents.bytes ≤ room → opened_by strict file room ≡ replied_of room (given contents)
  unfolding opened_by fitting_of
  opened_is room h = rw (is, le-leb (length contents.bytes) room h)

  pub not_opened : (room : ℕ) → room < length contents.bytes → opened_by strict file room ≡ record { reply = R.refused (plain 18); text = zeros room }
  unfolding opened_by fitting_of
  not_opened room h = rw (is, lt-leb (length contents.bytes) room h)
