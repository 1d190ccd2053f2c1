-- Files of one length that open and share their bytes up to the metadata of the first have the same header. Assumes nothing.
use Rattle.numbers.proofs.Prelude.{ℕ, zero, suc, ◌+◌, ◌-◌, ◌%◌, ◌^◌, ◌≤◌, ◌<◌, eqb, ltb, leb, length, take, get_or, Bool, true, false, List, [], ◌∷◌, ◌≡◌, refl, sym, ap, subst, ◌∙◌, le_refl, arith}
use Rattle.numbers.proofs.{Answers.{found_one, found_from, all_found, not_failed}, ReadAlike.{reading_alike}, Readings.{reading_grows}, Replies.{given_from, given_one, demanded}}
use Rattle.numbers.specs.{Answer.{Answer, found, if◌then◌else◌}, Reply.{given, refused, not_utf8, refusal, plain}, Varint.{Numeral, reading_of}}
use Rattle.header.proofs.ReadFrom.{read_from, sized}
use Rattle.header.specs.{Header.{magic_of, is_kind, preamble_of, blame_of, Texts, texts_from, sections_at, head_by}, Text.{within, remote_at, string_at, bytes_of, or_blamed, text_at}, Utf8.{is_utf8}}
use Rattle.header.specs.declared.{header.{Head.{Head}, Preamble.{Preamble}, Sections.{Sections}}, text.{Blame.{Blame}, Text.{Text}}}
use Rattle.numbers.specs.Answer as A

-- ---- where a string ends
abbrev behind : Numeral → ℕ
behind number = if ltb number.value 256 then number.place + number.value else number.place

-- the number at its front, and the place to read on from
record Begun (strict : Bool) (file : List ℕ) (place next : ℕ) : Type 0 where
  number : Numeral
  reads : found number ≡ reading_of strict file place
  goes : next ≡ behind number

inside_next : (file : List ℕ) (text : Text) {t : Text} → found t ≡ within file text → t.next ≡ text.next
unfolding within
inside_next file text {t} e = empty (eqb text.size 0) e where
  empty : (test : Bool) → found t ≡ (if test then found (record { start = 0; size = 0; next = text.next }) else (if leb (text.start + text.size)
      (length file) then found text else A.refused 14)) → t.next ≡ text.next
  empty true e = ap (λ (x : Text). x.next) (found_one e)
  empty false e = ap (λ (x : Text). x.next) (found_one (whole (leb (text.start + text.size) (length file)) e)) where
    whole : (test : Bool) → found t ≡ (if test then found text else A.refused 14) → found t ≡ found text
    whole true e = e
    whole false e = let z : ◌≡◌ {A = ℕ} 0 1 = cc in absurd (omega arith)

remote_next : (strict : Bool) (file : List ℕ) (place next : ℕ) {t : Text} → found t ≡ remote_at strict file place next → t.next ≡ next
unfolding remote_at
remote_next strict file place next e = let read = found_from (reading_of strict file place) _ e in
    inside_next file _ (not_failed (leb read.it.value 256) read.onto).1

string_begun : (strict : Bool) (file : List ℕ) (metadata place : ℕ) {t : Text} → found t ≡ string_at strict file metadata place → Begun strict file place t.next
unfolding string_at
string_begun strict file metadata place {t} e = let read = found_from (reading_of strict file place) _ e in let number = read.it in
    record { number = number; reads = read.is; goes = near number ((metadata + number.value - 256) % 2 ^ 32) (ltb number.value 256) read.onto } where
      near : (number : Numeral) (away : ℕ) (test : Bool)
          → found t ≡ (if test then within file (record { start = number.place; size = number.value; next = number.place + number.value }) else remote_at strict file away number.place)
          → t.next ≡ (if test then number.place + number.value else number.place)
      near number away true e = inside_next file _ e
      near number away false e = remote_next strict file away number.place e

text_begun : (strict : Bool) (file : List ℕ) (metadata place : ℕ) (blame : Blame) {text : Text} → given text ≡ text_at strict file metadata place blame → Begun strict file place text.next
unfolding text_at
text_begun strict file metadata place blame {text} e = go (string_at strict file metadata place) refl e where
  read : (t : Text) (test : Bool) → given text ≡ (if test then given t else refused (refusal blame.number not_utf8 blame.detail)) → text ≡ t
  read t true e = given_one e
  read t false e = let z : ◌≡◌ {A = ℕ} 0 1 = cc in absurd (omega arith)

  go : (answer : Answer Text) → answer ≡ string_at strict file metadata place → given text ≡ or_blamed file blame answer → Begun strict file place text.next
  go (found t) s e = let same : text ≡ t = read t (is_utf8 (bytes_of file t)) e in rw same (string_begun strict file metadata place s)
  go A.failed s e = let z : ◌≡◌ {A = ℕ} 0 1 = cc in absurd (omega arith)
  go (A.refused n) s e = let z : ◌≡◌ {A = ℕ} 0 1 = cc in absurd (omega arith)

-- a number ends behind its place
past : (strict : Bool) (file : List ℕ) (place : ℕ) {number : Numeral} → found number ≡ reading_of strict file place → place < number.place
past strict file place e = all_found (λ (n : Numeral). place < n.place) (reading_of strict file place) e (reading_grows strict file place)

behind_upto : (number : Numeral) → number.place ≤ behind number
behind_upto number = go (ltb number.value 256) where
  go : (test : Bool) → number.place ≤ (if test then number.place + number.value else number.place)
  go true = omega arith
  go false = omega arith

-- ---- so the strings end behind their first place
texts_upto : (strict : Bool) (file : List ℕ) (names more index place : ℕ) {t : Texts} → given t ≡ texts_from strict file names more index place → place ≤ t.place
unfolding texts_from
texts_upto strict file names zero index place e = omega (arith, ap (λ (x : Texts). x.place) (given_one e))
texts_upto strict file names (suc more) index place {t} e = let text = given_from (text_at strict file 0 place (blame_of names index)) _ e in
    let rest = given_from (texts_from strict file names more (index + 1) text.it.next) _ text.onto in
    let begun = text_begun strict file 0 place (blame_of names index) text.is in
    let ends : t.place ≡ rest.it.place = ap (λ (x : Texts). x.place) (given_one rest.onto) in
    let onward = texts_upto strict file names more (index + 1) text.it.next rest.is in
    omega (arith, ends, onward, begun.goes, behind_upto begun.number, past strict file place begun.reads)

sections_begin : (strict : Bool) (file : List ℕ) (place : ℕ) {s : Sections} → given s ≡ sections_at strict file place → place ≤ s.metadata
sections_begin strict file place {s} e = let a = sized strict file place e in
    omega (
      arith,
      a.metadata,
      past strict file place a.first_read,
      past strict file a.first.place a.second_read,
      past strict file a.second.place a.third_read,
    )

-- ---- the first bytes
first_same : (l l' : List ℕ) (end i : ℕ) → take end l ≡ take end l' → i < end → get_or l i 0 ≡ get_or l' i 0
first_same l l' zero i e h = absurd (omega arith)
first_same [] [] (suc end) i e h = refl
first_same [] (y ∷ l') (suc end) i e h = let z : ◌≡◌ {A = ℕ} 0 1 = cc in absurd (omega arith)
first_same (x ∷ l) [] (suc end) i e h = let z : ◌≡◌ {A = ℕ} 0 1 = cc in absurd (omega arith)
first_same (x ∷ l) (y ∷ l') (suc end) zero e h = cc
first_same (x ∷ l) (y ∷ l') (suc end) (suc i) e h = let rest : take end l ≡ take end l' = cc in first_same l l' end i rest (omega arith)

preamble_form : (file : List ℕ) {p : Preamble} → given p ≡ preamble_of file → p ≡ record { kind = get_or file 3 0; version = get_or file 4 0; precision = get_or file 5 0; count = get_or file 6 0 }
unfolding preamble_of
preamble_form file e = let a = demanded (leb (length file) (2 ^ 30)) (plain 1) e in
    let c = demanded (eqb (magic_of file) 0x504C42) (refusal 3 0 (magic_of file)) (demanded (leb 7 (length file)) (refusal 2 0 (length file)) a.1).1 in
    given_one (demanded (ltb (get_or file 4 0) 2) (refusal 5 0 (get_or file 4 0)) (demanded (is_kind (get_or file 3 0)) (refusal 4 0 (get_or file 3 0)) c.1).1).1

module _ (strict : Bool) (file file' : List ℕ) (end : ℕ) (long : length file ≡ length file') (bytes : take end file ≡ take end file') where
  number_same : (place : ℕ) {n n' : Numeral} → found n ≡ reading_of strict file place → found n' ≡ reading_of strict file' place → n.place ≤ end → n ≡ n'
  number_same place e e' h = found_one (reading_alike file file' end long bytes strict place e h ∙ sym e')

  texts_same : (names more index place : ℕ) {t t' : Texts} → given t ≡ texts_from strict file names more index place → given t' ≡ texts_from strict file' names more index place
      → t.place ≤ end → t.place ≡ t'.place
  unfolding texts_from
  texts_same names zero index place e e' h = ap (λ (x : Texts). x.place) (given_one (e ∙ sym e'))
  texts_same names (suc more) index place {t} {t'} e e' h = let blame = blame_of names index in let text = given_from (text_at strict file 0 place blame) _ e in
      let text' = given_from (text_at strict file' 0 place blame) _ e' in
      let rest = given_from (texts_from strict file names more (index + 1) text.it.next) _ text.onto in
      let rest' = given_from (texts_from strict file' names more (index + 1) text'.it.next) _ text'.onto in
      let begun = text_begun strict file 0 place blame text.is in let begun' = text_begun strict file' 0 place blame text'.is in
      let ends : t.place ≡ rest.it.place = ap (λ (x : Texts). x.place) (given_one rest.onto) in
      let ends' : t'.place ≡ rest'.it.place = ap (λ (x : Texts). x.place) (given_one rest'.onto) in
      let onward = texts_upto strict file names more (index + 1) text.it.next rest.is in
      let in_end : begun.number.place ≤ end = omega (arith, h, ends, onward, begun.goes, behind_upto begun.number) in
      let next : text.it.next ≡ text'.it.next = begun.goes ∙ ap behind (number_same place begun.reads begun'.reads in_end) ∙ sym begun'.goes in
      let there = subst (λ (k : ℕ). given rest'.it ≡ texts_from strict file' names more (index + 1) k) (sym next) rest'.is in
      ends ∙ texts_same names more (index + 1) text.it.next rest.is there (omega (arith, h, ends)) ∙ sym ends'

  sections_same : (place : ℕ) {s s' : Sections} → given s ≡ sections_at strict file place → given s' ≡ sections_at strict file' place → s.metadata ≤ end → s ≡ s'
  sections_same place {s} {s'} e e' h = let a = sized strict file place e in let b = sized strict file' place e' in
      let third_in : a.third.place ≤ end = omega (arith, h, a.metadata) in
      let second_in : a.second.place ≤ end = omega (arith, third_in, past strict file a.second.place a.third_read) in
      let first_in : a.first.place ≤ end = omega (arith, second_in, past strict file a.first.place a.second_read) in
      let one : a.first ≡ b.first = number_same place a.first_read b.first_read first_in in
      let read-two = subst (λ (n : Numeral). found b.second ≡ reading_of strict file' n.place) (sym one) b.second_read in
      let two : a.second ≡ b.second = number_same a.first.place a.second_read read-two second_in in
      let read-three = subst (λ (n : Numeral). found b.third ≡ reading_of strict file' n.place) (sym two) b.third_read in
      let three : a.third ≡ b.third = number_same a.second.place a.third_read read-three third_in in
      let table : s.table ≡ s'.table = a.table ∙ ap (λ (n : Numeral). n.place) three ∙ sym b.table in
      let metadata : s.metadata ≡ s'.metadata = a.metadata ∙ (λ i. (three i).place + (one i).value % 2 ^ 32) ∙ sym b.metadata in
      let places : s.«data» ≡ s'.«data» = a.data_stands ∙ (λ i. (three i).place + ((one i).value % 2 ^ 32 + (two i).value % 2 ^ 32)) ∙ sym b.data_stands in
      λ i. record { table = table i; metadata = metadata i; «data» = places i }

  preamble_same : 7 ≤ end → {p p' : Preamble} → given p ≡ preamble_of file → given p' ≡ preamble_of file' → p ≡ p'
  preamble_same h e e' = let at : (i : ℕ) → i < 7 → get_or file i 0 ≡ get_or file' i 0 = λ i l. first_same file file' end i bytes (omega (arith, h, l)) in
      let three = at 3 (omega arith) in let four = at 4 (omega arith) in let five = at 5 (omega arith) in let six = at 6 (omega arith) in
      preamble_form file e ∙ (λ i. record { kind = three i; version = four i; precision = five i; count = six i }) ∙ sym (preamble_form file' e')

-- Two files of one length that open, with the same bytes up to the metadata start of the first, have the same header.
pub same_head : (strict : Bool) (file file' : List ℕ) {head head' : Head} → given head ≡ head_by strict file → given head' ≡ head_by strict file' → length file ≡ length file'
    → take head.sections.metadata file ≡ take head.sections.metadata file' → head ≡ head'
same_head strict file file' {head} {head'} e e' long bytes = let end = head.sections.metadata in let names = head.preamble.count in
    let o = read_from strict file e in let o' = read_from strict file' e' in let begins = sections_begin strict file o.texts.place o.sections in
    let from-seven = texts_upto strict file names (names + 1) 0 7 o.texts_are in
    let one : head.preamble ≡ head'.preamble = preamble_same strict file file' end long bytes (omega (arith, begins, from-seven)) o.preamble o'.preamble in
    let texts = subst (λ (x : Preamble). given o'.texts ≡ texts_from strict file' x.count (x.count + 1) 0 7) (sym one) o'.texts_are in
    let two : o.texts.place ≡ o'.texts.place = texts_same strict file file' end long bytes names (names + 1) 0 7 o.texts_are texts begins in
    let there = subst (λ (k : ℕ). given head'.sections ≡ sections_at strict file' k) (sym two) o'.sections in
    let three : head.sections ≡ head'.sections = sections_same strict file file' end long bytes o.texts.place o.sections there (le_refl end) in
    let four : head.strict ≡ head'.strict = o.strictly ∙ sym o'.strictly in λ i. record { preamble = one i; sections = three i; strict = four i }

-- A header's metadata start fits 32 bits.
pub metadata_small : (strict : Bool) (file : List ℕ) {head : Head} → given head ≡ head_by strict file → head.sections.metadata < 2 ^ 32
metadata_small strict file e = let o = read_from strict file e in let a = sized strict file o.texts.place o.sections in
    omega (arith, a.metadata, a.data_stands, a.small)
