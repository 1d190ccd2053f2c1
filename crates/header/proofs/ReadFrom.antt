-- A file that has a header: from what each part of it was read, and what its three sizes say. Assumes nothing.
use Rattle.numbers.proofs.Prelude.{ℕ, ◌+◌, ◌%◌, ◌^◌, ◌≤◌, ◌<◌, leb-true, ltb-true, eqb-true, eqb, ltb, leb, length, Bool, List, ◌≡◌, refl, ap, arith}
use Rattle.numbers.{proofs.Replies.{given_from, given_one, demanded}, specs.{Answer.{found}, Reply.{given, refusal, plain}, Varint.{Numeral, reading_of}}}
use Rattle.header.proofs.Strings.{given_found}
use Rattle.header.specs.{Header.{preamble_of, Texts, texts_of, size_at, sections_from, sections_at, contents_by, head_by}, declared.header.{Head.{Head}, Preamble.{Preamble}, Sections.{Sections}}}

pub record ReadFrom (strict : Bool) (file : List ℕ) (head : Head) : Type 0 where
  pub strictly : head.strict ≡ strict
  pub preamble : given head.preamble ≡ preamble_of file
  pub texts : Texts
  pub texts_are : given texts ≡ texts_of strict file head.preamble.count
  pub sections : given head.sections ≡ sections_at strict file texts.place
  pub contents : given (record { head = head; bytes = texts.bytes }) ≡ contents_by strict file

pub read_from : (strict : Bool) (file : List ℕ) {head : Head} → given head ≡ head_by strict file → ReadFrom strict file head
unfolding head_by contents_by
read_from strict file e = let c = given_from (contents_by strict file) _ e in let p = given_from (preamble_of file) _ c.is in
    let t = given_from (texts_of strict file p.it.count) _ p.onto in let s = given_from (sections_at strict file t.it.place) _ t.onto in
    let same = given_one c.onto in let made = given_one s.onto in
    rw (same, made) (record { strictly = refl; preamble = p.is; texts = t.it; texts_are = t.is; sections = s.is; contents = rw (← made) c.is })

-- at most 1 GiB, and seven bytes or more
pub record Long (file : List ℕ) : Type 0 where
  pub small : length file ≤ 2 ^ 30
  pub seven : 7 ≤ length file

pub long_of : (file : List ℕ) {preamble : Preamble} → given preamble ≡ preamble_of file → Long file
unfolding preamble_of
long_of file e = let one = demanded (leb (length file) (2 ^ 30)) (plain 1) e in
    record { small = leb-true _ _ one.0; seven = leb-true _ _ (demanded (leb 7 (length file)) (refusal 2 0 (length file)) one.1).0 }

pub opened_small : (strict : Bool) (file : List ℕ) {head : Head} → given head ≡ head_by strict file → length file ≤ 2 ^ 30
opened_small strict file e = (long_of file (read_from strict file e).preamble).small

-- the three sizes that sections were given from: the table begins behind the third
pub record Sized (strict : Bool) (file : List ℕ) (place : ℕ) (s : Sections) : Type 0 where
  pub first : Numeral
  pub second : Numeral
  pub third : Numeral
  pub first_read : found first ≡ reading_of strict file place
  pub second_read : found second ≡ reading_of strict file first.place
  pub third_read : found third ≡ reading_of strict file second.place
  pub table : s.table ≡ third.place
  pub metadata : s.metadata ≡ third.place + first.value % 2 ^ 32
  pub data_stands : s.«data» ≡ third.place + (first.value % 2 ^ 32 + second.value % 2 ^ 32)
  pub small : s.«data» < 2 ^ 32
  pub exact : third.value + s.«data» ≡ length file

pub sized : (strict : Bool) (file : List ℕ) (place : ℕ) {s : Sections} → given s ≡ sections_at strict file place → Sized strict file place s
unfolding sections_at sections_from
sized strict file place {s} e = let first = given_from (size_at strict file place 8) _ e in
    let second = given_from (size_at strict file first.it.place 9) _ first.onto in let sum = first.it.value % 2 ^ 32 + second.it.value % 2 ^ 32 in
    let fits = demanded (ltb sum (2 ^ 32)) (plain 13) second.onto in let third = given_from (size_at strict file second.it.place 10) _ fits.1 in
    let end = third.it.place + sum in let one = demanded (ltb end (2 ^ 32)) (plain 13) third.onto in
    let two = demanded (ltb (third.it.value + end) (2 ^ 64)) (plain 13) one.1 in
    let three = demanded (eqb (third.it.value + end) (length file)) (refusal 11 0 (third.it.value + end)) two.1 in let form = given_one three.1 in
    let data_stands = ap (λ (x : Sections). x.«data») form in record {
      first = first.it;
      second = second.it;
      third = third.it;
      first_read = given_found (plain 8) (reading_of strict file place) first.is;
      second_read = given_found (plain 9) (reading_of strict file first.it.place) second.is;
      third_read = given_found (plain 10) (reading_of strict file second.it.place) third.is;
      table = ap (λ (x : Sections). x.table) form;
      metadata = ap (λ (x : Sections). x.metadata) form;
      data_stands = data_stands;
      small = omega (arith, data_stands, ltb-true end (2 ^ 32) one.0);
      exact = omega (arith, data_stands, eqb-true (third.it.value + end) (length file) three.0);
    }
