-- A salvaged file opens, plainly and strictly, with the type, version, precision, names and notice of the old one. Assumes nothing.
use Rattle.numbers.proofs.Prelude.{ℕ, ◌+◌, ◌^◌, ◌≤◌, leb, length, take, Bool, true, false, List, [], ◌∷◌, ◌++◌, ◌⊎◌, inl, inr, ◌≡◌, refl, sym, ap, ◌∙◌, arith}
use Rattle.numbers.specs.{Reply.{Reply, given, refused, plain, demand, ◌>>◌}, Spelling.{varint_of}}
use Rattle.border.proofs.{AtPlace.{at_behind, number_at}, OnWay.{at_first, at_next}}
use Rattle.header.{proofs.StrictHead.{strict_open_or_plain}, specs.{Header.{preamble_of, texts_of, sections_at, Contents, contents_by, head_by}, Opening.{fitting_of, Replied, replied_of, opened_by}}}
use Rattle.header.specs.declared.{header.Head.{Head}, opening.Opening.{Opening}}
use Rattle.salvage.specs.{File.{head_texts, table_from, metadata_of, new_file}, Salvage.{Salvaged, salvaged_of}}
use Rattle.table.specs.declared.rows.Row.{Row}
use Rattle.promises.proofs.Salvaged.{Opened.{Opened, Seven, opened_from, opened_seven, preamble_again}, Parts.{made_from, data_in, sizes, sections, in_parts, at_sizes, new_length}}
use Rattle.promises.proofs.Salvaged.TextsAgain.{SameNames, Both, texts_again}
use Rattle.promises.specs.{Salvaged.Opens.{OpensStrictly}, inner.Salvaged.Seats.{table_place, new_head}}
use Rattle.header.proofs.ReadBack as R

module _ (file : List ℕ) (head : Head) (texts : List ℕ) (kept : List Row) (new : List ℕ) (is : new ≡ new_file file head texts kept) (small : length new ≤ 2 ^ 30)
    (opens : head_by true file ≡ given head) (inline : head_texts file head ≡ given texts) (strict : Bool) where
  opened : Opened file head
  opened = opened_from file head opens

  abbrev s : Seven file
  s = opened_seven file head opened

  abbrev seven : List ℕ
  seven = s.b0 ∷ s.b1 ∷ s.b2 ∷ s.b3 ∷ s.b4 ∷ s.b5 ∷ s.b6 ∷ []

  first_seven : take 7 file ≡ seven
  first_seven = ap (take 7) s.are

  abbrev behind : List ℕ
  behind = sizes file head texts kept new is ++ sections file head texts kept new is

  in_seven : new ≡ seven ++ (texts ++ behind)
  in_seven = in_parts file head texts kept new is ∙ ap (λ (f : List ℕ). (f ++ texts) ++ behind) first_seven

  header_length : 7 + length texts ≡ length (take 7 file ++ texts)
  header_length = omega (arith, ap (λ (f : List ℕ). length (f ++ texts)) first_seven)

  read_preamble : preamble_of new ≡ given head.preamble
  read_preamble = preamble_again file head opened (texts ++ behind) new small in_seven

  abbrev head' : Head
  head' = new_head file head strict texts kept

  both : Both file head new head' head.preamble.count (head.preamble.count + 1) 0 7 7 opened.texts.bytes texts
  both =
      texts_again file head opened.strict new head' head.preamble.count (head.preamble.count + 1) 0 7 7 opened.texts texts opened.texts_are
      inline (at_behind seven texts behind in_seven)

  read_texts : texts_of strict new head.preamble.count ≡ given (record { bytes = opened.texts.bytes; place = length (take 7 file ++ texts) })
  unfolding new_head
  read_texts = both.opens ∙ ap (λ (n : ℕ). given (record { bytes = opened.texts.bytes; place = n })) header_length

  read_sections : sections_at strict new (length (take 7 file ++ texts)) ≡ given head'.sections
  unfolding new_head table_place
  read_sections = let p = length (take 7 file ++ texts) in let t = length (table_from file head 0 0 kept) in let m = length (metadata_of file head) in
      let d = length (data_in file head texts kept new is) in let whole = new_length file head texts kept new is in
      let first = at_sizes file head texts kept new is in let second = at_next new p (varint_of t) (varint_of m ++ varint_of d) first in
      let third = at_next new (p + length (varint_of t)) (varint_of m) (varint_of d) second in
      R.sections_are strict new p (p + length (varint_of t)) (p + length (varint_of t) + length (varint_of m)) (p + length (varint_of t) + length (varint_of m)
      + length (varint_of d)) t m d small (number_at strict new p t (omega arith) (at_first new p (varint_of t) (varint_of m ++ varint_of d) first))
      (number_at strict new (p + length (varint_of t)) m (omega arith) (at_first new (p + length (varint_of t)) (varint_of m) (varint_of d) second))
      (number_at strict new (p + length (varint_of t) + length (varint_of m)) d (omega arith) third) whole

  contents_are : contents_by strict new ≡ given (record { head = head'; bytes = opened.texts.bytes })
  unfolding new_head
  contents_are = R.contents_are strict new head.preamble (record { bytes = opened.texts.bytes; place = length (take 7 file ++ texts) }) head'.sections read_preamble read_texts read_sections

  -- it opens, and says all that the old one said
  pub new_opens : head_by strict new ≡ given (new_head file head strict texts kept)
  new_opens = R.head_is strict new (record { head = head'; bytes = opened.texts.bytes }) contents_are

  -- its texts, written again, are the same bytes
  pub texts_inline : head_texts new (new_head file head strict texts kept) ≡ given texts
  unfolding new_head
  texts_inline = both.inline

  -- they are the old ones
  pub names_alike : SameNames file new head (new_head file head strict texts kept) head.preamble.count (head.preamble.count + 1) 0 7 7
  names_alike = both.names_same

  pub first_bytes : take 7 new ≡ take 7 file
  first_bytes = ap (take 7) in_seven ∙ sym first_seven

  -- opened with so much room for text, it replies and lends what the old one does
  pub opens_so : (room : ℕ) → opened_by strict new room ≡ opened_by true file room
  unfolding opened_by fitting_of new_head
  opens_so room = rw (contents_are, opened.contents) (go (leb (length opened.texts.bytes) room)) where
    go : (fits : Bool) → replied_of room (demand fits (plain 18) >> given (record { head = head'; bytes = opened.texts.bytes })) ≡ replied_of room
        (demand fits (plain 18) >> given (record { head = head; bytes = opened.texts.bytes }))
    go true = refl
    go false = refl

-- ---- the old file, which opens strictly, opens plainly to the same
module _ (file : List ℕ) (head : Head) (opens : head_by true file ≡ given head) (room : ℕ) where
  old : Opened file head
  old = opened_from file head opens

  abbrev fitting : Bool
  fitting = leb (length old.texts.bytes) room

  strictly_so : opened_by true file room ≡ replied_of room (demand fitting (plain 18) >> given (record { head = head; bytes = old.texts.bytes }))
  unfolding opened_by fitting_of
  strictly_so = rw old.contents

  abbrev number_in : Reply Opening → ℕ
  number_in (given opening) = 0
  number_in (refused why) = why.number

  never_cut : (contents : Contents) (fits : Bool) → (replied_of room (demand fits (plain 18) >> given contents)).reply ≡ refused (plain 31) → ⊥
  never_cut contents true e = let z : ◌≡◌ {A = ℕ} 0 31 = ap number_in e in omega arith
  never_cut contents false e = let z : ◌≡◌ {A = ℕ} 18 31 = ap number_in e in omega arith

  plainly_so : opened_by true file room ≡ opened_by false file room
  plainly_so = go (strict_open_or_plain file room) where
    go : (opened_by true file room ≡ replied_of room (refused (plain 31))) ⊎ (opened_by true file room ≡ opened_by false file room) → opened_by true file room ≡ opened_by false file room
    go (inl e) = absurd (never_cut (record { head = head; bytes = old.texts.bytes }) fitting (ap (λ (r : Replied). r.reply) (sym strictly_so ∙ e)))
    go (inr e) = e

  pub opens_either : (strict : Bool) → opened_by true file room ≡ opened_by strict file room
  opens_either true = refl
  opens_either false = plainly_so

-- ---- `salvaged_opens_alike`
-- The result of a salvage, opened plainly or strictly and with whatever room for text, gives the reply and the text of the old file: type, version, precision, number of names, names and notice.
pub salvaged_opens_alike : (file : List ℕ) (words room : ℕ) (s : Salvaged) → salvaged_of file words room ≡ given s → (strict strict' : Bool) (text : ℕ)
    → opened_by strict s.file text ≡ opened_by strict' file text
salvaged_opens_alike file words room s e strict strict' text = let m = made_from file words room s e in
    opens_so file m.head m.texts s.kept s.file m.is m.small m.opens m.inline strict text ∙ opens_either file m.head m.opens text strict'

-- ---- `salvaged_strict`
-- The result of a salvage opens strictly.
pub salvaged_strict : (file : List ℕ) (words room : ℕ) (s : Salvaged) → salvaged_of file words room ≡ given s → OpensStrictly s.file
salvaged_strict file words room s e = let m = made_from file words room s e in
    record { head = new_head file m.head true m.texts s.kept; opens = new_opens file m.head m.texts s.kept s.file m.is m.small m.opens m.inline true }
