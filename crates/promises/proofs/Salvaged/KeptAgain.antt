-- `salvage_kept`: a salvaged file opens strictly, and its entries are exactly the kept ones, in order, each with its old box, metadata id and strings, and with a border
-- that gives the verdict and distance it gave before, at every location. Assumes nothing.
use Rattle.numbers.proofs.Prelude.{ℕ, suc, ◌+◌, ◌-◌, ◌^◌, ◌≤◌, length, drop, length-drop, length-take-le, Bool, true, List, ◌∷◌, flat_map, ◌≡◌, refl, sym, ap, subst, ◌∙◌, arith}
use Rattle.numbers.{proofs.Replies.{given_one}, specs.Reply.{Reply, given, ◌>>=◌}}
use Rattle.header.specs.{Header.{head_by}, Text.{bytes_of, text_at}, declared.{header.{Head.{Head}, Preamble.{Preamble}}, text.Text.{Text}}}
use Rattle.salvage.{proofs.moves.Again.{same_judgement}, specs.{File.{border_bytes, table_from, metadata_of, new_file}, Kept.{encoding_in, border_place, record_place}}}
use Rattle.salvage.specs.Promises.{values_from, KeptEntry, KeptAs, none, some, KeptFile, SalvageKept}
use Rattle.table.specs.{Rows.{rows_in, as_rows}, declared.rows.Row.{Row}}
use Rattle.promises.proofs.Salvaged.{Carried.{SameTexts, no_more, one_more, Shifted, Carried, AllCarried, no_rows, next_row, all_carried}, Opened.{Opened, opened_from, opened_small}}
use Rattle.promises.proofs.Salvaged.{Opens.{new_opens}, Parts.{made_from, at_table, at_metadata, at_data, new_length}, Sound.{Every, Sound, kept_sound}, TableAgain.{rows_read, entries_many}}
use Rattle.border.proofs.AtPlace.{at_place}
use Rattle.promises.specs.inner.Salvaged.Seats.{table_place, new_head, seats_of}

-- ---- the values of a record
values_step : (file : List ℕ) (head : Head) (more place : ℕ) (text : Text) → text_at head.strict file head.sections.metadata place (record { number = 15; detail = 0 }) ≡ given text
    → values_from file head (suc more) place ≡ (values_from file head more text.next >>= λ rest. given (bytes_of file text ∷ rest))
unfolding values_from
values_step file head more place text e = rw e

pub values_same : {file new : List ℕ} {head head' : Head} {more place place' : ℕ} → SameTexts file new head head' more place place'
    → values_from new head' more place' ≡ values_from file head more place
unfolding values_from
values_same no_more = refl
values_same {file} {new} {head} {head'} {more = suc more} {place = place} {place' = place'} (one_more text text' reads reads' bytes placed later) =
    values_step new head' more place' text' reads' ∙ ap (λ (v : Reply (List (List ℕ))). v >>= λ rest. given (bytes_of new text' ∷ rest)) (values_same later)
    ∙ ap (λ (b : List ℕ). values_from file head more text.next >>= λ rest. given (b ∷ rest)) bytes ∙ sym (values_step file head more place text reads)

pub kept_entry : {file new : List ℕ} {head head' : Head} {old r : Row} → head'.preamble ≡ head.preamble → Carried file new head head' old r → KeptEntry file new head head' old r
kept_entry {file} {new} {head} {head'} {old} {r} preamble c =
    record {
      box = c.box;
      id = c.id;
      strings = ap (λ (p : Preamble). values_from new head' p.count (record_place new head' r)) preamble ∙ values_same c.texts;
      border = same_judgement file new (encoding_in file head) (encoding_in new head') (border_place file head old) (border_place new head' r) c.border;
    }

kept_as : {file new : List ℕ} {head head' : Head} {olds rows : List Row} → head'.preamble ≡ head.preamble → AllCarried file new head head' olds rows → KeptAs file new head head' olds (as_rows rows)
unfolding as_rows
kept_as preamble no_rows = none
kept_as preamble (next_row c later) = some (kept_entry preamble c) (kept_as preamble later)

-- ---- the new file's rows
module _ (file : List ℕ) (head : Head) (texts : List ℕ) (kept : List Row) (new : List ℕ) (is : new ≡ new_file file head texts kept) (small : length new ≤ 2 ^ 30)
    (opens : head_by true file ≡ given head) (sound : Every (Sound file head) kept) where
  opened : Opened file head
  opened = opened_from file head opens

  whole : table_place file head texts kept + (length (table_from file head 0 0 kept) + (length (metadata_of file head) + length (flat_map (border_bytes file head) kept))) ≡ length new
  whole = new_length file head texts kept new is

  metadata_length : length (metadata_of file head) ≡ head.sections.«data» - head.sections.metadata
  metadata_length =
      length-take-le (head.sections.«data» - head.sections.metadata) (drop head.sections.metadata file)
      (omega (arith, length-drop head.sections.metadata file, opened.inside, opened.in_order))

  module _ (strict : Bool) where
    pub shifted : Shifted file head new (new_head file head strict texts kept)
    unfolding new_head
    shifted =
        record {
          is_strict = opened.strict;
          in_order = opened.in_order;
          inside = opened.inside;
          small = opened_small file head opened;
          there = at_metadata file head texts kept new is;
          ends = omega (arith, metadata_length);
          inside' = omega (arith, whole);
          small' = small;
          preamble = refl;
        }

    pub rows_are : rows_in new (new_head file head strict texts kept) ≡ as_rows (seats_of file head texts kept)
    unfolding rows_in new_head seats_of
    rows_are =
        rows_read file head strict new (table_place file head texts kept + length (table_from file head 0 0 kept)) kept sound (table_place file head texts kept) 0
        0 0 0 (omega arith) (omega (arith, whole, small)) (at_table file head texts kept new is) refl (omega (arith, entries_many file head kept sound 0 0, whole, small))

    pub rows_carried : AllCarried file new head (new_head file head strict texts kept) kept (seats_of file head texts kept)
    unfolding new_head seats_of
    rows_carried = let start = table_place file head texts kept + (length (table_from file head 0 0 kept) + length (metadata_of file head)) in
        let none_yet : start ≡ start + (0 + 0) = omega arith in
        all_carried file head new (new_head file head strict texts kept) shifted kept sound (table_place file head texts kept) 0 0 0 0 (at_place none_yet
        (at_data file head texts kept new is)) (omega (arith, whole, small))

-- ---- the theorem
pub salvage_kept : SalvageKept
salvage_kept file words room head s opens e =
    let m = made_from file words room s e in
    let same : m.head ≡ head = given_one (sym m.opens ∙ opens) in
    let sound : Every (Sound file m.head) s.kept = subst (λ (rows : List Row). Every (Sound file m.head) rows) (sym m.kept_are) (kept_sound file m.head) in
    let head' = new_head file m.head true m.texts s.kept in
    let shift = shifted file m.head m.texts s.kept s.file m.is m.small m.opens sound true in
    let rows = rows_are file m.head m.texts s.kept s.file m.is m.small m.opens sound true in
    let carried = rows_carried file m.head m.texts s.kept s.file m.is m.small m.opens sound true in
    let made : KeptFile file m.head s.file s.kept = record {
      new_head = head';
      opens = new_opens file m.head m.texts s.kept s.file m.is m.small m.opens m.inline true;
      entries = subst (KeptAs file s.file m.head head' s.kept) (sym rows) (kept_as shift.preamble carried);
    } in
    subst (λ (h : Head). KeptFile file h s.file s.kept) same made
