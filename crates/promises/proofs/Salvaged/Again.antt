-- `salvage_again`: salvaging the result of a salvage gives it back, with an empty list. Assumes nothing.
use Rattle.numbers.proofs.Prelude.{ℕ, suc, ◌+◌, ◌-◌, ◌^◌, ◌≤◌, ◌<◌, min, lt-ltb, le-leb, length, take, drop, true, List, [], ◌∷◌, ◌++◌, flat_map, ◌≡◌, refl, sym, ap, subst, ◌∙◌, arith}
use Rattle.numbers.specs.{Reply.{given}, Spelling.{varint_of, signed_form}, declared.point.RawPoint.{RawPoint}}
use Rattle.border.{proofs.AtPlace.{at_take}, specs.Encoding.{version_of}}
use Rattle.header.specs.{Header.{head_by}, Text.{text_at}, declared.{header.{Head.{Head}, Preamble.{Preamble}}, text.Text.{Text}}}
use Rattle.salvage.specs.File.{head_texts, border_bytes, box_bytes, id_step, entry_bytes, table_from, metadata_of, assembled, new_file}
use Rattle.salvage.specs.Kept.{encoding_in, border_place, border_good, string_inside, field_good}
use Rattle.salvage.specs.{Kept.{fields_good, record_place, entry_good, kept_of, lines_from}, Moves.Moves.{end_of, moves_at, moves_bytes}, Promises.{SalvageAgain}, Salvage.{salvaged_of}}
use Rattle.table.specs.{Rows.{rows_in, as_rows}, declared.{rows.Row.{Row}, table.Bounds.{Bounds}}}
use Rattle.promises.proofs.Salvaged.{Carried.{SameTexts, no_more, one_more, Carried, AllCarried, no_rows, next_row}, KeptAgain.{rows_are, rows_carried}}
use Rattle.promises.proofs.Salvaged.{Opens.{new_opens, texts_inline, first_bytes}, Parts.{made_from, at_metadata}, Sound.{Every, Sound, kept_sound}}
use Rattle.promises.specs.inner.Salvaged.Seats.{table_place, new_head, seats_of}

-- ---- an entry of the new file is good
field_step : (file : List ℕ) (head : Head) (more place : ℕ) (text : Text) → text_at head.strict file head.sections.metadata place (record { number = 15; detail = 0 }) ≡ given text
    → string_inside file head place ≡ true → fields_good file head (suc more) place ≡ fields_good file head more text.next
unfolding fields_good field_good
field_step file head more place text e i = rw (e, i)

fields_good_lem : {file new : List ℕ} {head head' : Head} {more place place' : ℕ} → SameTexts file new head head' more place place' → fields_good new head' more place' ≡ given tt
unfolding fields_good
fields_good_lem no_more = refl
fields_good_lem {new = new} {head' = head'} {more = suc more} {place' = place'} (one_more text text' reads reads' bytes placed later) =
    field_step new head' more place' text' reads' placed ∙ fields_good_lem later

module _ {file new : List ℕ} {head head' : Head} (preamble : head'.preamble ≡ head.preamble) where
  pub good_again : {old r : Row} → Carried file new head head' old r → entry_good new head' r ≡ given tt
  unfolding entry_good border_good
  good_again {old} {r} c =
      rw (ap end_of c.border.same_trace ∙ c.closes, ap (λ (p : Preamble). fields_good new head' p.count (record_place new head' r)) preamble ∙ fields_good_lem c.texts)

  -- its border and its entry are the same bytes
  border_again : {old r : Row} → Carried file new head head' old r → border_bytes new head' r ≡ border_bytes file head old
  unfolding border_bytes
  border_again {old} {r} c =
      ap (λ (p : Preamble). moves_bytes (version_of p.version) (moves_at new (encoding_in new head') (border_place new head' r))) preamble
      ∙ ap (λ (ms : List RawPoint). moves_bytes (version_of head.preamble.version) ms) c.border.same_moves

  entry_again : {old r : Row} (id size : ℕ) → Carried file new head head' old r → entry_bytes id size r ≡ entry_bytes id size old
  unfolding entry_bytes
  entry_again {old} {r} id size c =
      ap (λ (b : Bounds). box_bytes b ++ (varint_of (signed_form (id_step id r.metadata)) ++ varint_of size)) c.box
      ∙ ap (λ (n : ℕ). box_bytes old.bounds ++ (varint_of (signed_form (id_step id n)) ++ varint_of size)) c.id

  -- ---- so all are kept, and the sections are the same
  kept_again : {olds rows : List Row} → AllCarried file new head head' olds rows → kept_of new head' (as_rows rows) ≡ rows
  unfolding kept_of as_rows
  kept_again no_rows = refl
  kept_again (next_row {r = r} c later) = rw (good_again c) (ap (λ (rs : List Row). r ∷ rs) (kept_again later))

  lines_again : {olds rows : List Row} (number : ℕ) → AllCarried file new head head' olds rows → lines_from new head' number (as_rows rows) ≡ []
  unfolding lines_from as_rows
  lines_again number no_rows = refl
  lines_again number (next_row c later) = rw (good_again c) (lines_again (number + 1) later)

  borders_again : {olds rows : List Row} → AllCarried file new head head' olds rows → flat_map (border_bytes new head') rows ≡ flat_map (border_bytes file head) olds
  unfolding flat_map
  borders_again no_rows = refl
  borders_again (next_row {old = old} {r = r} {olds = olds} {rows = rows} c later) =
      ap (λ (b : List ℕ). b ++ flat_map (border_bytes new head') rows) (border_again c) ∙ ap (λ (b : List ℕ). border_bytes file head old ++ b) (borders_again later)

  table_again : {olds rows : List Row} (id size : ℕ) → AllCarried file new head head' olds rows → table_from new head' id size rows ≡ table_from file head id size olds
  unfolding table_from
  table_again id size no_rows = refl
  table_again id size (next_row {old = old} {r = r} {olds = olds} {rows = rows} c later) =
      ap (λ (b : List ℕ). b ++ table_from new head' r.metadata (length (border_bytes new head' r)) rows) (entry_again id size c)
      ∙ ap (λ (n : ℕ). entry_bytes id size old ++ table_from new head' n (length (border_bytes new head' r)) rows) c.id
      ∙ ap (λ (b : List ℕ). entry_bytes id size old ++ table_from new head' old.metadata (length b) rows) (border_again c)
      ∙ ap (λ (b : List ℕ). entry_bytes id size old ++ b) (table_again old.metadata (length (border_bytes file head old)) later)

  count_again : {olds rows : List Row} → AllCarried file new head head' olds rows → length rows ≡ length olds
  count_again no_rows = refl
  count_again (next_row c later) = ap suc (count_again later)

-- ---- what salvage answers, from its parts
answered : (file : List ℕ) (head : Head) (texts : List ℕ) (kept : List Row) (lines new : List ℕ) (words room : ℕ) → head_by true file ≡ given head
    → head_texts file head ≡ given texts → kept_of file head (rows_in file head) ≡ kept → lines_from file head 0 (rows_in file head) ≡ lines → new_file file head texts kept ≡ new
    → length new ≤ room → length new ≤ 2 ^ 30 → length lines ≤ words → 0 < length kept → salvaged_of file words room ≡ given (record { file = new; lines = lines; kept = kept })
unfolding salvaged_of
answered file head texts kept lines new words room a b c d e h k l n =
    rw (a, b, c, d, e, le-leb (length new) (min room (2 ^ 30)) (omega arith), le-leb (length lines) words l, lt-ltb 0 (length kept) n)

module _ (file : List ℕ) (head : Head) (texts : List ℕ) (kept : List Row) (new : List ℕ) (is : new ≡ new_file file head texts kept) (small : length new ≤ 2 ^ 30)
    (opens : head_by true file ≡ given head) (inline : head_texts file head ≡ given texts) (sound : Every (Sound file head) kept) where
  abbrev head' : Head
  head' = new_head file head true texts kept

  abbrev seats : List Row
  seats = seats_of file head texts kept

  carried : AllCarried file new head head' kept seats
  carried = rows_carried file head texts kept new is small opens sound true

  same_preamble : head'.preamble ≡ head.preamble
  unfolding new_head
  same_preamble = refl

  metadata_again : metadata_of new head' ≡ metadata_of file head
  unfolding new_head
  metadata_again = let table = table_place file head texts kept in let size = length (table_from file head 0 0 kept) in
      let n : table + (size + length (metadata_of file head)) - (table + size) ≡ length (metadata_of file head) = omega arith in
      ap (λ (k : ℕ). take k (drop (table + size) new)) n ∙ at_take (at_metadata file head texts kept new is)

  pub file_again : new_file new head' texts seats ≡ new
  unfolding new_file
  file_again =
      ap (λ (b : List ℕ). assembled (b ++ texts) (table_from new head' 0 0 seats) (metadata_of new head') (flat_map (border_bytes new head') seats))
      (first_bytes file head texts kept new is small opens inline true) ∙ ap (λ (b : List ℕ). assembled (take 7 file ++ texts) b (metadata_of new head')
      (flat_map (border_bytes new head') seats)) (table_again same_preamble 0 0 carried) ∙ ap (λ (b : List ℕ). assembled (take 7 file ++ texts)
      (table_from file head 0 0 kept) b (flat_map (border_bytes new head') seats)) metadata_again ∙ ap (λ (b : List ℕ). assembled (take 7 file ++ texts)
      (table_from file head 0 0 kept) (metadata_of file head) b) (borders_again same_preamble carried) ∙ sym is

  pub answers_again : (words room : ℕ) → length new ≤ room → 0 < length kept → salvaged_of new words room ≡ given (record { file = new; lines = []; kept = seats })
  answers_again words room fits some = let rows = rows_are file head texts kept new is small opens sound true in
      answered new head' texts seats [] new words room (new_opens file head texts kept new is small opens inline true) (texts_inline file head texts kept new is small opens inline true)
      (ap (kept_of new head') rows ∙ kept_again same_preamble carried) (ap (lines_from new head' 0) rows ∙ lines_again same_preamble 0 carried) file_again fits small (omega arith)
      (omega (arith, some, count_again same_preamble carried))

  pub counts_again : length seats ≡ length kept
  counts_again = count_again same_preamble carried

-- ---- the theorem
pub salvage_again : SalvageAgain
salvage_again file words words' room room' s e fits = let m = made_from file words room s e in
    let sound : Every (Sound file m.head) s.kept = subst (λ (rows : List Row). Every (Sound file m.head) rows) (sym m.kept_are) (kept_sound file m.head) in record {
      again = record { file = s.file; lines = []; kept = seats_of file m.head m.texts s.kept };
      answered = answers_again file m.head m.texts s.kept s.file m.is m.small m.opens m.inline sound words' room' fits m.some;
      same = record { same_file = refl; no_lines = refl; same_count = counts_again file m.head m.texts s.kept s.file m.is m.small m.opens m.inline sound };
    }
