-- `salvage_kept` in the plain reading of both files. Assumes nothing.
use Rattle.numbers.{proofs.Prelude.{ℕ, true, false, List, ◌≡◌, sym, subst, ◌∙◌}, specs.Reply.{given}}
use Rattle.header.specs.{Header.{head_by}, declared.header.Head.{Head}}
use Rattle.salvage.{proofs.data.Drawing.{kept_closes}, specs.{Promises.{KeptEntry, KeptAs, none, some}, Salvage.{Salvaged, salvaged_of}}}
use Rattle.table.specs.{Rows.{as_rows}, declared.rows.Row.{Row}}
use Rattle.promises.proofs.Salvaged.{Carried.{Carried, AllCarried, no_rows, next_row}, KeptAgain.{values_same, kept_entry, shifted, rows_are, rows_carried}, Opens.{new_opens}}
use Rattle.promises.proofs.Salvaged.{Parts.{made_from}, PlainOld.{plainly, plain_head, plain_judged, plain_texts}, Sound.{Every, Sound, kept_sound}}
use Rattle.promises.specs.{Salvaged.Opens.{KeptPlainly}, inner.Salvaged.Seats.{new_head}}
use Rattle.promises.proofs.Salvaged.Sound as E

module _ (file : List ℕ) (head : Head) (opens : head_by true file ≡ given head) (new : List ℕ) (head' : Head) (preamble : head'.preamble ≡ head.preamble) where
  plain_entry : {old r : Row} → Sound file head old → Carried file new head head' old r → KeptEntry file new (plainly file head opens) head' old r
  plain_entry {old} sound c = let kept = kept_entry preamble c in record {
    box = kept.box;
    id = kept.id;
    strings = kept.strings ∙ sym (values_same (plain_texts file head opens old sound.good));
    border = λ lat lon asked least. kept.border lat lon asked least ∙ sym (plain_judged file head opens old (kept_closes file head old sound.good)
        (record { lat = lat; lon = lon }) asked least);
  }

  plain_entries : {olds rows : List Row} → Every (Sound file head) olds → AllCarried file new head head' olds rows → KeptAs file new (plainly file head opens) head' olds (as_rows rows)
  unfolding as_rows
  plain_entries E.none no_rows = none
  plain_entries (E.one sound more) (next_row c later) = some (plain_entry sound c) (plain_entries more later)

-- Read plainly, the new file's entries are the kept ones too, each with the box, metadata id and strings that it has in the old file read plainly, and with a border that gives the same judgements.
pub salvage_kept_plainly : (file : List ℕ) (words room : ℕ) (s : Salvaged) → salvaged_of file words room ≡ given s → KeptPlainly file s
salvage_kept_plainly file words room s e = let m = made_from file words room s e in
    let sound : Every (Sound file m.head) s.kept = subst (λ (rows : List Row). Every (Sound file m.head) rows) (sym m.kept_are) (kept_sound file m.head) in
    let head' = new_head file m.head false m.texts s.kept in
    let shift = shifted file m.head m.texts s.kept s.file m.is m.small m.opens sound false in
    let rows = rows_are file m.head m.texts s.kept s.file m.is m.small m.opens sound false in
    let carried = rows_carried file m.head m.texts s.kept s.file m.is m.small m.opens sound false in record {
      old_head = plainly file m.head m.opens;
      new_head = head';
      old_opens = plain_head file m.head m.opens;
      new_opens = new_opens file m.head m.texts s.kept s.file m.is m.small m.opens m.inline false;
      entries = subst (KeptAs file s.file (plainly file m.head m.opens) head' s.kept) (sym rows) (plain_entries file m.head m.opens s.file head' shift.preamble sound carried);
    }
