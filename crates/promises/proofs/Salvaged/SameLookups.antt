-- `salvage_same`: where nothing was dropped, the new file gives the same matches, texts and safezone, or the same refusal, for every location, however the two files are opened: the end mark and the
-- places of the entries aside. Assumes nothing.
use Rattle.numbers.proofs.{Answers.{All, then_all, any}, Prelude.{ℕ, zero, suc, ◌+◌, ◌%◌, ◌^◌, ◌<◌, ltb, length, Bool, true, false, List, [], ◌∷◌, ◌≡◌, refl, sym, ap, subst, ◌∙◌, arith}}
use Rattle.numbers.{proofs.Readings.{Grows, reading_grows}, specs.{Answer.{Answer, found, failed, if◌then◌else◌}, Reply.{Reply, given, ◌>>=◌}, Varint.{Numeral, reading_of}}}
use Rattle.header.specs.{Header.{head_by}, declared.header.Head.{Head}}
use Rattle.salvage.{proofs.{data.Drawing.{kept_closes}, moves.Again.{same_judgement}}, specs.Kept.{encoding_in, border_place, entry_good, kept_if, line_if, kept_of, lines_from}}
use Rattle.salvage.specs.Salvage.{Salvaged, salvaged_of}
use Rattle.table.{proofs.TableRows.{rows_step}, specs.{Rows.{Rows, table_end, unreadable, after, start_at, rows_then, row_by, rows_from, rows_in, as_rows}, Table.{entry_by}}}
use Rattle.table.specs.declared.{location.Location.{Location}, rows.{Cursor.{Cursor}, Row.{Row}}, table.Entry.{Entry}}
use Rattle.zones.specs.{Fields.{fields_place}, Lent.{Outcome}, Lookup.{zones_by}, Simple.{described_with, described_in}, declared.{lookup.Zones.{Zones}, simple.Described.{Described}}}
use Rattle.promises.proofs.Salvaged.{Alike.{AllLike, none_like, next_like}, Carried.{SameTexts, AllCarried, no_rows, next_row}, DescribedAlike.{described_like}}
use Rattle.promises.proofs.Salvaged.{KeptAgain.{rows_are, rows_carried}, LookedAlike.{zones_like}, Opens.{new_opens, names_alike}, Parts.{Made, made_from, new_length}}
use Rattle.promises.proofs.Salvaged.{PlainOld.{opened, plainly, plain_head, plain_judged, plain_texts, plain_rows_are, plain_names}, Sound.{Every, Sound, kept_sound}}
use Rattle.promises.proofs.Salvaged.{TableAgain.{entries_many}, TextsAgain.{SameNames, no_names, one_name}}
use Rattle.promises.specs.{Salvaged.Same.{unmarked, compared_by, SameAnswers, unmarked_simple, simply_compared, SameSimply}, inner.Salvaged.Seats.{new_head, seats_from, seats_of}}
use Rattle.numbers.specs.Answer as A
use Rattle.numbers.specs.Reply as R
use Rattle.table.specs.Rows as T
use Rattle.promises.proofs.Salvaged.Sound as E

-- ---- rows are numbered one by one
data Numbered : ℕ → List Row → Type 0 where
  no_one : {n : ℕ} → Numbered n []
  one_by_one : {n : ℕ} {r : Row} {rows : List Row} → r.id ≡ n → Numbered (n + 1) rows → Numbered n (r ∷ rows)

module _ (read : ℕ → Answer Numeral) (grows : Grows read) (last : ℕ) where
  row_number : (at : Cursor) → All (λ (r : Row). r.id ≡ at.id) (row_by read at)
  unfolding row_by
  row_number at = then_all (λ (entry : Entry). Unit {0}) (λ (r : Row). r.id ≡ at.id) (entry_by read at.place) _ (any (entry_by read at.place)) (λ entry u. refl)

  numbered : (rows : List Row) (at : Cursor) → rows_from read last at ≡ as_rows rows → at.id + length rows < 2 ^ 32 → Numbered at.id rows
  unfolding as_rows rows_then
  numbered [] at e few = no_one
  numbered (r ∷ rows) at e few = go (ltb at.place last) (sym (rows_step read grows last at) ∙ e) (numbered rows) where
    found_row : (answer : Answer Row) → All (λ (r : Row). r.id ≡ at.id) answer → rows_then answer (rows_from read last) ≡ T.row r (as_rows rows)
        → ((at : Cursor) → rows_from read last at ≡ as_rows rows → at.id + length rows < 2 ^ 32 → Numbered at.id rows) → Numbered at.id (r ∷ rows)
    found_row (found q) own e later = let same : q ≡ r = cc (e) in let rest : rows_from read last (after q) ≡ as_rows rows = cc (e) in
        let next : (q.id + 1) % 2 ^ 32 ≡ at.id + 1 = omega (arith, own, few) in
        one_by_one (ap (λ (x : Row). x.id) (sym same) ∙ own) (subst (λ (n : ℕ). Numbered n rows) next (later (after q) rest (omega (arith, next, few))))
    found_row failed own e later = let z : ◌≡◌ {A = ℕ} 0 1 = cc in absurd (omega arith)
    found_row (A.refused n) own e later = let z : ◌≡◌ {A = ℕ} 0 1 = cc in absurd (omega arith)

    go : (test : Bool) → (if test then rows_then (row_by read at) (rows_from read last) else table_end) ≡ T.row r (as_rows rows)
        → ((at : Cursor) → rows_from read last at ≡ as_rows rows → at.id + length rows < 2 ^ 32 → Numbered at.id rows) → Numbered at.id (r ∷ rows)
    go true e later = found_row (row_by read at) (row_number at) e later
    go false e later = let z : ◌≡◌ {A = ℕ} 0 1 = cc in absurd (omega arith)

-- ---- the new file's rows are like the old ones
module _ (file : List ℕ) (head : Head) (new : List ℕ) (head' : Head) (preamble : head'.preamble ≡ head.preamble) where
  like_new : (rows : List Row) (place number id size polygon : ℕ) → Numbered number rows → AllCarried file new head head' rows (seats_from file head place number id size polygon rows)
      → AllLike file new head head' rows (seats_from file head place number id size polygon rows)
  unfolding seats_from
  like_new [] place number id size polygon n no_rows = none_like
  like_new (old ∷ rows) place number id size polygon (one_by_one own more) (next_row {r = r} c later) =
      next_like (record {
        number = sym own;
        box = c.box;
        id = c.id;
        border = λ fix asked least. same_judgement file new (encoding_in file head) (encoding_in new head') (border_place file head old) (border_place new head' r)
            c.border fix.lat fix.lon asked least;
        strings = subst (λ (n : ℕ). SameTexts file new head head' head.preamble.count (fields_place head old.metadata) (fields_place head' n)) c.id c.texts;
      }) (like_new rows _ (number + 1) old.metadata _ (polygon + size) more later)

-- ---- nothing was dropped
module _ (file : List ℕ) (head : Head) where
  none_dropped : (number : ℕ) (rows : Rows) → lines_from file head number rows ≡ [] → rows ≡ as_rows (kept_of file head rows)
  unfolding lines_from kept_of as_rows
  none_dropped number (T.row r rows) e = go (entry_good file head r) e (none_dropped (number + 1) rows) where
    go : (g : Reply (Unit {0})) → line_if g number (lines_from file head (number + 1) rows) ≡ [] → (lines_from file head (number + 1) rows ≡ [] → rows ≡ as_rows (kept_of file head rows))
        → T.row r rows ≡ as_rows (kept_if g r (kept_of file head rows))
    go (given tt) e later = ap (T.row r) (later e)
    go (R.refused why) e later = let z : ◌≡◌ {A = ℕ} 0 1 = cc in absurd (omega arith)
  none_dropped number table_end e = refl
  none_dropped number unreadable e = let z : ◌≡◌ {A = ℕ} 0 1 = cc in absurd (omega arith)
  none_dropped number (T.refused n) e = let z : ◌≡◌ {A = ℕ} 0 1 = cc in absurd (omega arith)

-- ---- read plainly, they are like themselves
module _ (file : List ℕ) (head : Head) (opens : head_by true file ≡ given head) where
  plain_like : (rows : List Row) → Every (Sound file head) rows → AllLike file file head (plainly file head opens) rows rows
  plain_like [] E.none = none_like
  plain_like (r ∷ rows) (E.one sound later) =
      next_like (record {
        number = refl;
        box = refl;
        id = refl;
        border = plain_judged file head opens r (kept_closes file head r sound.good);
        strings = plain_texts file head opens r sound.good;
      }) (plain_like rows later)

shorter : {f f' : List ℕ} {h h' : Head} {names index place place' : ℕ} (more : ℕ) → SameNames f f' h h' names (suc more) index place place' → SameNames f f' h h' names more index place place'
shorter zero (one_name t t' reads reads' bytes later) = no_names
shorter {index = index} (suc more) (one_name t t' reads reads' bytes later) = one_name t t' reads reads' bytes (shorter {index = index + 1} more later)

-- all but the notice
names_alone : {f f' : List ℕ} {h h' : Head} {names index place place' : ℕ} (count : ℕ) → SameNames f f' h h' names (count + 1) index place place' → SameNames f f' h h' names count index place place'
names_alone {f} {f'} {h} {h'} {names} {index} {place} {place'} count same =
    let successor : count + 1 ≡ suc count = omega arith in shorter count (subst (λ (n : ℕ). SameNames f f' h h' names n index place place') successor same)

-- ---- the theorem
module _ (file : List ℕ) (words room : ℕ) (s : Salvaged) (e : salvaged_of file words room ≡ given s) (dropped : s.lines ≡ []) where
  made : Made file words room s
  made = made_from file words room s e

  abbrev head : Head
  head = made.head

  abbrev head' : Bool → Head
  head' strict = new_head file head strict made.texts s.kept

  abbrev seats : List Row
  seats = seats_of file head made.texts s.kept

  sound : Every (Sound file head) s.kept
  sound = subst (λ (rows : List Row). Every (Sound file head) rows) (sym made.kept_are) (kept_sound file head)

  old_rows : rows_in file head ≡ as_rows s.kept
  old_rows = none_dropped file head 0 (rows_in file head) (sym made.lines_are ∙ dropped) ∙ ap as_rows (sym made.kept_are)

  in_turn : Numbered 0 s.kept
  unfolding rows_in
  in_turn =
      numbered (reading_of head.strict file) (reading_grows head.strict file) head.sections.metadata s.kept (start_at head.sections.table) old_rows
      (omega (arith, entries_many file head s.kept sound 0 0, new_length file head made.texts s.kept s.file made.is, made.small))

  like : (strict : Bool) → AllLike file s.file head (head' strict) s.kept seats
  unfolding new_head seats_of
  like strict =
      like_new file head s.file (head' strict) refl s.kept _ 0 0 0 0 in_turn (rows_carried file head made.texts s.kept s.file made.is made.small made.opens sound strict)

  module _ (location : Location) (asked : Bool) (n space : ℕ) where
    abbrev answer : List ℕ → Reply Head → Reply (Outcome Zones)
    answer f opened = zones_by opened f location asked n space >>= λ o. given (unmarked o)

    new_old : (strict : Bool) → answer s.file (given (head' strict)) ≡ answer file (given head)
    unfolding new_head
    new_old strict =
        zones_like file s.file head (head' strict) refl s.kept seats (like strict) old_rows (rows_are file head made.texts s.kept s.file
        made.is made.small made.opens sound strict) location asked n space

    plain_old : answer file (given (plainly file head made.opens)) ≡ answer file (given head)
    plain_old =
        zones_like file file head (plainly file head made.opens) refl s.kept s.kept (plain_like file head made.opens s.kept sound) old_rows
        (plain_rows_are file head made.opens s.kept old_rows) location asked n space

    old_answer : (strict : Bool) → answer file (head_by strict file) ≡ answer file (given head)
    old_answer true = ap (answer file) made.opens
    old_answer false = ap (answer file) (plain_head file head made.opens) ∙ plain_old

    abbrev simply : List ℕ → Reply Head → Reply (Outcome Described)
    simply f opened = (opened >>= λ h. described_with f h location n space) >>= λ o. given (unmarked_simple o)

    same_answer : (strict strict' : Bool) → answer s.file (head_by strict s.file) ≡ answer file (head_by strict' file)
    same_answer strict strict' =
        ap (answer s.file) (new_opens file head made.texts s.kept s.file made.is made.small made.opens made.inline strict) ∙ new_old strict ∙ sym (old_answer strict')

    simple_new : simply s.file (given (head' false)) ≡ simply file (given head)
    unfolding new_head
    simple_new =
        described_like file s.file head (head' false) refl
        (names_alone head.preamble.count (names_alike file head made.texts s.kept s.file made.is made.small made.opens made.inline false))
        s.kept seats (like false) old_rows (rows_are file head made.texts s.kept s.file made.is made.small made.opens sound false) location n space

    simple_plain : simply file (given (plainly file head made.opens)) ≡ simply file (given head)
    simple_plain = let o = opened file head made.opens in
        described_like file file head (plainly file head made.opens) refl
        (names_alone head.preamble.count (plain_names file head made.opens head.preamble.count (head.preamble.count + 1) 0 7 o.texts o.texts_are))
        s.kept s.kept (plain_like file head made.opens s.kept sound) old_rows (plain_rows_are file head made.opens s.kept old_rows) location n space

    simply_same : simply s.file (head_by false s.file) ≡ simply file (head_by false file)
    simply_same =
        ap (simply s.file) (new_opens file head made.texts s.kept s.file made.is made.small made.opens made.inline false) ∙ simple_new
        ∙ sym (ap (simply file) (plain_head file head made.opens) ∙ simple_plain)

-- Where nothing was dropped, lookups in the new file and in the old one, each opened plainly or strictly, give the same matches, texts and safezone, or the same refusal, for every location.
pub salvage_same : (file : List ℕ) (words room : ℕ) (s : Salvaged) → salvaged_of file words room ≡ given s → s.lines ≡ [] → (strict strict' : Bool) → SameAnswers strict s.file strict' file
unfolding compared_by
salvage_same file words room s e dropped strict strict' location asked n space = same_answer file words room s e dropped location asked n space strict strict'

-- And simple lookups the same matches and description, or the same refusal.
pub salvage_same_simply : (file : List ℕ) (words room : ℕ) (s : Salvaged) → salvaged_of file words room ≡ given s → s.lines ≡ [] → SameSimply s.file file
unfolding simply_compared described_in
salvage_same_simply file words room s e dropped location n space = simply_same file words room s e dropped location false n space
