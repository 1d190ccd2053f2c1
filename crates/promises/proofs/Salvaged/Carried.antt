-- Each kept entry stands in the new file with its old box, metadata id and strings, and with a border of the same moves. Assumes nothing.
use Rattle.numbers.proofs.Prelude.{ℕ, zero, suc, ◌+◌, ◌-◌, ◌%◌, ◌^◌, ◌≤◌, ◌<◌, length, take, drop, length-append, Bool, true, List, [], ◌∷◌, flat_map, ◌≡◌, refl, sym, ap, ◌∙◌, arith}
use Rattle.numbers.{proofs.{Answers.{found_one}, Replies.{given_from, demanded}}, specs.{Answer.{found}, Reply.{Reply, given, refused, plain, ◌>>◌}}}
use Rattle.border.{proofs.{AtPlace.{at_place}, OnWay.{At, at_first, at_next}}, specs.{Encoding.{version_of}, Trace.{trace_of, border_at}}}
use Rattle.header.specs.{Text.{string_at, bytes_of, text_at}, Utf8.{is_utf8}, declared.{header.{Head.{Head}, Preamble.{Preamble}}, text.Text.{Text}}}
use Rattle.salvage.{proofs.{data.Drawing.{kept_closes}, moves.Again.{SameBorder, moves_again}}, specs.File.{border_bytes}}
use Rattle.salvage.specs.{Kept.{encoding_in, border_place, border_good, string_inside, field_good, fields_good, record_place, entry_good}, Moves.Moves.{end_of}}
use Rattle.table.specs.declared.rows.Row.{Row}
use Rattle.promises.proofs.Salvaged.{Moved.{StringMoved, string_moves}, Sound.{Every, none, one, Sound}, TextsAgain.{lain_bytes, TextFound, text_found, text_given}}
use Rattle.promises.specs.inner.Salvaged.Seats.{seats_from}

-- ---- strings of one record, in both files
pub data SameTexts (file new : List ℕ) (head head' : Head) : ℕ → ℕ → ℕ → Type 0 where
  no_more : {place place' : ℕ} → SameTexts file new head head' 0 place place'
  one_more : {more place place' : ℕ} (text text' : Text) → text_at head.strict file head.sections.metadata place (record { number = 15; detail = 0 }) ≡ given text
      → text_at head'.strict new head'.sections.metadata place' (record { number = 15; detail = 0 }) ≡ given text' → bytes_of new text' ≡ bytes_of file text → string_inside new head' place' ≡ true
      → SameTexts file new head head' more text.next text'.next → SameTexts file new head head' (suc more) place place'

-- the old file's metadata section stands in the new one
pub record Shifted (file : List ℕ) (head : Head) (new : List ℕ) (head' : Head) : Type 0 where
  pub is_strict : head.strict ≡ true
  pub in_order : head.sections.metadata ≤ head.sections.«data»
  pub inside : head.sections.«data» ≤ length file
  pub small : length file ≤ 2 ^ 30
  pub there : At new head'.sections.metadata (take (head.sections.«data» - head.sections.metadata) (drop head.sections.metadata file))
  pub ends : head'.sections.«data» ≡ head'.sections.metadata + (head.sections.«data» - head.sections.metadata)
  pub inside' : head'.sections.«data» ≤ length new
  pub small' : length new ≤ 2 ^ 30
  pub preamble : head'.preamble ≡ head.preamble

-- what both demanded
second_good : (a b : Reply (Unit {0})) → (a >> b) ≡ given tt → b ≡ given tt
second_good (given tt) b e = e
second_good (refused why) b e = let z : ◌≡◌ {A = ℕ} 0 1 = cc in absurd (omega arith)

pub kept_fields : (file : List ℕ) (head : Head) (r : Row) → entry_good file head r ≡ given tt → fields_good file head head.preamble.count (record_place file head r) ≡ given tt
unfolding entry_good
kept_fields file head r e = second_good (border_good file head r) _ e

module _ (file : List ℕ) (head : Head) (new : List ℕ) (head' : Head) (s : Shifted file head new head') where
  abbrev m : ℕ
  m = head.sections.metadata

  abbrev m' : ℕ
  m' = head'.sections.metadata

  -- as far behind the section's begin, where that is in it
  abbrev Behind : ℕ → ℕ → Type 0
  Behind place place' = head.sections.metadata ≤ place → place ≤ head.sections.«data» → place' ≡ head'.sections.metadata + (place - head.sections.metadata)

  moves : (place : ℕ) (text : Text) → string_at true file m place ≡ found text → string_inside file head place ≡ true
      → StringMoved file head s.is_strict s.in_order s.inside s.small new head' s.there s.ends s.inside' s.small' place
  moves = string_moves file head s.is_strict s.in_order s.inside s.small new head' s.there s.ends s.inside' s.small'

  pub fields_same : (more place place' : ℕ) → Behind place place' → fields_good file head more place ≡ given tt → SameTexts file new head head' more place place'
  unfolding fields_good field_good
  fields_same zero place place' at e = no_more
  fields_same (suc more) place place' at e = let first = given_from (field_good file head place) _ (sym e) in
      let second = given_from (text_at head.strict file m place (record { number = 15; detail = 0 })) _ first.is in
      let third = demanded (string_inside file head place) (plain 72) second.onto in let goes : first.it ≡ second.it.next = cc third.1 in
      let later : fields_good file head more second.it.next ≡ given tt = ap (fields_good file head more) (sym goes) ∙ sym first.onto in
      go second.it (sym second.is) third.0 later (fields_same more) where
        go : (text : Text) → text_at head.strict file m place (record { number = 15; detail = 0 }) ≡ given text → string_inside file head place ≡ true
            → fields_good file head more text.next ≡ given tt → ((place place' : ℕ) → Behind place place' → fields_good file head more place ≡ given tt
            → SameTexts file new head head' more place place') → SameTexts file new head head' (suc more) place place'
        go text reads i later further =
            let was = text_found true file m place (record { number = 15; detail = 0 }) text (sym (ap (λ (t : Bool). text_at t file m place (record { number = 15; detail = 0 }))
            (sym s.is_strict) ∙ reads)) in
            let moved = moves place text was.is i in
            let same_text : moved.old.text ≡ text = found_one (sym moved.old.is ∙ was.is) in
            let at_place' : place' ≡ m' + (place - m) = at moved.low moved.high in
            let same_bytes : bytes_of new moved.now.text ≡ bytes_of file text = lain_bytes moved.now ∙ sym (lain_bytes moved.old) ∙ ap (bytes_of file) same_text in
            let now : TextFound head'.strict new m' (m' + (place - m)) moved.now.text = record { is = moved.now.is; good = ap is_utf8 same_bytes ∙ was.good } in
            let next_is : text.next ≡ moved.next = ap (λ (t : Text). t.next) (sym same_text) ∙ moved.old.after in
            one_more text moved.now.text reads
            (ap (λ (p : ℕ). text_at head'.strict new m' p (record { number = 15; detail = 0 })) at_place' ∙ text_given head'.strict new m' (m' + (place - m))
            (record { number = 15; detail = 0 }) now)
            same_bytes
            (ap (string_inside new head') at_place' ∙ moved.placed)
            (further text.next moved.now.text.next (λ l h. moved.now.after ∙ ap (λ (n : ℕ). m' + (n - m)) (sym next_is)) later)

-- ---- one entry, and all of them
pub record Carried (file new : List ℕ) (head head' : Head) (old r : Row) : Type 0 where
  pub box : r.bounds ≡ old.bounds
  pub id : r.metadata ≡ old.metadata
  pub texts : SameTexts file new head head' head.preamble.count (record_place file head old) (record_place new head' r)
  pub closes : end_of (trace_of file (encoding_in file head) (border_at (border_place file head old))) ≡ found tt
  pub border : SameBorder file new (encoding_in file head) (encoding_in new head') (border_place file head old) (border_place new head' r)

pub data AllCarried (file new : List ℕ) (head head' : Head) : List Row → List Row → Type 0 where
  no_rows : AllCarried file new head head' [] []
  next_row : {old r : Row} {olds rows : List Row} → Carried file new head head' old r → AllCarried file new head head' olds rows → AllCarried file new head head' (old ∷ olds) (r ∷ rows)

module _ (file : List ℕ) (head : Head) (new : List ℕ) (head' : Head) (s : Shifted file head new head') where
  abbrev seat : ℕ → ℕ → ℕ → ℕ → Row → Row
  seat place number polygon next r = record { place = place; id = number; metadata = r.metadata; polygon = polygon; bounds = r.bounds; next = next }

  record_behind : (id : ℕ) → id < 2 ^ 32 → Behind file head new head' s ((head.sections.metadata + id) % 2 ^ 32) ((head'.sections.metadata + id) % 2 ^ 32)
  record_behind id h low high = let few : id ≤ head.sections.«data» - head.sections.metadata = omega (arith, low, high, s.small, s.inside, h) in
      omega (arith, few, s.small, s.inside, s.in_order, s.small', s.inside', s.ends)

  carries : (place number polygon next : ℕ) (r : Row) → Sound file head r → At new (head'.sections.«data» + polygon) (border_bytes file head r) → head'.sections.«data» + polygon ≤ 2 ^ 30
      → Carried file new head head' r (seat place number polygon next r)
  unfolding border_bytes
  carries place number polygon next r sound here few = let closes = kept_closes file head r sound.good in
      let at : head'.sections.«data» + polygon ≡ (head'.sections.«data» + polygon) % 2 ^ 32 = omega arith in record {
        box = refl;
        id = refl;
        texts = fields_same file head new head' s head.preamble.count _ _ (record_behind r.metadata sound.fits.id) (kept_fields file head r sound.good);
        closes = closes;
        border = moves_again file new (encoding_in file head) (encoding_in new head') (border_place file head r) (border_place new head' (seat place number polygon next r))
            (ap (λ (p : Preamble). version_of p.version) s.preamble) closes (at_place at here);
      }

  pub all_carried : (rows : List Row) → Every (Sound file head) rows → (place number id size polygon : ℕ) → At new (head'.sections.«data» + (polygon + size))
      (flat_map (border_bytes file head) rows) → head'.sections.«data» + (polygon + size) + length (flat_map (border_bytes file head) rows) ≤ 2 ^ 30
      → AllCarried file new head head' rows (seats_from file head place number id size polygon rows)
  unfolding seats_from flat_map
  all_carried [] none place number id size polygon here few = no_rows
  all_carried (r ∷ rows) (one sound later) place number id size polygon here few = let bytes = border_bytes file head r in
      let rest = flat_map (border_bytes file head) rows in let sizes = length-append bytes rest in let start = head'.sections.«data» + (polygon + size) in
      let after : start + length bytes ≡ head'.sections.«data» + (polygon + size + length bytes) = omega arith in
      next_row (carries place number (polygon + size) _ r sound (at_first new start bytes rest here) (omega arith))
      (all_carried rows later _ (number + 1) r.metadata (length bytes) (polygon + size) (at_place after (at_next new start bytes rest here)) (omega arith))
