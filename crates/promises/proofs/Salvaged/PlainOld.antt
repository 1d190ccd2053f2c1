-- A file whose entries are good, read plainly, says what it says read strictly: its header and names, its rows, and each kept row's border and strings. Assumes nothing.
use Rattle.numbers.proofs.Prelude.{ℕ, zero, suc, ◌+◌, ◌-◌, pos, drop, take-append-drop, Bool, true, false, List, [], ◌∷◌, ◌≡◌, refl, sym, ap, ◌∙◌, arith}
use Rattle.numbers.{proofs.Replies.{given_from}, specs.{Answer.{found}, Reply.{Reply, given, plain}, Varint.{reading_of}}}
use Rattle.border.{proofs.Strict.{StrictTrace, point, cut_off, alike, trace_strictly}, specs.{Encoding.{version_of, encoded_by}, Place.{point_at}, Trace.{Trace, trace_of, border_at}}}
use Rattle.border.specs.declared.place.Point.{Point}
use Rattle.verdict.specs.Verdict.{none, judge, judged_at}
use Rattle.header.proofs.{StrictHead.{Or31, shown_same, head_strict, head_strictly_unless, table_within, text_strictly, unstrict}, Unless.{Unless, refuses, shown}}
use Rattle.header.specs.{Header.{blame_of, Texts, texts_from, head_by}, Text.{text_at}, declared.{header.Head.{Head}, text.{Blame.{Blame}, Text.{Text}}}}
use Rattle.salvage.specs.{Kept.{encoding_in, border_place, record_place, entry_good}, Moves.Moves.{end_of}}
use Rattle.table.{proofs.StrictRows.{StrictRows, row, at_end, unread, stopped, rows_strictly}, specs.{Rows.{Rows, start_at, rows_from, rows_in, as_rows}, Search.{judge_in}, declared.rows.Row.{Row}}}
use Rattle.promises.proofs.Salvaged.{Carried.{SameTexts, Shifted, fields_same, kept_fields}, Opened.{Opened, opened_from, opened_small}, TextsAgain.{SameNames, no_names, one_name}}
use Rattle.border.specs.Trace as T'
use Rattle.header.proofs.Unless as U
use Rattle.numbers.specs.Reply as R
use Rattle.table.proofs.StrictRows as Q
use Rattle.table.specs.Rows as T

-- ---- rows, traces and header
plain_rows : {mark : Rows → ℕ} {strict plainly : Rows} → StrictRows mark strict plainly → (rows : List Row) → strict ≡ as_rows rows → plainly ≡ strict
unfolding as_rows
plain_rows (row m h) [] e = let z : ◌≡◌ {A = ℕ} 0 1 = cc in absurd (omega arith)
plain_rows (row {r = r} {strict = strict} m h) (q ∷ rows) e = let rest : strict ≡ as_rows rows = cc (e) in ap (T.row r) (plain_rows h rows rest)
plain_rows Q.cut_off [] e = let z : ◌≡◌ {A = ℕ} 0 1 = cc in absurd (omega arith)
plain_rows Q.cut_off (q ∷ rows) e = let z : ◌≡◌ {A = ℕ} 0 1 = cc in absurd (omega arith)
plain_rows at_end rows e = refl
plain_rows unread rows e = refl
plain_rows stopped rows e = refl

plain_trace : {strict plainly : Trace} → StrictTrace strict plainly → end_of strict ≡ found tt → plainly ≡ strict
unfolding end_of
plain_trace (point {p = p} h) e = ap (T'.point p) (plain_trace h e)
plain_trace cut_off e = let z : ◌≡◌ {A = ℕ} 0 1 = cc in absurd (omega arith)
plain_trace alike e = refl

module _ (file : List ℕ) (head : Head) (opens : head_by true file ≡ given head) where
  pub opened : Opened file head
  opened = opened_from file head opens

  -- the header, read plainly
  abbrev pub plainly : Head
  plainly = record { preamble = head.preamble; sections = head.sections; strict = false }

  pub plain_head : head_by false file ≡ given (record { preamble = head.preamble; sections = head.sections; strict = false })
  plain_head = go (head_strictly_unless file) where
    by_reply : (r : Reply Head) → head_by false file ≡ r → given (unstrict file head) ≡ shown (unstrict file) r → r ≡ given (unstrict file head)
    by_reply (given h) is e = let same : unstrict file head ≡ unstrict file h = cc (e) in let no : h.strict ≡ false = head_strict false file is in
        (λ i. given (record { preamble = h.preamble; sections = h.sections; strict = no i })) ∙ ap given (sym same)
    by_reply (R.refused why) is e = let z : ◌≡◌ {A = ℕ} 0 1 = cc in absurd (omega arith)

    go : Unless 31 (unstrict file) (head_by true file) (head_by false file) → head_by false file ≡ given (unstrict file head)
    go (refuses r) = let no : given head ≡ R.refused (plain 31) = sym opens ∙ r in let z : ◌≡◌ {A = ℕ} 0 1 = cc in absurd (omega arith)
    go (U.alike same) = by_reply (head_by false file) refl (ap (shown (unstrict file)) (sym opens) ∙ same)

  -- its section stands where it stood
  pub stands : Shifted file head file plainly
  stands = let m = head.sections.metadata in let d = head.sections.«data» in record {
    is_strict = opened.strict;
    in_order = opened.in_order;
    inside = opened.inside;
    small = opened_small file head opened;
    there = record { rest = drop (d - m) (drop m file); here = sym (take-append-drop (d - m) (drop m file)) };
    ends = omega (arith, opened.in_order);
    inside' = opened.inside;
    small' = opened_small file head opened;
    preamble = refl;
  }

  pub plain_judged : (r : Row) → end_of (trace_of file (encoding_in file head) (border_at (border_place file head r))) ≡ found tt → (fix : Point) (asked : Bool) (least : ℕ)
      → judge_in file plainly fix asked r.polygon least ≡ judge_in file head fix asked r.polygon least
  unfolding judged_at
  plain_judged r closes fix asked least = let version = version_of head.preamble.version in let base = head.sections.«data» in
      let start = border_at (border_place file head r) in
      let strictly : end_of (trace_of file (encoded_by true version base) start) ≡ found tt =
      ap (λ (t : Bool). end_of (trace_of file (encoded_by t version base) start)) (sym opened.strict) ∙ closes in
      let same : trace_of file (encoded_by false version base) start ≡ trace_of file (encoded_by head.strict version base) start = plain_trace
      (trace_strictly file version base start) strictly ∙ ap (λ (t : Bool). trace_of file (encoded_by t version base) start) (sym opened.strict) in
      ap (judge (record { lat = fix.lat; lon = fix.lon }) asked none _) same

  -- the strings of a kept row
  pub plain_texts : (r : Row) → entry_good file head r ≡ given tt → SameTexts file file head plainly head.preamble.count (record_place file head r) (record_place file head r)
  plain_texts r good =
      fields_same file head file plainly stands head.preamble.count (record_place file head r) (record_place file head r) (λ low high. omega (arith, low)) (kept_fields file head r good)

  pub plain_rows_are : (rows : List Row) → rows_in file head ≡ as_rows rows → rows_in file plainly ≡ as_rows rows
  unfolding rows_in
  plain_rows_are rows e = let m = head.sections.metadata in let start = start_at head.sections.table in
      let strictly : rows_from (reading_of true file) m start ≡ as_rows rows = ap (λ (t : Bool). rows_from (reading_of t file) m start) (sym opened.strict) ∙ e in
      plain_rows (rows_strictly file m (table_within true file opens) (point_at (pos 0) (pos 0)) start) rows strictly ∙ strictly

-- ---- the names, read plainly
plain_text : (file : List ℕ) (metadata place : ℕ) (blame : Blame) (text : Text) → text_at true file metadata place blame ≡ given text → text_at false file metadata place blame ≡ given text
plain_text file metadata place blame text e = go (text_strictly file metadata place blame) where
  go : Or31 (text_at true file metadata place blame) (text_at false file metadata place blame) → text_at false file metadata place blame ≡ given text
  go (refuses r) = let no : given text ≡ R.refused (plain 31) = sym e ∙ r in let z : ◌≡◌ {A = ℕ} 0 1 = cc in absurd (omega arith)
  go (U.alike same) = sym (shown_same (text_at false file metadata place blame)) ∙ sym same ∙ shown_same (text_at true file metadata place blame) ∙ e

module _ (file : List ℕ) (head : Head) (opens : head_by true file ≡ given head) where
  pub plain_names : (names more index place : ℕ) (texts : Texts) → texts_from true file names more index place ≡ given texts
      → SameNames file file head (plainly file head opens) names more index place place
  unfolding texts_from
  plain_names names zero index place texts e = no_names
  plain_names names (suc more) index place texts e = let one = given_from (text_at true file 0 place (blame_of names index)) _ (sym e) in
      let two = given_from (texts_from true file names more (index + 1) one.it.next) _ one.onto in
      let strictly : text_at true file 0 place (blame_of names index) ≡ given one.it = sym one.is in
      one_name one.it one.it (ap (λ (t : Bool). text_at t file 0 place (blame_of names index)) (opened file head opens).strict ∙ strictly)
      (plain_text file 0 place (blame_of names index) one.it strictly) refl (plain_names names more (index + 1) one.it.next two.it (sym two.is))
