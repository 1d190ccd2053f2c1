-- An answered salvage in the words of its reply and of both lent outputs, so that the theorems speak of it. Assumes nothing.
use Rattle.numbers.proofs.Prelude.{ℕ, ◌+◌, ◌-◌, ◌*◌, ◌/◌, ◌≤◌, length, take, take-append_seam, Bool, true, List, [], ◌⊎◌, inl, inr, ◌≡◌, refl, sym, ap, subst, ◌∙◌, arith}
use Rattle.numbers.{proofs.Replies.{given_one}, specs.{Lists.{zeros, padded}, Reply.{Reply, given, refused}}}
use Rattle.header.specs.{Header.{head_by}, Opening.{opened_by}, declared.header.Head.{Head}}
use Rattle.salvage.{proofs.Listing.{salvage_list, two_words}, specs.{Kept.{entry_good, line_if, kept_of, lines_from}, Promises.{ListOf, KeptFile}}}
use Rattle.salvage.specs.{Salvage.{Salvaged, salvaged_of, replied_of, salvaged}, declared.rescue.reply.Counts.{Counts}}
use Rattle.promises.proofs.Salvaged.{Again.{salvage_again}, KeptAgain.{salvage_kept}, Opens.{salvaged_strict, salvaged_opens_alike}, Parts.{Made, made_from}}
use Rattle.promises.proofs.Salvaged.SameLookups.{salvage_same, salvage_same_simply}
use Rattle.promises.specs.Salvaged.{Opens.{OpensStrictly}, Same.{SameAnswers, SameSimply}}
use Rattle.table.specs.Rows.{Rows, row, table_end, unreadable, rows_in}
use Rattle.table.specs.Rows as T

pub record Answered (file : List ℕ) (words room : ℕ) (counts : Counts) : Type 0 where
  pub s : Salvaged
  pub is : salvaged_of file words room ≡ given s
  pub counted : counts ≡ record { size = length s.file; lines = length s.lines / 2; kept = length s.kept }
  pub list : (salvaged file words room).list ≡ padded words s.lines
  pub out : (salvaged file words room).out ≡ padded room s.file

pub answered_from : (file : List ℕ) (words room : ℕ) (counts : Counts) → (salvaged file words room).reply ≡ given counts → Answered file words room counts
unfolding salvaged
answered_from file words room counts e = go (salvaged_of file words room) refl e where
  go : (r : Reply Salvaged) → salvaged_of file words room ≡ r → (replied_of words room r).reply ≡ given counts → Answered file words room counts
  go (given s) is e =
      record {
        s = s;
        is = is;
        counted = cc (e);
        list = ap (λ (r : Reply Salvaged). (replied_of words room r).list) is;
        out = ap (λ (r : Reply Salvaged). (replied_of words room r).out) is;
      }
  go (refused why) is e = let z : ◌≡◌ {A = ℕ} 0 1 = cc in absurd (omega arith)

-- ---- a line has two words, so no line is no word
module _ (file : List ℕ) (head : Head) where
  none_or_some : (number : ℕ) (rows : Rows) → (lines_from file head number rows ≡ []) ⊎ (2 ≤ length (lines_from file head number rows))
  unfolding lines_from
  none_or_some number (row r rows) = go (entry_good file head r) (none_or_some (number + 1) rows) where
    go : (g : Reply (Unit {0})) {lines : List ℕ} → (lines ≡ []) ⊎ (2 ≤ length lines) → (line_if g number lines ≡ []) ⊎ (2 ≤ length (line_if g number lines))
    go (given tt) h = h
    go (refused why) h = inr (omega arith)
  none_or_some number table_end = inl refl
  none_or_some number unreadable = inr (omega arith)
  none_or_some number (T.refused n) = inr (omega arith)

-- "nothing is dropped"
pub nothing_dropped : {file : List ℕ} {words room : ℕ} {counts : Counts} (a : Answered file words room counts) → counts.lines ≡ 0 → a.s.lines ≡ []
nothing_dropped {file} {words} {room} {counts} a zero_lines = let m = made_from file words room a.s a.is in
    let few : length a.s.lines / 2 ≡ 0 = sym (ap (λ (c : Counts). c.lines) a.counted) ∙ zero_lines in
    go m few (none_or_some file m.head 0 (rows_in file m.head)) where
      go : (m : Made file words room a.s) → length a.s.lines / 2 ≡ 0 → (lines_from file m.head 0 (rows_in file m.head) ≡ []) ⊎
          (2 ≤ length (lines_from file m.head 0 (rows_in file m.head))) → a.s.lines ≡ []
      go m few (inl none) = m.lines_are ∙ none
      go m few (inr some) = absurd (omega (arith, few, some, ap length m.lines_are))

-- ---- the file that was written, and theorems in the words of the lent outputs
pub written_file : {file : List ℕ} {words room : ℕ} {counts : Counts} (a : Answered file words room counts) → take counts.size (salvaged file words room).out ≡ a.s.file
written_file {file} {words} {room} {counts} a =
    ap (λ (c : Counts). take c.size (salvaged file words room).out) a.counted ∙ ap (take (length a.s.file)) a.out ∙ take-append_seam a.s.file (zeros (room - length a.s.file))

module _ (file : List ℕ) (words room : ℕ) (counts : Counts) (e : (salvaged file words room).reply ≡ given counts) where
  abbrev pub written : List ℕ
  written = take counts.size (salvaged file words room).out

  a : Answered file words room counts
  a = answered_from file words room counts e

  pub lent_strict : OpensStrictly written
  lent_strict = subst OpensStrictly (sym (written_file a)) (salvaged_strict file words room a.s a.is)

  -- Opened plainly or strictly, with whatever room for text, it gives the old file's reply and text: type, version, precision, names and notice.
  pub lent_opens_alike : (strict strict' : Bool) (text : ℕ) → opened_by strict written text ≡ opened_by strict' file text
  lent_opens_alike strict strict' text = ap (λ (f : List ℕ). opened_by strict f text) (written_file a) ∙ salvaged_opens_alike file words room a.s a.is strict strict' text

  -- the words of the list that were written
  abbrev pub listed : List ℕ
  listed = take (2 * counts.lines) (salvaged file words room).list

  module _ (head : Head) (opens : head_by true file ≡ given head) where
    made : Made file words room a.s
    made = made_from file words room a.s a.is

    same_head : made.head ≡ head
    same_head = given_one (sym made.opens ∙ opens)

    kept_are : a.s.kept ≡ kept_of file head (rows_in file head)
    kept_are = made.kept_are ∙ ap (λ (h : Head). kept_of file h (rows_in file h)) same_head

    lines_are : a.s.lines ≡ lines_from file head 0 (rows_in file head)
    lines_are = made.lines_are ∙ ap (λ (h : Head). lines_from file h 0 (rows_in file h)) same_head

    -- The file that was written opens strictly, and its table is that of the old file's whole entries, in the old order, each as it was; the reply counts them.
    pub lent_kept : KeptFile file head written (kept_of file head (rows_in file head))
    lent_kept =
        subst (λ (f : List ℕ). KeptFile file head f (kept_of file head (rows_in file head))) (sym (written_file a))
        (subst (KeptFile file head a.s.file) kept_are (salvage_kept file words room head a.s opens a.is))

    pub lent_count : counts.kept ≡ length (kept_of file head (rows_in file head))
    lent_count = ap (λ (c : Counts). c.kept) a.counted ∙ ap length kept_are

    lines_listed : ListOf file head a.s.lines
    lines_listed = subst (ListOf file head) (sym lines_are) (salvage_list file head)

    words_counted : 2 * counts.lines ≡ length a.s.lines
    words_counted = ap (λ (c : Counts). 2 * c.lines) a.counted ∙ sym (two_words file head lines_listed)

    written_list : listed ≡ a.s.lines
    written_list =
        ap (λ (n : ℕ). take n (salvaged file words room).list) words_counted ∙ ap (take (length a.s.lines)) a.list ∙ take-append_seam a.s.lines (zeros (words - length a.s.lines))

    -- The words that were written, two for each line that the reply counts, are exactly the old file's entries that do not read whole with their first reasons; behind them the lent list is zero.
    pub lent_list : ListOf file head listed
    lent_list = subst (ListOf file head) (sym written_list) lines_listed

    pub lent_list_rest : (salvaged file words room).list ≡ padded words listed
    lent_list_rest = a.list ∙ ap (padded words) (sym written_list)

  -- Salvaged again, with room for it, it is answered with its length, no line and as many entries; the list is all zero, and the output is the same file.
  pub lent_again : (words' room' : ℕ) → counts.size ≤ room'
      → salvaged written words' room' ≡ record { reply = given (record { size = counts.size; lines = 0; kept = counts.kept }); list = padded words' []; out = padded room' written }
  unfolding salvaged
  lent_again words' room' fits = let same = written_file a in
      let long : length a.s.file ≡ counts.size = sym (ap (λ (c : Counts). c.size) a.counted) in
      let many : length a.s.kept ≡ counts.kept = sym (ap (λ (c : Counts). c.kept) a.counted) in
      let g = salvage_again file words words' room room' a.s a.is (omega (arith, long, fits)) in
      ap (λ (f : List ℕ). replied_of words' room' (salvaged_of f words' room')) same
      ∙ ap (replied_of words' room') g.answered
      ∙ (λ i. record {
        reply = given (record { size = length (g.same.same_file i); lines = length (g.same.no_lines i) / 2; kept = g.same.same_count i });
        list = padded words' (g.same.no_lines i);
        out = padded room' (g.same.same_file i);
      })
      ∙ (λ i. record { reply = given (record { size = long i; lines = 0; kept = many i }); list = padded words' []; out = padded room' (sym same i) })

  -- No line: the same answers of lookups in it and in the old file.
  module _ (dropped : counts.lines ≡ 0) where
    pub lent_same : (strict strict' : Bool) → SameAnswers strict written strict' file
    lent_same strict strict' =
        subst (λ (f : List ℕ). SameAnswers strict f strict' file) (sym (written_file a)) (salvage_same file words room a.s a.is (nothing_dropped a dropped) strict strict')

    pub lent_same_simply : SameSimply written file
    lent_same_simply = subst (λ (f : List ℕ). SameSimply f file) (sym (written_file a)) (salvage_same_simply file words room a.s a.is (nothing_dropped a dropped))
