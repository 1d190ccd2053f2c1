-- `same_index`: files with the same header, the same length and the same bytes up to the metadata have the same index. Assumes nothing.
use Rattle.numbers.proofs.Prelude.{ℕ, suc, ◌-◌, ℤ, length, take, Bool, true, false, List, ◌∷◌, ◌≡◌, refl, sym, ap, ◌∙◌}
use Rattle.numbers.{proofs.{ReadAlike.{reading_alike}, Readings.{reading_grows}, Replies.{onward, after}}, specs.{Reply.{Reply, given, refused, plain, demand, ◌>>=◌, ◌>>◌}, Varint.{reading_of}}}
use Rattle.table.specs.{Find.{is_precision}, Ordered.{lowest}, Rows.{Rows, row, table_end, unreadable, start_at, rows_from, rows_in}, declared.rows.Row.{Row}}
use Rattle.header.specs.{Header.{head_of}, declared.header.Head.{Head}}
use Rattle.index.proofs.SameReading.{table_alike}
use Rattle.index.specs.{Index.{index_of, has_room, index_with, indexed_by, indexed_of, built_in, built_with}, Table.{is_next, table_from, bottom, table_of}}
use Rattle.table.specs.Rows as T

-- ---- a table is a list or 34
pub data Settled : Reply (List Row) → Type 0 where
  lists : {rows : List Row} → Settled (given rows)
  bad : Settled (refused (plain 34))

pub settled : (end : ℕ) (floor : ℤ) (table : Rows) → Settled (table_from end floor table)
unfolding table_from
settled end floor (row r table) = go (is_next end floor r) (settled end (lowest r) table) where
  go : (test : Bool) {reply : Reply (List Row)} → Settled reply → Settled (demand test (plain 34) >> (reply >>= λ rest. given (r ∷ rest)))
  go true lists = lists
  go true bad = bad
  go false s = bad
settled end floor table_end = lists
settled end floor unreadable = bad
settled end floor (T.refused n) = bad

agree : {a b : Reply (List Row)} → Settled a → Settled b → ((rows : List Row) → given rows ≡ a → given rows ≡ b) → ((rows : List Row) → given rows ≡ b → given rows ≡ a) → a ≡ b
agree (lists {rows = rows}) s to from = to rows refl
agree bad (lists {rows = rows}) to from = sym (from rows refl)
agree bad bad to from = refl

-- ---- the same table
module _ (file file' : List ℕ) (head : Head) (long : length file ≡ length file') (bytes : take head.sections.metadata file ≡ take head.sections.metadata file') where
  table_given : (rows : List Row) → given rows ≡ table_of file head → given rows ≡ table_of file' head
  unfolding table_of rows_in rows_from
  table_given rows e =
      table_alike (reading_of head.strict file) (reading_of head.strict file') (reading_grows head.strict file) head.sections.metadata
      (λ place number. reading_alike file file' head.sections.metadata long bytes head.strict place {number = number})
      (suc (head.sections.metadata - head.sections.table)) (start_at head.sections.table) bottom rows e

module _ (file file' : List ℕ) (head : Head) (long : length file ≡ length file') (bytes : take head.sections.metadata file ≡ take head.sections.metadata file') where
  same_table : table_of file head ≡ table_of file' head
  unfolding table_of
  same_table =
      agree (settled head.sections.metadata bottom (rows_in file head)) (settled head.sections.metadata bottom (rows_in file' head)) (table_given file file' head long bytes)
      (table_given file' file head (sym long) (sym bytes))

  same_words : (rows : List Row) → index_of file head rows ≡ index_of file' head rows
  unfolding index_of
  same_words rows = rw (long, bytes)

  same_with : (n : ℕ) → index_with file head n ≡ index_with file' head n
  unfolding built_with
  same_with n = let k : List ℕ → Reply (List ℕ) = λ words. demand (has_room n (length words)) (plain 35) >> given words in
      let precise : Reply (List ℕ) → Reply (List ℕ) = λ reply. demand (is_precision head.preamble.precision) (plain 16) >> reply in
      ap (λ (table : Reply (List Row)). precise (table >>= λ rows. k (index_of file head rows))) same_table ∙ ap precise (after (table_of file' head) (λ rows. ap k (same_words rows)))

  -- Two files that open with the same header, are of one length and have the same bytes up to the metadata have the same index, or the same refusal.
  pub same_index : given head ≡ head_of file → given head ≡ head_of file' → (n : ℕ) → indexed_of file n ≡ indexed_of file' n
  unfolding indexed_of built_in
  same_index e e' n =
      ap (λ (reply : Reply (List ℕ)). indexed_by n reply) (sym (onward e (λ (h : Head). index_with file h n)) ∙ same_with n ∙ onward e' (λ (h : Head). index_with file' h n))
