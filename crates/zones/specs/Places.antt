-- Where a match came from (request Q-13): the entry at its place, and document 01's lookups, which know no places and have three words a hit.
use Rattle.std.specs.Prelude.{◌/◌, ◌∷◌, ◌≡◌}
use Rattle.numbers.specs.{Answer.{found}, Lists.{zeros, padded}, Prelude.{ℕ, Bool, true, false, List, []}, Reply.{Reply, given, refused, ◌>>=◌}, Varint.{forward_at}}
use Rattle.table.specs.{Find.{fix_of, Matched, matched_by}, Rows.{Rows, row, table_end, unreadable, rows_in}, Search.{searched_rows}, Table.{entry_by, holds}, declared.hits.Hit.{Hit}}
use Rattle.table.specs.declared.{location.Location.{Location}, rows.Row.{Row}, table.Entry.{Entry}}
use Rattle.header.specs.{Header.{head_of}, declared.header.Head.{Head}}
use Rattle.zones.specs.{Lent.{Outcome, Replied, replied}, Lookup.{zones_from}, Simple.{described_from}, declared.{lookup.Zones.{Zones}, simple.Described.{Described}}}
use Rattle.table.specs.Rows as T

-- ---- the entry behind a match
-- one of these rows
pub data Listed (r : Row) : Rows → Type 0 where
  here : {rows : Rows} → Listed r (row r rows)
  later : {other : Row} {rows : Rows} → Listed r rows → Listed r (row other rows)

-- A row of the file's table has the match's number, metadata id and place; its entry is read there, and its box holds the location.
pub record EntryOf (file : List ℕ) (location : Location) (match : Hit) : Type 0 where
  pub head : Head
  pub opened : head_of file ≡ given head
  pub table_row : Row
  pub listed : Listed table_row (rows_in file head)
  pub numbered : table_row.id ≡ match.polygon
  pub same_id : table_row.metadata ≡ match.metadata
  pub placed : table_row.place ≡ match.place
  pub entry : Entry
  pub reads : entry_by (forward_at file) match.place ≡ found entry
  pub box : table_row.bounds ≡ entry.bounds
  pub held : holds entry.bounds (fix_of location head.preamble.precision) ≡ true

-- ---- document 01's lookups
-- a row without its place
abbrev pub placeless_row : Row → Row
placeless_row r = record { place = 0; id = r.id; metadata = r.metadata; polygon = r.polygon; bounds = r.bounds; next = r.next }

unfoldable pub placeless : Rows → Rows
placeless (row r rows) = row (placeless_row r) (placeless rows)
placeless table_end = table_end
placeless unreadable = unreadable
placeless (T.refused n) = T.refused n

-- polygon id, metadata id, kind
unfoldable pub three_words : List Hit → List ℕ
three_words [] = []
three_words (hit ∷ hits) = hit.polygon ∷ hit.metadata ∷ hit.kind ∷ three_words hits

-- the matches by a search that knows no places, with room for so many hits
unfoldable pub matched_placeless : List ℕ → Head → Location → Bool → ℕ → Reply Matched
matched_placeless file head location asked room = matched_by head location (λ fix. searched_rows file head fix asked room (placeless (rows_in file head)))

-- the reply and both lent buffers, with three words a hit
unfoldable pub replied_in_three : {A : Type 0} → ℕ → ℕ → Reply (Outcome A) → Replied A
replied_in_three n room (given o) = replied (given o.answer) (padded n (three_words o.matches)) (padded room o.text)
replied_in_three n room (refused why) = replied (refused why) (zeros n) (zeros room)

-- lookup and simple lookup
unfoldable pub looked_up_in_three : List ℕ → Location → Bool → ℕ → ℕ → Replied Zones
looked_up_in_three file location asked n room = replied_in_three n room (head_of file >>= λ head. zones_from file head asked room (matched_placeless file head location asked (n / 3)))

unfoldable pub simply_looked_in_three : List ℕ → Location → ℕ → ℕ → Replied Described
simply_looked_in_three file location n room = replied_in_three n room (head_of file >>= λ head. described_from file head room (matched_placeless file head location false (n / 3)))

-- the word of each four that is the place, left out
unfoldable pub leave_out : List ℕ → List ℕ
leave_out (a ∷ b ∷ c ∷ d ∷ ws) = a ∷ b ∷ c ∷ leave_out ws
leave_out (a ∷ b ∷ c ∷ []) = a ∷ b ∷ c ∷ []
leave_out (a ∷ b ∷ []) = a ∷ b ∷ []
leave_out (a ∷ []) = a ∷ []
leave_out [] = []

abbrev pub without_places : {A : Type 0} → Replied A → Replied A
without_places r = replied r.reply (leave_out r.hits) r.text
