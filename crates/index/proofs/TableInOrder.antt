-- The tables that can be indexed are those in order, and the list has their rows. Assumes nothing.
use Rattle.numbers.proofs.Prelude.{ℕ, le-leb, le-ltb, leb-true, ltb-false, ltb, leb, ℤ, le_z, true, false, List, [], ◌∷◌, ◌≡◌, refl, sym, ap, subst, ◌∙◌, arith}
use Rattle.numbers.{proofs.{Replies.{given_from, demanded, met, onward, given_one}, Tests.{both}}, specs.Reply.{given, plain}}
use Rattle.table.specs.{Ordered.{lowest, Ordered, ends, next}, Rows.{Rows, row, table_end, unreadable, rows_in, as_rows}, declared.rows.Row.{Row}}
use Rattle.header.specs.declared.header.Head.{Head}
use Rattle.index.specs.Table.{is_next, table_from, bottom, table_of}
use Rattle.table.specs.Rows as T

module _ (end : ℕ) where
  in_front : {floor : ℤ} {r : Row} {table : Rows} (rest : List Row) → is_next end floor r ≡ true → (table ≡ as_rows rest) × Ordered end (lowest r) table
      → (row r table ≡ as_rows (r ∷ rest)) × Ordered end floor (row r table)
  unfolding as_rows
  in_front {floor} {r} rest is behind = let parts = both (leb r.next end) (le_z floor (lowest r)) is in
      (ap (λ (rows : Rows). row r rows) behind.0, next parts.1 (le-ltb end r.next (leb-true r.next end parts.0)) behind.1)

  -- a table whose rows are given as a list has these rows, in order
  pub rows_in_order : (floor : ℤ) (table : Rows) {rows : List Row} → given rows ≡ table_from end floor table → (table ≡ as_rows rows) × Ordered end floor table
  unfolding table_from as_rows
  rows_in_order floor (row r table) {rows} e = let asked = demanded (is_next end floor r) (plain 34) e in
      let behind = given_from (table_from end (lowest r) table) (λ (rest : List Row). given (r ∷ rest)) asked.1 in
      let whole : r ∷ behind.it ≡ rows = sym (given_one behind.onto) in
      subst (λ (rs : List Row). (row r table ≡ as_rows rs) × Ordered end floor (row r table)) whole (in_front behind.it asked.0 (rows_in_order (lowest r) table behind.is))
  rows_in_order floor table_end {rows} e = subst (λ (rs : List Row). (table_end ≡ as_rows rs) × Ordered end floor table_end) (sym (given_one e)) (refl, ends)
  rows_in_order floor unreadable e = let z : ◌≡◌ {A = ℕ} 0 1 = cc in absurd (omega arith)
  rows_in_order floor (T.refused n) e = let z : ◌≡◌ {A = ℕ} 0 1 = cc in absurd (omega arith)

  -- the list of a table's rows
  pub record InList (floor : ℤ) (table : Rows) : Type 0 where
    pub rows : List Row
    pub gives : given rows ≡ table_from end floor table

  listed_front : {floor : ℤ} {r : Row} {table : Rows} → le_z floor (lowest r) ≡ true → ltb end r.next ≡ false → InList (lowest r) table → InList floor (row r table)
  unfolding table_from
  listed_front {floor} {r} {table} up inside behind = let is : is_next end floor r ≡ true = rw (le-leb r.next end (ltb-false end r.next inside), up) in
      record { rows = r ∷ behind.rows; gives = onward behind.gives (λ (rest : List Row). given (r ∷ rest)) ∙ met is (plain 34) _ }

  -- and a table in order has one
  pub ordered_listed : {floor : ℤ} {table : Rows} → Ordered end floor table → InList floor table
  unfolding table_from
  ordered_listed ends = record { rows = []; gives = refl }
  ordered_listed (next up inside order) = listed_front up inside (ordered_listed order)

-- Where a file's table can be indexed, it is in order, and the list has its rows.
pub table_in_order : (file : List ℕ) (head : Head) {rows : List Row} → given rows ≡ table_of file head → (rows_in file head ≡ as_rows rows) × Ordered head.sections.metadata bottom (rows_in file head)
unfolding table_of
table_in_order file head e = rows_in_order head.sections.metadata bottom (rows_in file head) e

-- And where it is in order, it can be indexed: so 34 is said of the others alone.
pub in_order_listed : (file : List ℕ) (head : Head) → Ordered head.sections.metadata bottom (rows_in file head) → InList head.sections.metadata bottom (rows_in file head)
in_order_listed file head order = ordered_listed head.sections.metadata order
