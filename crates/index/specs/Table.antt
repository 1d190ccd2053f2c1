-- The table of a file that can be indexed: every row can be read, none runs past the table's end, and they are in order.
use Rattle.std.specs.Prelude.{◌-◌, ◌^◌, ◌&&◌, ◌∷◌}
use Rattle.numbers.specs.{Prelude.{ℕ, leb, ℤ, negsuc, le_z, Bool, List, []}, Reply.{Reply, given, refused, plain, demand, ◌>>=◌, ◌>>◌}}
use Rattle.table.specs.{Ordered.{lowest}, Rows.{Rows, row, table_end, unreadable, rows_in}, declared.rows.Row.{Row}}
use Rattle.header.specs.declared.header.Head.{Head}
use Rattle.table.specs.Rows as T

-- a row may stand behind one with this lower latitude in a table with this end
abbrev pub is_next : ℕ → ℤ → Row → Bool
is_next end floor r = leb r.next end && le_z floor (lowest r)

-- its rows as a list, none below a floor; 34 where it is no such table
unfoldable pub table_from : ℕ → ℤ → Rows → Reply (List Row)
table_from end floor (row r rows) = do
  demand (is_next end floor r) (plain 34)
  rest ← table_from end (lowest r) rows
  given (r ∷ rest)
table_from end floor table_end = given []
table_from end floor unreadable = refused (plain 34)
table_from end floor (T.refused n) = refused (plain 34)

-- the lowest coordinate, -2 ^ 31
abbrev pub bottom : ℤ
bottom = negsuc (2 ^ 31 - 1)

-- of a file with this header
unfoldable pub table_of : List ℕ → Head → Reply (List Row)
table_of file head = table_from head.sections.metadata bottom (rows_in file head)
