-- How the reply of salvage goes over to C.
use Rattle.std.specs.Prelude.{◌∷◌}
use Rattle.numbers.specs.{Prelude.{ℕ, List, []}, Spoken.{said_of, Spoken}}
use Rattle.salvage.specs.{Salvage.{Replied}, declared.rescue.reply.Counts.{Counts}}

-- the new file's length, the list's lines, the entries kept
abbrev pub counts_values : Counts → List ℕ
counts_values counts = counts.size ∷ counts.lines ∷ counts.kept ∷ []

-- the list of dropped entries, then the file
abbrev pub salvage_spoken : Replied → Spoken
salvage_spoken left = record { said = said_of counts_values left.reply; lent = left.list ∷ left.out ∷ [] }
