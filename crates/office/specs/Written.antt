-- How a border and an index go over to C.
use Rattle.std.specs.Prelude.{◌∷◌}
use Rattle.numbers.specs.{Prelude.{ℕ, List, []}, Spoken.{Spoken, said_of}}
use Rattle.index.specs.Index.{Indexed}
use Rattle.writer.specs.Writer as W

-- how long what was written is
abbrev pub length_value : ℕ → List ℕ
length_value length = length ∷ []

-- a border, with all lent bytes
abbrev pub written_spoken : W.Replied → Spoken
written_spoken left = record { said = said_of length_value left.reply; lent = left.out ∷ [] }

-- how many words an index has, with all lent words
abbrev pub index_spoken : Indexed → Spoken
index_spoken left = record { said = said_of length_value left.reply; lent = left.words ∷ [] }
