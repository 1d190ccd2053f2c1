-- When an index goes with a file, as request Q-11 has it: by length, and by a full comparison of header and table.
use Rattle.std.specs.Prelude.{◌+◌, ◌*◌, ◌&&◌, if◌then◌else◌}
use Rattle.numbers.specs.Prelude.{ℕ, zero, suc, eqb, leb, length, take, Bool, true, false, List}
use Rattle.numbers.specs.Reply.{Reply, given, refused, plain, demand, ◌>>=◌, ◌>>◌}
use Rattle.table.specs.Find.{is_precision}
pub use Rattle.marks.specs.Words.{word_at}
use Rattle.header.specs.{Header.{head_of}, declared.header.Head.{Head}}
use Rattle.index.specs.Index.{four_at, words_for, records_at, lists_at}

-- the lists begin where they must: behind so many records and the kept bytes
abbrev pub begin_of : List ℕ → ℕ → ℕ
begin_of words size = lists_at (word_at words 2) size

-- the words have a head that goes with a file of this length and metadata start; kept bytes and lists are inside
abbrev pub is_headed : List ℕ → ℕ → ℕ → Bool
is_headed words size length' =
    leb records_at (length words)
    && (eqb (word_at words 0) length'
    && (eqb (word_at words 1) size && (eqb (word_at words 3) (begin_of words size) && (leb (begin_of words size) (length words) && leb (word_at words 2051) (length words)))))

-- so many words from a place on are these bytes, four a word
unfoldable pub keeps_from : List ℕ → ℕ → List ℕ → ℕ → ℕ → Bool
keeps_from words at bytes zero i = true
keeps_from words at bytes (suc more) i = if eqb (word_at words at) (four_at bytes i) then keeps_from words (at + 1) bytes more (i + 4) else false

-- the head, and every kept byte
unfoldable pub is_tied : List ℕ → Head → List ℕ → Bool
is_tied file head words =
    let size = head.sections.metadata in
    is_headed words size (length file) && keeps_from words (records_at + 7 * word_at words 2) (take size file) (words_for size) 0

-- opening's refusals, 16, then 36 where they differ
abbrev pub tied_with : List ℕ → Head → List ℕ → Reply (Unit {0})
tied_with file head words = do
  demand (is_precision head.preamble.precision) (plain 16)
  demand (is_tied file head words) (plain 36)

unfoldable pub tied_of : List ℕ → List ℕ → Reply (Unit {0})
tied_of file words = do
  head ← head_of file
  tied_with file head words
