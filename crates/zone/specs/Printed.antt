-- What the program prints for each input.
use Rattle.std.specs.Prelude.{◌≡◌}
use Rattle.numbers.specs.Prelude.{ℕ, drop, get_or, List}
use Rattle.line.specs.Put.{Put}
use Rattle.zone.specs.{Answer.{answer_of}, Lines.{lines_of}}

-- the file's seventh byte says how many fields a match has
abbrev pub count_of : List ℕ → ℕ
count_of input = get_or (drop 8 input) 6 0

-- the lines for the library's answer, with so many words for hits and bytes for text
unfoldable pub printed_of : List ℕ → ℕ → ℕ → List ℕ
printed_of input n room = lines_of (count_of input) (answer_of input n room).reply (answer_of input n room).hits (answer_of input n room).text

-- they stand at a buffer's front, as much of them as fits; hits and text are the library's
pub record Printed (input : List ℕ) (n room : ℕ) (before hits text after : List ℕ) (used : ℕ) : Type 0 where
  pub lines : Put before 0 (printed_of input n room) after used
  pub hits_are : hits ≡ (answer_of input n room).hits
  pub text_is : text ≡ (answer_of input n room).text
