-- A mark, read from words.
use Rattle.std.specs.Prelude.{if◌then◌else◌, ◌+◌}
use Rattle.numbers.specs.{Point.{read_i32}, Prelude.{ℕ, eqb, get_or, true, false, List}}
use Rattle.border.specs.{Place.{point_at}, declared.{place.Point.{Point}, reader.{Reader.{Reader}, Run.{Run, TheVariants.{Idle, Forward, Backward}}}}}

-- a word, 0 behind the last
abbrev pub word_at : List ℕ → ℕ → ℕ
word_at words i = get_or words i 0

-- a point, each coordinate by its 32 bits
abbrev pub point_in : List ℕ → ℕ → Point
point_in words at = point_at (read_i32 (word_at words at)) (read_i32 (word_at words (at + 1)))

-- a run by its kind; any other than 1 and 2 is none
unfoldable pub run_of : ℕ → ℕ → ℕ → Run
run_of kind next end = if eqb kind 1 then Forward next end else (if eqb kind 2 then Backward next end else Idle)

-- how many words a mark has
abbrev pub mark_wide : ℕ
mark_wide = 11

-- the corners of its box, its first point, and the state there of a border with this first point
abbrev pub low_in : List ℕ → ℕ → Point
low_in words at = point_in words at

abbrev pub high_in : List ℕ → ℕ → Point
high_in words at = point_in words (at + 2)

abbrev pub start_in : List ℕ → ℕ → Point
start_in words at = point_in words (at + 4)

abbrev pub state_in : List ℕ → ℕ → Point → Reader
state_in words at first = record {
  place = word_at words (at + 6);
  moves = word_at words (at + 7);
  begun = true;
  closed = false;
  run = run_of (word_at words (at + 8)) (word_at words (at + 9)) (word_at words (at + 10));
  point = start_in words at;
  first = first;
}
