-- What the program prints for each input: an instant in eight bytes, low byte first, then a TZif file.
use Rattle.std.specs.Prelude.{Option, Some, None, if◌then◌else◌, ◌+◌, ◌*◌, ◌^◌, ◌≤◌, ◌≡◌}
use Rattle.numbers.specs.{Lists.{zeros}, Prelude.{ℕ, eqb, ltb, ℤ, length, take, drop, List, w64, to_z}}
use Rattle.calendar.specs.{Civil.{CivilOf}, declared.civil.Reading.{Reading}}
use Rattle.localtime.specs.Local.{local_time, scale_at}
use Rattle.hour.specs.Line.{hour_line, unknown_line, refused_line}
use Rattle.line.specs.{Bytes.{word_at}, Put.{Put}}
use Rattle.tzif.specs.{Local.{Replied, replied}, Reply.{Reply, given, refused, refusal}, declared.local.Local.{Local}}

-- in two's complement
abbrev pub instant_of : List ℕ → ℤ
instant_of input = to_z w64 (word_at input 0 + 2 ^ 32 * word_at input 4)

-- 91, whatever a file says, where it reads the instant on its own scale, which counts leap seconds: the clock goes by UNIX time's
unfoldable pub on_scale : ℕ → Reply (Option Local) → Reply (Option Local)
on_scale kind time = if eqb kind 2 then refused (refusal 91 0) else time

-- local time that a clock may show, by a file at an instant, with so many bytes for the abbreviation
abbrev pub shown_by : List ℕ → ℤ → ℕ → Replied
shown_by file instant room = replied (on_scale (scale_at file instant).kind (local_time file instant room).reply) (local_time file instant room).text

-- over 65,536 bytes refusal 1, under eight 2 with the length; else by the file behind the instant
unfoldable pub answer_of : List ℕ → ℕ → Replied
answer_of input room =
    if ltb 65536 (length input) then replied (refused (refusal 1 0)) (zeros room)
    else (if ltb (length input) 8 then replied (refused (refusal 2 (length input))) (zeros room)
    else shown_by (drop 8 input) (instant_of input) room)

-- what a clock shows by a local time; 61 outside the years 1 to 9999
unfoldable pub civil_line : Local → List ℕ → Option Reading → List ℕ
civil_line local name (Some reading) = hour_line reading local name
civil_line local name None = refused_line (refusal 61 0)

pub record HourOf (instant : ℤ) (local : Local) (name line : List ℕ) : Type 0 where
  pub civil : Option Reading
  pub shows : CivilOf instant local.offset civil
  pub is : line ≡ civil_line local name civil

-- the line for an answer
unfoldable pub LineFor : ℤ → Reply (Option Local) → List ℕ → List ℕ → Type 0
LineFor instant (given (Some local)) text line = HourOf instant local (take local.length text) line
LineFor instant (given None) text line = line ≡ unknown_line
LineFor instant (refused why) text line = line ≡ refused_line why

-- a line for an answer went into a buffer from its start on
pub record Answered (instant : ℤ) (answer : Replied) (before after : List ℕ) (next : ℕ) : Type 0 where
  pub line : List ℕ
  pub is : LineFor instant answer.reply answer.text line
  pub put : Put before 0 line after next

-- the line for an input stands at the buffer's front, whole
pub record Printed (input : List ℕ) (room : ℕ) (out : List ℕ) (used : ℕ) : Type 0 where
  pub line : List ℕ
  pub is : LineFor (instant_of input) (answer_of input room).reply (answer_of input room).text line
  pub fits : used ≤ length out
  pub whole : take used out ≡ line
