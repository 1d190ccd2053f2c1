-- S-4: what is written for a request.
use Rattle.std.specs.Prelude.{if◌then◌else◌, ◌+◌, ◌≤◌, ◌∷◌, ◌++◌, ◌≡◌}
use Rattle.numbers.specs.{Prelude.{ℕ, eqb, length, take, List, []}, Reply.{Reply, given, refused, ◌>>=◌}, declared.refusal.Refusal.{Refusal}}
use Rattle.line.specs.Put.{decimal}
use Rattle.shell.specs.{Text.{bytes}, Words.{words_of}, declared.answer.Answered.{Answered}}
use Rattle.slip.specs.Slip.{slip_of}

-- the program's rooms: 1,024 hits of four words, 16,384 bytes of text, 4,096 bytes of line
abbrev pub hit_words : ℕ
hit_words = 4096

abbrev pub text_room : ℕ
text_room = 16384

abbrev pub line_room : ℕ
line_room = 4096

-- the line of the slip that a request asks for; the program has no atlas
unfoldable pub slip_for : List ℕ → List ℕ → List ℕ → Reply (List ℕ)
slip_for request map zones = do
  slip ← slip_of request map [] zones hit_words text_room line_room
  given slip.line

-- "not stamped: 86 0 0 no zone holds the fix": number, cause, detail, words
unfoldable pub reason_line : Refusal → List ℕ
reason_line why =
    bytes "not stamped:"
    ++ ((32 ∷ decimal why.number)
    ++ ((32 ∷ decimal why.cause)
    ++ ((32 ∷ decimal why.detail)
    ++ ((32 ∷ bytes (words_of why.number))
    ++ (10 ∷ [])))))

-- a line for a slip, and for a reason; 83, another sentence, is passed over
unfoldable pub line_for : Reply (List ℕ) → List ℕ
line_for (given line) = line ++ (10 ∷ [])
line_for (refused why) = if eqb why.number 83 then [] else reason_line why

-- 1 where it is not stamped; 83 counts for nothing
unfoldable pub fault_for : Reply (List ℕ) → ℕ
fault_for (given line) = 0
fault_for (refused why) = if eqb why.number 83 then 0 else 1

-- ---- what the code answers
-- what is lent has the program's rooms; the output one byte more, for the line's end
pub record Rooms (hits text out : List ℕ) : Type 0 where
  pub hit_room : length hits ≡ hit_words
  pub room_for_text : length text ≡ text_room
  pub room_for_line : length out ≡ line_room + 1

-- the bytes for a reply stand at the output's front, whole
pub record Answers (reply : Reply (List ℕ)) (hits text out : List ℕ) (answered : Answered) : Type 0 where
  pub rooms : Rooms hits text out
  pub fits : answered.size ≤ line_room + 1
  pub line : take answered.size out ≡ line_for reply
  pub fault : answered.fault ≡ fault_for reply
