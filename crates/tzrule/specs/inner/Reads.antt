-- What a step that reads from a cursor says.
use Rattle.std.specs.Prelude.{Option, Some, None, Result, Ok, Err, ◌+◌, ◌≤◌, ◌≡◌}
use Rattle.numbers.specs.Prelude.{ℕ, length, List}
use Rattle.tzrule.specs.{Answer.{Answer, read, fault}, Text.{byte_at}, declared.{cursor.Cursor.{Cursor}, fault.Fault.{Fault}, name.Span.{Span}}}

-- it read what stands there, and the cursor is behind it in the same text; or there is a fault, in the text or at its end
unfoldable pub Reads : {A : Type 0} → Cursor → (List ℕ → ℕ → Answer A) → Result (A × Cursor) Fault → Type 0
Reads here what (Ok (a, rest)) = (rest.text.now ≡ here.text.now) × (what here.text.now here.at ≡ read a rest.at)
Reads here what (Err at) = (what here.text.now here.at ≡ fault at.place) × (at.place ≤ length here.text.now)

-- the cursor is behind the byte
pub record After (here : Cursor) (byte : ℕ) (rest : Cursor) : Type 0 where
  pub stands : byte_at here.text.now here.at ≡ byte
  pub text : rest.text.now ≡ here.text.now
  pub at : rest.at ≡ here.at + 1

-- behind the byte, if it stands here
unfoldable pub Eaten : Cursor → ℕ → Option Cursor → Type 0
Eaten here byte (Some rest) = After here byte rest
Eaten here byte None = byte_at here.text.now here.at ≡ byte → ⊥

-- behind the byte, else a fault here
unfoldable pub Behind : Cursor → ℕ → Result Cursor Fault → Type 0
Behind here byte (Ok rest) = After here byte rest
Behind here byte (Err at) = (byte_at here.text.now here.at ≡ byte → ⊥) × (at.place ≡ here.at)

-- the time is within so many seconds of 604800
pub record Around (span value : ℕ) : Type 0 where
  pub from : 604800 ≤ value + span
  pub to : value ≤ 604800 + span

-- the name is in the text
pub record Spans (end : ℕ) (span : Span) : Type 0 where
  pub ordered : span.start ≤ span.end
  pub inside : span.end ≤ end
