-- A run: what it hands to standard output, and its exit status, by what is promised of each turn and piece. The pieces are any.
use Rattle.std.specs.Prelude.{◌≤◌, ◌∷◌, ◌++◌, ◌≡◌}
use Rattle.numbers.specs.Prelude.{ℕ, length, take, List, []}
use Rattle.shell.specs.{Answer.{Answers, slip_for}, Stream.{Served, Finished}, Turn.{Turned}, declared.{answer.Answered.{Answered}, stream.State.{State}, turn.Turn.{Turn}}}

module _ (map zones : List ℕ) where
  -- the turns of a piece from a place and a line so far on: the bytes that are written, and the line that is left
  pub data Turns (chunk : List ℕ) : ℕ → List ℕ → List ℕ → List ℕ → Type 0 where
    over : {at : ℕ} {line : List ℕ} → length chunk ≤ at → Turns chunk at line [] line
    turn : {at : ℕ} {line space hits text out bytes rest : List ℕ} (turned : Turn) → Turned chunk at line space map zones hits text out turned
        → Turns chunk turned.next (take turned.used space) bytes rest
        → Turns chunk at line (take turned.size out ++ bytes) rest

  -- pieces one after another, and the input's end
  pub data Run : List (List ℕ) → List ℕ → List ℕ → Type 0 where
    ends : Run [] [] []
    ends_line : {byte : ℕ} {line hits text out : List ℕ} (answered : Answered) → Answers (slip_for (byte ∷ line) map zones) hits text out answered
        → Run [] (byte ∷ line) (take answered.size out)
    piece : {chunk line bytes rest more : List ℕ} {pieces : List (List ℕ)} → Turns chunk 0 line bytes rest → Run pieces rest more → Run (chunk ∷ pieces) line (bytes ++ more)

  -- the exit status after each piece and at the end, where nothing failed
  pub data Exit : List (List ℕ) → List ℕ → ℕ → ℕ → Type 0 where
    finished : {line : List ℕ} {status answer : ℕ} → Finished line status map zones answer → (answer ≡ 2 → ⊥) → Exit [] line status answer
    served : {chunk line space hits text out : List ℕ} {pieces : List (List ℕ)} {status answer : ℕ} (state : State) → Served chunk line status map zones space hits text out state
        → (state.status ≡ 2 → ⊥)
        → Exit pieces (take state.used space) state.status answer → Exit (chunk ∷ pieces) line status answer
