-- Bytes that go into a lent output, counted with a cap: repeated runs can make a border longer than any number.
use Rattle.std.specs.Prelude.{◌+◌, ◌^◌, ◌≤◌, ◌<◌, ◌≡◌}
use Rattle.numbers.specs.Prelude.{ℕ, length, List}
use Rattle.numbers.specs.{Answer.{Answer, found, failed, refused}, declared.point.RawPoint.{RawPoint}}
use Rattle.writer.specs.inner.Stored.{Stored}

-- past any file: counting stops there
abbrev pub cap : ℕ
cap = 2 ^ 31

-- the bytes were stored from a place on, as many as fit, and the next place is behind all of them; or they reach the cap, and so does the next place
pub record Capped (before : List ℕ) (place : ℕ) (bytes after : List ℕ) (next : ℕ) : Type 0 where
  pub fits : next < cap → Stored before place bytes after next
  pub over : cap ≤ next → cap ≤ place + length bytes
  pub size : length after ≡ length before

-- moves that could be read were written, by their bytes
abbrev pub Copied : (List RawPoint → List ℕ) → Answer (List RawPoint) → List ℕ → ℕ → List ℕ → ℕ → Type 0
Copied bytes (found moves) before place after next = Capped before place (bytes moves) after next
Copied bytes failed before place after next = Unit {0}
Copied bytes (refused n) before place after next = Unit {0}
