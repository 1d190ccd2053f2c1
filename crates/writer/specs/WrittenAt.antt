-- A border that the writer wrote, at a place of a file.
use Rattle.std.specs.Prelude.{◌≡◌}
use Rattle.numbers.specs.{Prelude.{ℕ, ℤ, List}, Reply.{given}}
use Rattle.writer.specs.{Writer.{border_of}, declared.write.Piece.{Piece}}
use Rattle.border.specs.Written.{Placed}

-- the border of two lists, accepted in some version with some pieces behind some earlier data, and written at a place of a file behind the same data
pub record WrittenAt (version : ℕ) (lats lons : List ℤ) (file : List ℕ) (base place : ℕ) : Type 0 where
  pub pieces : List Piece
  pub earlier : List ℕ
  pub bytes : List ℕ
  pub accepted : border_of version lats lons pieces earlier ≡ given bytes
  pub placed : Placed earlier bytes file base place
