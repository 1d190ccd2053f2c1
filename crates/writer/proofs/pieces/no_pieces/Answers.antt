-- `writer::pieces::no_pieces` meets its contract.
use Rattle.numbers.proofs.Prelude.{refl}
use Rattle.writer.specs.Moves.{moves_of}
use Rattle.writer.proofs.{Gathering.{empty}}
use Rattle.writer.proofs.pieces.no_pieces.Goals as goal

pub returns : goal.returns
returns c =
    λ earlier lats lons. empty earlier (moves_of lats lons) _ refl refl refl refl
