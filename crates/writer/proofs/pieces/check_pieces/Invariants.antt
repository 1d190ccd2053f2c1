-- `writer::pieces::check_pieces` meets its contract. The loop's invariant: what the check knows is so of the pieces so far, if it was so of none.
use Rattle.numbers.proofs.Prelude.{take, []}
use Rattle.writer.specs.{Moves.{moves_of}, inner.Stored.{Checked}}
use Rattle.writer.proofs.pieces.check_pieces.Given as goal

abbrev pub invariant-loop-piece : goal.invariant-loop-piece
invariant-loop-piece l =
    Checked l.earlier (moves_of l.lats l.lons) [] l.initial.sofar → Checked l.earlier (moves_of l.lats l.lons) (take l.piece-index l.pieces) l.sofar
