-- `writer::pieces::check_words` meets its contract.
use Rattle.numbers.proofs.Prelude.{◌/◌, ◌≤◌, length, []}
use Rattle.writer.specs.{Moves.{moves_of}, Pieces.{first_pieces}, inner.Stored.{Checked}}
use Rattle.writer.proofs.pieces.check_words.Given as goal

abbrev pub invariant-loop-i : goal.invariant-loop-i
invariant-loop-i l = (l.i ≤ length l.words / 5) × (Checked l.earlier (moves_of l.lats l.lons) [] l.initial.sofar → Checked l.earlier (moves_of l.lats l.lons) (first_pieces l.i l.words) l.sofar)
