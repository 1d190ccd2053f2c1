-- `writer::pieces::run_spells` meets its contract.
use Rattle.numbers.proofs.Prelude.{◌-◌, ◌≤◌, drop, ◌≡◌}
use Rattle.writer.specs.{Moves.{moves_of}, Pieces.{lent_moves, spells}}
use Rattle.writer.proofs.pieces.run_spells.Given as goal

abbrev pub invariant-loop-j : goal.invariant-loop-j
invariant-loop-j l = (l.j ≤ l.piece.count) × (spells l.run l.place (drop l.j (lent_moves (moves_of l.lats l.lons) l.piece)) ≡ spells l.run 0 (lent_moves (moves_of l.lats l.lons) l.piece))
