-- `writer::checks::none_repeated` meets its contract.
use Rattle.numbers.proofs.Prelude.{◌-◌, ◌≤◌, length, drop, ◌≡◌}
use Rattle.writer.specs.{Moves.{moves_of, is_move}, Writer.{every}}
use Rattle.writer.proofs.checks.none_repeated.Given as goal

abbrev pub invariant-loop-i : goal.invariant-loop-i
invariant-loop-i l = (1 ≤ l.i) × (every is_move (drop l.i (moves_of l.lats l.lons)) ≡ every is_move (drop 1 (moves_of l.lats l.lons)))
