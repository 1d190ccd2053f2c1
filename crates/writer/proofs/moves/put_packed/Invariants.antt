-- `writer::moves::put_packed` meets its contract.
use Rattle.numbers.{proofs.Prelude.{◌-◌, slice, flat_map}}
use Rattle.writer.specs.{Moves.{packed_move_bytes, moves_of}}
use Rattle.writer.proofs.{Stores.{Left}}
use Rattle.writer.proofs.moves.put_packed.Given as goal

abbrev pub invariant-loop-i : goal.invariant-loop-i
invariant-loop-i l =
    Left l.initial.out l.place (flat_map packed_move_bytes (slice l.from l.to (moves_of l.lats l.lons))) l.out l.next (flat_map packed_move_bytes (slice l.i l.to (moves_of l.lats l.lons)))
