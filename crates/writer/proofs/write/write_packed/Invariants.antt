-- `writer::write::write_packed` meets its contract.
use Rattle.numbers.proofs.Prelude.{◌-◌}
use Rattle.writer.specs.Moves.{moves_of}
use Rattle.writer.proofs.{Packing.{Packing}}
use Rattle.writer.proofs.write.write_packed.Given as goal

abbrev pub invariant-loop-j : goal.invariant-loop-j
invariant-loop-j l = Packing l.initial.out (moves_of l.lats l.lons) l.kept l.count l.j l.next l.out l.place
