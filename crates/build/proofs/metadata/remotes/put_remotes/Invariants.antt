-- `build::metadata::remotes::put_remotes` meets its contract.
use Rattle.build.proofs.metadata.{Remoted.{Placing}}
use Rattle.build.proofs.metadata.remotes.put_remotes.Given as goal

abbrev pub invariant-loop-i : goal.invariant-loop-i
invariant-loop-i l = Placing l.lengths l.texts l.initial.out l.place l.out l.next l.at l.i
