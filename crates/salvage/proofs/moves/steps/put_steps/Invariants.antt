-- `salvage::moves::steps::put_steps` meets its contract. The measure is what can still be read.
use Rattle.numbers.proofs.Prelude.{refl}
use Rattle.border.{proofs.{Room.{left}}, specs.{Encoding.{encoded_by}, declared.reader.Version.TheVariants.{Packed}}}
use Rattle.salvage.proofs.moves.{steps.{Stepping.{Stepping}}}
use Rattle.salvage.proofs.moves.steps.put_steps.Given as goal

abbrev pub invariant-loop-later : goal.invariant-loop-later
invariant-loop-later l = Stepping l.file (encoded_by l.strict Packed l.data) refl l.place l.initial.out l.at l.out l.next l.reader

abbrev pub decreases-loop-later : goal.decreases-loop-later
decreases-loop-later l = left l.file l.reader
