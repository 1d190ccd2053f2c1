-- `tzif::text::lend` meets its contract.
use Rattle.numbers.proofs.Prelude.{◌-◌, length}
use Rattle.tzif.proofs.{Buffers.{Lending}}
use Rattle.tzif.proofs.text.lend.Given as goal

abbrev pub invariant-loop-i : goal.invariant-loop-i
invariant-loop-i l = Lending l.name l.initial.text l.text l.i

abbrev pub decreases-loop-i : goal.decreases-loop-i
decreases-loop-i l = length l.initial.text - l.i
