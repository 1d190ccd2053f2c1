-- `salvage::rescue::texts::put_texts` meets its contract.
use Rattle.numbers.proofs.Prelude.{◌+◌, ◌-◌}
use Rattle.salvage.proofs.rescue.texts.{Texting.{Texting}}
use Rattle.salvage.proofs.rescue.texts.put_texts.Given as goal

abbrev pub invariant-loop : goal.invariant-loop
invariant-loop l = Texting l.file l.head l.initial.out l.at l.out (l.head.preamble.count + 1 - l.counter) l.place l.next
