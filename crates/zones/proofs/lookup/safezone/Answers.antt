-- `zones::lookup::safezone` meets its contract: the calls' promises, put together.
use Rattle.numbers.proofs.Prelude.{binary32, of_bits, mul, div, ap, ◌∙◌}
use lib.Ieee.{to_bits}
use Rattle.table.specs.Find.{ninety}
use Rattle.zones.specs.Lookup.{safezone_bits}
use Rattle.numbers.specs.Float.Root as R
use Rattle.zones.proofs.lookup.safezone.Goals as goal

pub returns-then-asked : goal.returns-then-asked
unfolding of_bits safezone_bits
returns-then-asked c =
    let distance = c.sqrt.ensures ∙ ap R.root c.of_u64.ensures in
    rw c.if-asked.true (c.bits_of.ensures ∙ (λ i. to_bits binary32 (div binary32 (mul binary32 (distance i) ninety) (c.factor.ensures i))))

pub returns : goal.returns
unfolding safezone_bits
returns c =
    rw c.if-asked.false
