-- `table::find::fix_of` meets its contract: each number read back from its bits.
use Rattle.numbers.proofs.Prelude.{sfits_of, of_bits, ◌∙◌, w32, to_z-of_z}
use Rattle.table.specs.Find.{fix_of}
use Rattle.table.proofs.find.fix_of.Goals as goal

pub returns : goal.returns
unfolding fix_of of_bits
returns c =
    let lat = to_z-of_z w32 c.to_fixed.result (sfits_of c.to_fixed.type_inv) ∙ c.to_fixed.ensures in
    let lon = to_z-of_z w32 c.to_fixed-2.result (sfits_of c.to_fixed-2.type_inv) ∙ c.to_fixed-2.ensures in
    λ i. record { lat = record { 0 = lat i }; lon = record { 0 = lon i } }
