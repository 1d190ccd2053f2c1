-- `tzif::local::offset_bits` meets its contract.
use Rattle.numbers.proofs.Prelude.{rules, ap, ◌∙◌, w32, SFits, of_z, to_z-of_z}
use Rattle.tzif.proofs.local.offset_bits.Goals as goal

pub returns : goal.returns
returns c =
    let fits : SFits w32 c.args.local.offset = search rules in
    c.bits_of.ensures ∙ ap (of_z w32) (to_z-of_z w32 _ fits)
