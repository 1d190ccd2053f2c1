-- `numbers::point::signed` meets its contract.
use Rattle.numbers.proofs.{Prelude.{rules, sfits_of, ◌∙◌, w32, to_z-of_z}, point.{Halves.{even_half, odd_half}}}
use Rattle.numbers.proofs.point.signed.Goals as goal

pub returns-then-value-eq0 : goal.returns-then-value-eq0
returns-then-value-eq0 c =
    to_z-of_z w32 _ (sfits_of c.with_bits.type_inv) ∙ c.with_bits.ensures ∙ even_half _ c.if-value-eq0.true

pub returns-else-value-eq0 : goal.returns-else-value-eq0
returns-else-value-eq0 c =
    to_z-of_z w32 _ (sfits_of c.with_bits-else-value-eq0.type_inv) ∙ c.with_bits-else-value-eq0.ensures ∙ odd_half _ _ c.if-value-eq0.false c.wrapping_sub_u32.type_inv c.wrapping_sub_u32.ensures.value
