-- `draft::summed::sums::sum_up` meets its contract.
use Rattle.numbers.proofs.Prelude.{w32, sfits_of, length-take-le, refl, sym, ◌∙◌}
use mir.Facts.{to_z-of_z}
use Rattle.build.proofs.Needed.{under}
use Rattle.draft.proofs.summed.{Afresh.{never_long, never_other, sums_are}, Reached.{reached, arranging, front_most}}
use Rattle.draft.proofs.summed.sums.sum_up.Goals as goal

pub returns-then-texts-gt536870912 : goal.returns-then-texts-gt536870912
returns-then-texts-gt536870912 c =
    λ yards drawn s. never_long _ _ _ _ _ _ _ _ s c.requires.named c.if-texts-gt536870912.true _

pub returns-then-not-is_sum : goal.returns-then-not-is_sum
returns-then-not-is_sum c =
    λ yards drawn s. never_other _ _ _ _ _ _ _ _ s _ c.is_sum.ensures c.if-not-is_sum.true _

pub slice_bounds-table_size-end : goal.slice_bounds-table_size-end
slice_bounds-table_size-end c =
    under _ _ _ (reached _ _ _ _ _ _ c.requires).keys_count c.keys-1.given

pub slice_bounds-table_size-end-2 : goal.slice_bounds-table_size-end-2
slice_bounds-table_size-end-2 c =
    sym (length-take-le _ _ (under _ _ _ (reached _ _ _ _ _ _ c.requires).keys_count c.keys-1.given))

pub greatest_of-requires : goal.greatest_of-requires
greatest_of-requires c =
    ((reached _ _ _ _ _ _ c.requires).boxes, c.requires.few)

pub returns : goal.returns
returns c =
    λ yards drawn s. sums_are _ _ _ _ _ _ _ _ s _ _ _ _ _ _ _ _ _ _ c.lay_out-section.ensures (reached _ _ _ _ _ _ c.requires).places _ _ _ _ c.table_size.ensures
    refl (to_z-of_z {w = w32} (sfits_of c.greatest_of.type_inv) ∙ c.greatest_of.ensures) refl
