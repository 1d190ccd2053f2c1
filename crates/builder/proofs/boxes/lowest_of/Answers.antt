-- `builder::boxes::lowest_of` meets its contract.
use Rattle.numbers.proofs.Prelude.{w32, sfits_of, ◌∙◌}
use mir.Facts.{to_z-of_z}
use Rattle.std.proofs.lemmas.Iterator.{YieldsList-from_slice, Consumers.{YieldsList-from_copied, reduce_from_yields_List}}
use Rattle.std.specs.Ordering.{int_cmp, min_by_ordering}
use Rattle.builder.proofs.Bests.{lowest_reduced}
use Rattle.builder.proofs.boxes.lowest_of.Goals as goal

pub returns : goal.returns
returns c =
    to_z-of_z {w = w32} (sfits_of c.unwrap_or.type_inv) ∙ c.unwrap_or.ensures ∙ lowest_reduced _ _ (reduce_from_yields_List (λ p z. min_by_ordering (int_cmp p z) p z) _ _ c.min.ensures.ran
    (YieldsList-from_copied {s = c.copied.result} (YieldsList-from_slice c.args.list.now (rw (c.copied.ensures.source) c.iter.ensures.rest))))
