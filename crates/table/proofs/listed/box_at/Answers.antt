-- `table::listed::box_at` meets its contract: twice a coordinate's word is its signed form.
use Rattle.numbers.proofs.Prelude.{◌∙◌}
use Rattle.table.proofs.listed.{Given.{box_read}}
use Rattle.table.specs.Table.{bounds_of}
use Rattle.table.proofs.listed.box_at.Goals as goal

pub returns : goal.returns
returns c =
    c.bounds_of.ensures ∙ (λ i. bounds_of (c.twice-south.ensures.0 i) (c.twice-west.ensures.0 i) (c.twice-north.ensures.0 i) (c.twice-east.ensures.0 i))
    ∙ box_read _ _ _ _ c.twice-south.ensures.1 c.twice-west.ensures.1 c.twice-north.ensures.1 c.twice-east.ensures.1
