-- `table::usual::bounds_at` meets its contract: each number is the one at its place.
use Rattle.numbers.proofs.Prelude.{◌∙◌}
use Rattle.table.specs.Table.{bounds_of}
use Rattle.table.proofs.usual.bounds_at.Goals as goal

pub returns : goal.returns
returns c =
    c.bounds_of.ensures ∙ (λ i. bounds_of (c.long_at-south.ensures i) (c.long_at-west.ensures i) (c.long_at-north.ensures i) (c.long_at-east.ensures i))
