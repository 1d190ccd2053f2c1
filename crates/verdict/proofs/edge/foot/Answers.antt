-- `verdict::edge::foot` meets its contract: the body is the definition, with 1 by its bit pattern.
use Rattle.numbers.proofs.Prelude.{of_bits, refl}
use Rattle.verdict.specs.Edge.{closest_on}
use Rattle.verdict.proofs.edge.foot.Goals as goal

pub returns : goal.returns
unfolding closest_on of_bits
returns c =
    refl
