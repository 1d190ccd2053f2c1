-- `verdict::edge::slope_between` meets its contract: the body is the definition.
use Rattle.numbers.proofs.Prelude.{refl}
use Rattle.verdict.specs.Edge.{slope_of}
use Rattle.verdict.proofs.edge.slope_between.Goals as goal

pub returns : goal.returns
unfolding slope_of
returns c =
    refl
