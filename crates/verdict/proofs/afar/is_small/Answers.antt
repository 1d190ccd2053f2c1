-- `verdict::afar::is_small` meets its contract: it is a field that holds the point.
use Rattle.verdict.specs.{Far.{small, is_small}, inner.Gliding.{in_span, within}}
use Rattle.verdict.proofs.afar.is_small.Goals as goal

pub returns : goal.returns
unfolding in_span is_small small within
returns c =
    c.is_within.ensures
