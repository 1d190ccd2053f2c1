-- `verdict::edge::same_point` meets its contract: what the derived `==` ensures.
use Rattle.numbers.proofs.Prelude.{rules, w32, SFits}
use Rattle.border.proofs.Ordered.{equal_is}
use Rattle.verdict.specs.Edge.{same_point}
use Rattle.verdict.proofs.edge.same_point.Goals as goal

pub returns : goal.returns
unfolding same_point
returns c =
    let p = c.args.one in
    let q = c.args.other in
    rw (equal_is p.lat.0 q.lat.0, equal_is p.lon.0 q.lon.0) at c.eq.ensures
