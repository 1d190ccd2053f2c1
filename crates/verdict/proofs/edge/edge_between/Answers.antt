-- `verdict::edge::edge_between` meets its contract: the two tests decide as the definition does.
use Rattle.numbers.proofs.Prelude.{rules, w32, SFits}
use Rattle.verdict.proofs.{Compared.{same_read, differ_read}}
use Rattle.verdict.specs.Edge.{edge_of}
use Rattle.verdict.proofs.edge.edge_between.Goals as goal

pub returns-then-lon-from : goal.returns-then-lon-from
unfolding edge_of
returns-then-lon-from c =
    let x : SFits w32 c.args.to.lon.0 = search rules in
    let y : SFits w32 c.args.from.lon.0 = search rules in
    rw (same_read x y c.if-lon-from.true)

pub returns-then-lat-from : goal.returns-then-lat-from
unfolding edge_of
returns-then-lat-from c =
    let x : SFits w32 c.args.to.lon.0 = search rules in
    let y : SFits w32 c.args.from.lon.0 = search rules in
    let u : SFits w32 c.args.to.lat.0 = search rules in
    let v : SFits w32 c.args.from.lat.0 = search rules in
    rw (differ_read x y c.if-lon-from.false, same_read u v c.if-lat-from.true)

pub returns : goal.returns
unfolding edge_of
returns c =
    let x : SFits w32 c.args.to.lon.0 = search rules in
    let y : SFits w32 c.args.from.lon.0 = search rules in
    let u : SFits w32 c.args.to.lat.0 = search rules in
    let v : SFits w32 c.args.from.lat.0 = search rules in
    rw (differ_read x y c.if-lon-from.false, differ_read u v c.if-lat-from.false, c.slope_between.ensures, c.requires.0, c.requires.1)
