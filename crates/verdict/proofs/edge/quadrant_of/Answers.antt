-- `verdict::edge::quadrant_of` meets its contract: the two tests decide as the definition does.
use Rattle.numbers.proofs.Prelude.{rules, w32, SFits}
use Rattle.border.proofs.Signs.{le_read}
use Rattle.verdict.specs.Edge.{quadrant_of}
use Rattle.verdict.proofs.edge.quadrant_of.Goals as goal

pub returns-then-fix-point-2 : goal.returns-then-fix-point-2
unfolding quadrant_of
returns-then-fix-point-2 c =
    let x : SFits w32 c.args.fix.lat.0 = search rules in
    let y : SFits w32 c.args.point.lat.0 = search rules in
    let u : SFits w32 c.args.fix.lon.0 = search rules in
    let v : SFits w32 c.args.point.lon.0 = search rules in
    rw (le_read x y c.if-fix-point.true, le_read u v c.if-fix-point-2.true)

pub returns-else-fix-point-2 : goal.returns-else-fix-point-2
unfolding quadrant_of
returns-else-fix-point-2 c =
    let x : SFits w32 c.args.fix.lat.0 = search rules in
    let y : SFits w32 c.args.point.lat.0 = search rules in
    let u : SFits w32 c.args.fix.lon.0 = search rules in
    let v : SFits w32 c.args.point.lon.0 = search rules in
    rw (le_read x y c.if-fix-point.true, le_read u v c.if-fix-point-2.false)

pub returns-then-fix-point-3 : goal.returns-then-fix-point-3
unfolding quadrant_of
returns-then-fix-point-3 c =
    let x : SFits w32 c.args.fix.lat.0 = search rules in
    let y : SFits w32 c.args.point.lat.0 = search rules in
    let u : SFits w32 c.args.fix.lon.0 = search rules in
    let v : SFits w32 c.args.point.lon.0 = search rules in
    rw (le_read x y c.if-fix-point.false, le_read u v c.if-fix-point-3.true)

pub returns-else-fix-point-3 : goal.returns-else-fix-point-3
unfolding quadrant_of
returns-else-fix-point-3 c =
    let x : SFits w32 c.args.fix.lat.0 = search rules in
    let y : SFits w32 c.args.point.lat.0 = search rules in
    let u : SFits w32 c.args.fix.lon.0 = search rules in
    let v : SFits w32 c.args.point.lon.0 = search rules in
    rw (le_read x y c.if-fix-point.false, le_read u v c.if-fix-point-3.false)
