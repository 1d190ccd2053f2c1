-- `verdict::edge::is_straight` meets its contract: equality is tested on the bits.
use Rattle.numbers.proofs.Prelude.{rules, w32, SFits}
use Rattle.verdict.proofs.{Compared.{same_bits, same_read, differ_read}}
use Rattle.verdict.specs.Edge.{straight}
use Rattle.verdict.proofs.edge.is_straight.Goals as goal

pub returns-then-to-from : goal.returns-then-to-from
unfolding straight
returns-then-to-from c =
    let x : SFits w32 c.args.to.lon.0 = search rules in
    let y : SFits w32 c.args.from.lon.0 = search rules in
    rw (same_bits x y, same_read x y c.if-to-from.true)

pub returns-else-to-from : goal.returns-else-to-from
unfolding straight
returns-else-to-from c =
    let x : SFits w32 c.args.to.lon.0 = search rules in
    let y : SFits w32 c.args.from.lon.0 = search rules in
    let u : SFits w32 c.args.to.lat.0 = search rules in
    let v : SFits w32 c.args.from.lat.0 = search rules in
    rw (differ_read x y c.if-to-from.false) (same_bits u v)
