-- `verdict::field::is_within` meets its contract: what `lies_in` ensures, twice.
use Rattle.numbers.proofs.{Prelude.{rules, w32, SFits}, write.Gaps.{widened, widens}}
use Rattle.verdict.specs.inner.Gliding.{within}
use Rattle.verdict.proofs.field.is_within.Goals as goal

pub returns-then-lies_in : goal.returns-then-lies_in
unfolding within
returns-then-lies_in c =
    let lat : SFits w32 c.args.p.lat.0 = search rules in
    let lon : SFits w32 c.args.p.lon.0 = search rules in
    let first = rw (widened lat) at c.lies_in.ensures.0 in
    rw (← first, c.if-lies_in.true) (rw (widened lon) at c.lies_in-then-lies_in.ensures.0)

pub returns-else-lies_in : goal.returns-else-lies_in
unfolding within
returns-else-lies_in c =
    let lat : SFits w32 c.args.p.lat.0 = search rules in
    let first = rw (widened lat) at c.lies_in.ensures.0 in
    rw (← first, c.if-lies_in.false)
