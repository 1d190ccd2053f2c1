-- `verdict::judge::closed` meets its contract: the three tests decide as the definition does.
use Rattle.numbers.proofs.Prelude.{rules, pos, negsuc, w32, SFits}
use Rattle.verdict.proofs.{Compared.{same_read, differ_read}}
use Rattle.verdict.specs.Verdict.{closed_at}
use Rattle.verdict.proofs.judge.closed.Goals as goal

minus_four : SFits w32 (negsuc 3)
minus_four = search rules

four : SFits w32 (pos 4)
four = search rules

zero : SFits w32 (pos 0)
zero = search rules

pub returns-then-winding : goal.returns-then-winding
unfolding closed_at
returns-then-winding c =
    let w : SFits w32 c.args.tally.winding = search rules in
    rw (same_read w minus_four c.if-winding.true)

pub returns-then-winding-eq4 : goal.returns-then-winding-eq4
unfolding closed_at
returns-then-winding-eq4 c =
    let w : SFits w32 c.args.tally.winding = search rules in
    rw (differ_read w minus_four c.if-winding.false, same_read w four c.if-winding-eq4.true)

pub returns-then-winding-eq0 : goal.returns-then-winding-eq0
unfolding closed_at
returns-then-winding-eq0 c =
    let w : SFits w32 c.args.tally.winding = search rules in
    rw (differ_read w minus_four c.if-winding.false, differ_read w four c.if-winding-eq4.false, same_read w zero c.if-winding-eq0.true)

pub returns : goal.returns
unfolding closed_at
returns c =
    let w : SFits w32 c.args.tally.winding = search rules in
    rw (differ_read w minus_four c.if-winding.false, differ_read w four c.if-winding-eq4.false, differ_read w zero c.if-winding-eq0.false) c.on_border.ensures
