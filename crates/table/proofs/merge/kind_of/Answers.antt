-- `table::merge::kind_of` meets its contract.
use Rattle.table.proofs.merge.{Summaries.{last_border, counts_differ, counts_equal}}
use Rattle.table.specs.Merge.{tallied}
use Rattle.table.proofs.merge.kind_of.Goals as goal

pub returns-then-t-ne-NO_KIND : goal.returns-then-t-ne-NO_KIND
returns-then-t-ne-NO_KIND c =
    let t = c.args.t in
    last_border (tallied t).balance t.border c.if-t-ne-NO_KIND.true

pub returns-then-t : goal.returns-then-t
returns-then-t c =
    counts_differ c.args.t.inside c.args.t.excluded c.args.t.border c.if-t-ne-NO_KIND.false c.if-t.true

pub returns : goal.returns
returns c =
    counts_equal c.args.t.inside c.args.t.excluded c.args.t.border c.if-t-ne-NO_KIND.false c.if-t.false
