-- `table::merge::joined` meets its contract, by the hit's kind.
use Rattle.numbers.proofs.Prelude.{arith}
use Rattle.table.proofs.merge.{Summaries.{one_inside, one_excluded, on_border}}
use Rattle.table.proofs.merge.joined.Goals as goal

pub returns-then-kind-eq-IN_ZONE : goal.returns-then-kind-eq-IN_ZONE
returns-then-kind-eq-IN_ZONE c =
    record { sum = one_inside c.args.t.inside c.args.t.excluded c.args.t.border _ c.if-kind-eq-IN_ZONE.true; small = (omega arith, omega arith) }

pub returns-then-kind-eq-EXCLUDED : goal.returns-then-kind-eq-EXCLUDED
returns-then-kind-eq-EXCLUDED c =
    record { sum = one_excluded c.args.t.inside c.args.t.excluded c.args.t.border _ c.if-kind-eq-EXCLUDED.true; small = (omega arith, omega arith) }

pub returns : goal.returns
returns c =
    record {
      sum = on_border c.args.t.inside c.args.t.excluded c.args.t.border _ c.if-kind-eq-IN_ZONE.false c.if-kind-eq-EXCLUDED.false c.later.ensures;
      small =
          (omega arith, omega arith);
    }
