-- `table::search::judged` meets its contract, by the judgement's cases.
use Rattle.numbers.proofs.Prelude.{sym, ap, ◌∙◌}
use Rattle.table.proofs.search.{Turns.{outside, met}}
use Rattle.table.specs.Search.{judged_turn}
use Rattle.verdict.specs.Verdict.{told}
use Rattle.table.proofs.search.judged.Goals as goal

pub returns-then-kind-eq-NO_KIND : goal.returns-then-kind-eq-NO_KIND
returns-then-kind-eq-NO_KIND c =
    outside c.args.row c.in-Some.is c.kind_of-kind.ensures c.if-kind-eq-NO_KIND.true ∙ ap (λ j. judged_turn c.args.row (told j)) (sym c.in-Ok.is)

pub returns : goal.returns
returns c =
    met c.args.row c.in-Some.is c.kind_of-kind.ensures c.if-kind-eq-NO_KIND.false ∙ ap (λ j. judged_turn c.args.row (told j)) (sym c.in-Ok.is)

pub returns-in_default : goal.returns-in_default
unfolding judged_turn
returns-in_default c =
    rw c.in-Ok.is (rw c.in_default.is)

pub returns-in-Err : goal.returns-in-Err
unfolding judged_turn
returns-in-Err c =
    rw c.in-Err.is (rw c.number.ensures)
