-- `table::search::on_row` meets its contract, by the test that led to each answer.
use Rattle.numbers.proofs.Prelude.{sym, ap, ◌∙◌}
use Rattle.table.proofs.search.{Turns.{not_held, held}}
use Rattle.table.specs.Search.{judged_turn}
use Rattle.table.proofs.search.on_row.Goals as goal

pub returns-then-holds : goal.returns-then-holds
returns-then-holds c =
    c.judged.ensures ∙ ap (judged_turn _) c.judge-judgement.ensures ∙ held _ _ _ _ (sym c.holds.ensures ∙ c.if-holds.true)

pub returns : goal.returns
returns c =
    not_held _ _ _ _ (sym c.holds.ensures ∙ c.if-holds.false)
