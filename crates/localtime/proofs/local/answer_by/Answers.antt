-- `localtime::local::answer_by` meets its contract.
use Rattle.numbers.proofs.Prelude.{ap, ◌∙◌}
use Rattle.std.specs.Prelude.{Ok}
use Rattle.localtime.proofs.local.{Ways.{answer_without, answer_ruled, answer_listed}}
use Rattle.tzif.proofs.Goods.{table_held}
use Rattle.localtime.proofs.local.answer_by.Goals.{in-Some+else-is_ruled, in_default}
use Rattle.localtime.proofs.local.answer_by.Goals as goal

pub returns-then-is_ruled : goal.returns-then-is_ruled
returns-then-is_ruled c =
    (answer_ruled _ _ _ c.in-Some.is c.is_ruled.ensures c.if-is_ruled.true c.ask_in.ensures.0 c.by_rule.ensures.0, c.by_rule.ensures.1)

pub returns : goal.returns
returns c = (
  ap Ok c.by_table.ensures ∙ elim c.match-rules.branch [
    | in-Some+else-is_ruled w ↦ answer_listed _ _ _ w.in-Some.is w.is_ruled.ensures w.if-is_ruled.false
    | in_default w ↦ answer_without _ _ _ w.in_default.is
  ],
  rw c.by_table.ensures (table_held c.requires.0.good _),
)
