-- `table::rows::moved_id` meets its contract.
use Rattle.numbers.proofs.Prelude.{◌∙◌, arith}
use Rattle.table.proofs.rows.{Signs.{forth, back}}
use Rattle.table.proofs.rows.moved_id.Goals as goal

pub returns-then-step-eq0 : goal.returns-then-step-eq0
returns-then-step-eq0 c =
    c.wrapping_add_u32.ensures.value ∙ forth c.args.metadata c.args.step c.if-step-eq0.true

pub returns-else-step-eq0 : goal.returns-else-step-eq0
returns-else-step-eq0 c =
    omega (arith, c.wrapping_sub_u32.ensures.value, c.wrapping_sub_u32.type_inv, back c.args.metadata c.args.step c.if-step-eq0.false (omega arith))
