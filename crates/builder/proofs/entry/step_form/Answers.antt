-- `builder::entry::step_form` meets its contract.
use Rattle.builder.proofs.{Steps.{step_down, step_up}}
use Rattle.builder.proofs.entry.step_form.Goals as goal

pub returns-then-to-from : goal.returns-then-to-from
returns-then-to-from c =
    step_down _ _ c.if-to-from.true

pub returns : goal.returns
returns c =
    step_up _ _ c.if-to-from.false
