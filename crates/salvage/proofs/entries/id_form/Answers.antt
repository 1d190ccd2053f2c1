-- `salvage::entries::id_form` meets its contract.
use Rattle.numbers.proofs.Prelude.{◌+◌, ◌-◌, ◌%◌, ◌^◌, arith}
use Rattle.salvage.proofs.entries.{Forming.{form_up, form_down}}
use Rattle.salvage.proofs.entries.id_form.Goals as goal

pub returns-then-step-lt2147483648 : goal.returns-then-step-lt2147483648
returns-then-step-lt2147483648 c =
    form_up ((c.args.to + 2 ^ 32 - c.args.from) % 2 ^ 32) c.if-step-lt2147483648.true

pub returns : goal.returns
returns c =
    form_down ((c.args.to + 2 ^ 32 - c.args.from) % 2 ^ 32) c.if-step-lt2147483648.false (omega arith)
