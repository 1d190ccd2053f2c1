-- `header::field::unmask` meets its contract.
use Rattle.numbers.proofs.Prelude.{length, refl, ap, ◌∙◌, arith}
use Rattle.header.proofs.field.{Entries.{unmask_suc, unmask_length, unmask_all}}
use Rattle.header.proofs.field.unmask.Goals as goal

pub loop-i-preserved : goal.loop-i-preserved
loop-i-preserved c =
    (c.loop-i.invariant.0, rw c.loop-i.invariant.1 (unmask_suc c.args.stored.now c.args.text.now c.loop-i.i (omega arith) (omega arith)))
