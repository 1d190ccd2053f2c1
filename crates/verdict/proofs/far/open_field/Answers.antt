-- `verdict::far::open_field` meets its contract.
use Rattle.numbers.proofs.Prelude.{Bool, sym, subst}
use Rattle.verdict.proofs.{FarFields.{opens_far, opens_near}}
use Rattle.verdict.specs.inner.Gliding.{Opens}
use Rattle.verdict.proofs.far.open_field.Goals as goal

pub returns-then-asked : goal.returns-then-asked
returns-then-asked c =
    subst (λ (t : Bool). Opens c.args.fix t c.args.tally c.args.p c.far_field.result) (sym c.if-asked.true) (opens_far c.args.fix c.args.tally c.args.p
    c.far_field.result c.far_field.ensures)

pub returns : goal.returns
returns c =
    subst (λ (t : Bool). Opens c.args.fix t c.args.tally c.args.p c.held.result) (sym c.if-asked.false) (opens_near c.args.fix c.args.tally c.args.p _
    c.field_of.ensures c.held.result c.held.ensures)
