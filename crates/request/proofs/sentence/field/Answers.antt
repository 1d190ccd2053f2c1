-- `request::sentence::field` meets its contract.
use Rattle.numbers.proofs.Prelude.{arith}
use Rattle.request.proofs.{Replied.{field_is, field_place}}
use Rattle.request.proofs.sentence.field.Goals as goal

pub returns : goal.returns
returns c =
    let start = c.field_start-from.ensures in
    (field_is c.args.n c.args.body.now c.field_start-from.result c.find-to.result start.0 c.find-to.ensures.0, field_place c.args.n c.args.body.now c.field_start-from.result c.find-to.result start.0 start.1)
