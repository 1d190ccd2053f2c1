-- `table::rest::held_at` meets its contract.
use Rattle.numbers.{proofs.{Laws.{goes_on}, Prelude.{ap, ◌∙◌}}, specs.{Varint.{reading_of}}}
use Rattle.table.proofs.{rest.Remaining.{none_held}, table.Bounding.{held_bounded}}
use Rattle.table.specs.Rest.{is_held}
use Rattle.table.proofs.rest.held_at.Goals as goal

pub returns-in-Ok : goal.returns-in-Ok
returns-in-Ok c =
    c.holds.ensures ∙ ap is_held (goes_on c.bounded_at.result c.bounded_at.ensures c.in-Ok.is _ ∙ held_bounded (reading_of c.args.strict c.args.file.now) c.args.place c.args.fix)

pub returns-in-Err : goal.returns-in-Err
returns-in-Err c =
    none_held c.bounded_at.result c.bounded_at.ensures c.in-Err.is _ ∙ ap is_held (held_bounded (reading_of c.args.strict c.args.file.now) c.args.place c.args.fix)
