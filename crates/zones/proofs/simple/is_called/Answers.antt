-- `zones::simple::is_called` meets its contract.
use Rattle.numbers.proofs.Prelude.{length, ne_eqb, ◌∙◌}
use Rattle.zones.proofs.simple.{Names.{not_as_long, called_zip}}
use Rattle.zones.proofs.simple.is_called.Goals as goal

pub returns-then-stored-name : goal.returns-then-stored-name
returns-then-stored-name c =
    c.all_unmasked.ensures ∙ called_zip c.args.stored.now c.args.name.now c.if-stored-name.true

pub returns-else-stored-name : goal.returns-else-stored-name
returns-else-stored-name c =
    ne_eqb (length c.args.stored.now) (length c.args.name.now) c.if-stored-name.false ∙ not_as_long c.args.stored.now c.args.name.now c.if-stored-name.false
