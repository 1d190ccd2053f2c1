-- `zone::zone` meets its contract: the lines are those for the library's answer.
use Rattle.numbers.proofs.Prelude.{length}
use Rattle.zone.proofs.{Printing.{printed_zones, printed_refused}}
use Rattle.zone.proofs.zone.Goals as goal

pub returns-in-Ok : goal.returns-in-Ok
returns-in-Ok c =
    printed_zones c.args.input.now (length c.args.hits.now) (length c.args.text.now) c.in-Ok.is c.answer.ensures c.byte_at.ensures c.put_zones.ensures

pub returns-in-Err : goal.returns-in-Err
returns-in-Err c =
    printed_refused c.args.input.now (length c.args.hits.now) (length c.args.text.now) c.in-Err.is c.answer.ensures c.put_refusal.ensures
