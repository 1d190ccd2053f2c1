-- `slip::lines::is_called` meets its contract.
use Rattle.numbers.proofs.{Prelude.{length}, Replies.{held}}
use Rattle.slip.proofs.{Zones.{is_called, not_called}}
use Rattle.zones.specs.Simple.{LiesParts}
use Rattle.slip.proofs.lines.is_called.Goals as goal

pub is_same-requires : goal.is_same-requires
is_same-requires c =
    (held (LiesParts (length c.args.map.now)) c.in-Ok.is c.zone_of.ensures.1, c.requires)

pub returns-in-Ok : goal.returns-in-Ok
returns-in-Ok c =
    is_called _ _ _ _ _ c.zone_of.ensures.0 c.in-Ok.is c.is_same.ensures

pub returns-in-Err : goal.returns-in-Err
returns-in-Err c =
    not_called _ _ _ _ _ c.zone_of.ensures.0 c.in-Err.is
