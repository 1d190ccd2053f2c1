-- `tzif::zone::read_short` meets its contract.
use Rattle.numbers.proofs.Prelude.{refl}
use Rattle.tzif.proofs.{Laws.{past, stopped}}
use Rattle.tzif.specs.Zone.{read_short}
use Rattle.tzif.proofs.zone.read_short.Goals as goal

pub returns-in_err-demand : goal.returns-in_err-demand
unfolding read_short
returns-in_err-demand c =
    stopped (rw c.end_of-end.ensures at c.demand.ensures) _ c.in_err-demand.was c.from_residual.ensures.1 _

pub returns : goal.returns
unfolding read_short
returns c =
    past (rw c.end_of-end.ensures at c.demand.ensures) c.in_ok-demand.was _ (rw c.end_of-end.ensures refl)
