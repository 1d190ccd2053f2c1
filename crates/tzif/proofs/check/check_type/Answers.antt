-- `tzif::check::check_type` meets its contract: its four demands, one after another.
use Rattle.tzif.proofs.{Laws.{past, stopped}}
use Rattle.tzif.specs.Check.{check_type}
use Rattle.tzif.proofs.check.check_type.Goals as goal

pub returns-in_err-demand : goal.returns-in_err-demand
unfolding check_type
returns-in_err-demand c =
    stopped (cc) _ c.in_err-demand.was c.from_residual.ensures.1 _

pub returns-in_err-demand-2 : goal.returns-in_err-demand-2
unfolding check_type
returns-in_err-demand-2 c =
    past (cc) c.in_ok-demand.was _ (stopped (cc) _ c.in_err-demand-2.was c.from_residual-in_err-demand-2.ensures.1 _)

pub returns-in_err-demand-3 : goal.returns-in_err-demand-3
unfolding check_type
returns-in_err-demand-3 c =
    past (cc) c.in_ok-demand.was _ (past (cc) c.in_ok-demand-2.was _ (stopped (cc) _ c.in_err-demand-3.was c.from_residual-in_err-demand-3.ensures.1 _))

pub returns : goal.returns
unfolding check_type
returns c =
    past (cc) c.in_ok-demand.was _ (past (cc) c.in_ok-demand-2.was _ (past (cc) c.in_ok-demand-3.was _ (cc)))
