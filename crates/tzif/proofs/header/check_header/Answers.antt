-- `tzif::header::check_header` meets its contract: its three demands, one after another.
use Rattle.numbers.proofs.Prelude.{arith}
use Rattle.tzif.proofs.{Blocks.{begun_within}, Laws.{past, stopped, fine}}
use Rattle.tzif.specs.Header.{check_header}
use Rattle.tzif.proofs.header.check_header.Goals as goal

pub version_fits-requires : goal.version_fits-requires
version_fits-requires c =
    begun_within c.args.file.now c.args.at _ (fine (rw c.begins.ensures at c.demand.ensures) c.in_ok-demand.was)

pub overflow_add-at : goal.overflow_add-at
overflow_add-at c =
    omega (arith, begun_within c.args.file.now c.args.at _ (fine (rw c.begins.ensures at c.demand.ensures) c.in_ok-demand.was))

pub returns-in_err-demand : goal.returns-in_err-demand
unfolding check_header
returns-in_err-demand c =
    stopped (cc) _ c.in_err-demand.was c.from_residual.ensures.1 _

pub returns-in_err-demand-2 : goal.returns-in_err-demand-2
unfolding check_header
returns-in_err-demand-2 c =
    past (cc) c.in_ok-demand.was _ (stopped (cc) _ c.in_err-demand-2.was c.from_residual-in_err-demand-2.ensures.1 _)

pub returns : goal.returns
unfolding check_header
returns c =
    past (cc) c.in_ok-demand.was _ (past (cc) c.in_ok-demand-2.was _ (cc))
