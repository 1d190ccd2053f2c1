-- `tzif::zone::read_footer` meets its contract.
use Rattle.numbers.proofs.Prelude.{◌+◌, ap, arith}
use Rattle.std.specs.Prelude.{Ok}
use Rattle.tzif.proofs.{Laws.{past, stopped, fine}, Rises.{held}, Zones.{newline_within}}
use Rattle.tzif.specs.Zone.{read_footer}
use Rattle.tzif.proofs.zone.read_footer.Goals as goal

pub returns-in_err-demand : goal.returns-in_err-demand
unfolding read_footer
returns-in_err-demand c =
    stopped (rw c.newline_at.ensures at c.demand.ensures) _ c.in_err-demand.was c.from_residual.ensures.1 _

pub overflow_add-place : goal.overflow_add-place
overflow_add-place c =
    omega (arith, newline_within c.args.file.now c.args.at (held _ _ (fine (rw c.newline_at.ensures at c.demand.ensures) c.in_ok-demand.was)))

pub overflow_sub-file : goal.overflow_sub-file
overflow_sub-file c =
    omega (arith, newline_within c.args.file.now c.args.at (held _ _ (fine (rw c.newline_at.ensures at c.demand.ensures) c.in_ok-demand.was)))

pub run_to-size-requires : goal.run_to-size-requires
run_to-size-requires c =
    omega (arith, newline_within c.args.file.now c.args.at (held _ _ (fine (rw c.newline_at.ensures at c.demand.ensures) c.in_ok-demand.was)))

pub overflow_add-stop : goal.overflow_add-stop
overflow_add-stop c =
    omega (arith, newline_within c.args.file.now c.args.at (held _ _ (fine (rw c.newline_at.ensures at c.demand.ensures) c.in_ok-demand.was)), c.run_to-size.ensures.within)

pub returns-in_err-demand-2 : goal.returns-in_err-demand-2
unfolding read_footer
returns-in_err-demand-2 c =
    past (rw c.newline_at.ensures at c.demand.ensures) c.in_ok-demand.was _ (stopped (rw (c.newline_at-2.ensures, c.run_to-size.ensures.same) at c.demand-2.ensures) _
    c.in_err-demand-2.was c.from_residual-in_err-demand-2.ensures.1 _)

pub overflow_add-end : goal.overflow_add-end
overflow_add-end c =
    omega (arith, newline_within c.args.file.now (c.args.at + 1 + c.run_to-size.result) (held _ _ (fine (rw c.newline_at-2.ensures at c.demand-2.ensures) c.in_ok-demand-2.was)))

pub returns-in_err-demand-3 : goal.returns-in_err-demand-3
unfolding read_footer
returns-in_err-demand-3 c =
    past (rw c.newline_at.ensures at c.demand.ensures) c.in_ok-demand.was _ (past (rw (c.newline_at-2.ensures, c.run_to-size.ensures.same) at c.demand-2.ensures)
    c.in_ok-demand-2.was _ (stopped (rw c.run_to-size.ensures.same at c.demand-3.ensures) _ c.in_err-demand-3.was c.from_residual-in_err-demand-3.ensures.1 _))

pub returns : goal.returns
unfolding read_footer
returns c =
    past (rw c.newline_at.ensures at c.demand.ensures) c.in_ok-demand.was _ (past (rw (c.newline_at-2.ensures, c.run_to-size.ensures.same) at c.demand-2.ensures)
    c.in_ok-demand-2.was _ (past (rw c.run_to-size.ensures.same at c.demand-3.ensures) c.in_ok-demand-3.was _ (ap Ok c.run_to-size.ensures.same)))
