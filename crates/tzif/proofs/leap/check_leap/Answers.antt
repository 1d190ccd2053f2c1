-- `tzif::leap::check_leap` meets its contract.
use Rattle.numbers.proofs.Prelude.{◌+◌, sym, ◌∙◌, arith}
use Rattle.tzif.proofs.{Laws.{past, stopped}, Leaps.{expires_behind}, Widths.{row}}
use Rattle.tzif.specs.Check.{check_leap}
use Rattle.tzif.proofs.leap.check_leap.Goals as goal

pub check_expiry-requires : goal.check_expiry-requires
check_expiry-requires c =
    record {
      within = c.requires.within;
      i_nonzero = (
        expires_behind c.args.file.now c.args.fourth c.args.block c.args.i (sym c.expires.ensures
            ∙ c.if-expires.true),
        c.requires.i_lt_leapcnt,
      );
    }

pub returns-then-expires : goal.returns-then-expires
unfolding check_leap
returns-then-expires c =
    rw (← c.expires.ensures, c.if-expires.true) c.check_expiry.ensures

pub leap_place-place-requires : goal.leap_place-place-requires
leap_place-place-requires c =
    omega (arith, row c.args.i c.args.block.leapcnt (c.args.block.width + 4) c.requires.i_lt_leapcnt)

pub overflow_add-place : goal.overflow_add-place
overflow_add-place c =
    omega (arith, row c.args.i c.args.block.leapcnt (c.args.block.width + 4) c.requires.i_lt_leapcnt)

pub returns-in_err-demand : goal.returns-in_err-demand
unfolding check_leap
returns-in_err-demand c =
    rw (← c.expires.ensures, c.if-expires.false) (stopped (cc) _ c.in_err-demand.was c.from_residual.ensures.1 _)

pub returns : goal.returns
unfolding check_leap
returns c =
    rw (← c.expires.ensures, c.if-expires.false) (past (cc) c.in_ok-demand.was _ (cc))
