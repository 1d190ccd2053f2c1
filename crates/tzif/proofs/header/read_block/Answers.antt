-- `tzif::header::read_block` meets its contract.
use Rattle.numbers.proofs.Prelude.{ap, arith}
use Rattle.std.specs.Prelude.{Ok}
use Rattle.tzif.proofs.{Blocks.{header_within, counts_within}, Laws.{past, stopped, fine}}
use Rattle.tzif.specs.Header.{read_block}
use Rattle.tzif.proofs.header.read_block.Goals as goal

pub returns-in_err-check_header : goal.returns-in_err-check_header
unfolding read_block
returns-in_err-check_header c =
    stopped c.check_header.ensures _ c.in_err-check_header.was c.from_residual.ensures.1 _

pub read_counts-block-requires : goal.read_counts-block-requires
read_counts-block-requires c =
    header_within c.args.file.now c.args.wide c.args.at (fine c.check_header.ensures c.in_ok-check_header.was)

pub check_counts-requires : goal.check_counts-requires
check_counts-requires c =
    record {
      at_in_bounds = header_within c.args.file.now c.args.wide c.args.at (fine c.check_header.ensures c.in_ok-check_header.was);
      block_bound = c.read_counts-block.ensures.fits;
    }

pub returns-in_err-check_counts : goal.returns-in_err-check_counts
unfolding read_block
returns-in_err-check_counts c =
    past c.check_header.ensures c.in_ok-check_header.was _ (stopped (rw c.read_counts-block.ensures.same at c.check_counts.ensures) _ c.in_err-check_counts.was
    c.from_residual-in_err-check_counts.ensures.1 _)

pub is_fourth-fourth-requires : goal.is_fourth-fourth-requires
is_fourth-fourth-requires c =
    omega (arith, header_within c.args.file.now c.args.wide c.args.at (fine c.check_header.ensures c.in_ok-check_header.was))

pub check_block-requires : goal.check_block-requires
check_block-requires c =
    record { wide = c.read_counts-block.ensures.wide; end = counts_within _ _ _ (fine c.check_counts.ensures c.in_ok-check_counts.was) }

pub returns-in_err-check_block : goal.returns-in_err-check_block
unfolding read_block
returns-in_err-check_block c =
    past c.check_header.ensures c.in_ok-check_header.was _ (past (rw c.read_counts-block.ensures.same at c.check_counts.ensures) c.in_ok-check_counts.was _
    (stopped (rw (c.is_fourth-fourth.ensures, c.read_counts-block.ensures.same) at c.check_block.ensures) _ c.in_err-check_block.was
    c.from_residual-in_err-check_block.ensures.1 _))

pub returns : goal.returns
unfolding read_block
returns c =
    past c.check_header.ensures c.in_ok-check_header.was _ (past (rw c.read_counts-block.ensures.same at c.check_counts.ensures) c.in_ok-check_counts.was _
    (past (rw (c.is_fourth-fourth.ensures, c.read_counts-block.ensures.same) at c.check_block.ensures) c.in_ok-check_block.was _
    (ap Ok c.read_counts-block.ensures.same)))
