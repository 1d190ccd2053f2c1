-- `writer::pieces::clear_before` meets its contract.
use Rattle.numbers.proofs.Prelude.{lt-ltb, le-ltb, arith}
use Rattle.writer.specs.Pieces.{clear_before}
use Rattle.writer.proofs.pieces.clear_before.Goals as goal

pub returns-then-place-gt0 : goal.returns-then-place-gt0
unfolding clear_before
returns-then-place-gt0 c =
    rw (lt-ltb 0 c.args.place c.if-place-gt0.true)

pub returns-else-place-gt0 : goal.returns-else-place-gt0
unfolding clear_before
returns-else-place-gt0 c =
    rw (le-ltb 0 c.args.place c.if-place-gt0.false)
