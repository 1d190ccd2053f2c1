-- `border::reader::open_forward` meets its contract.
use Rattle.numbers.proofs.Prelude.{rules, arith}
use Rattle.border.proofs.reader.{Places.{none_opened, forward_opened, forward_over}}
use Rattle.border.proofs.reader.open_forward.Goals as goal
use Rattle.border.proofs.reader.open_forward.Goals.{then-start-lt9223372036854775808+else-start-size-ge9223372036854775808, else-start-lt9223372036854775808}

pub returns-then-size-eq0 : goal.returns-then-size-eq0
returns-then-size-eq0 c =
    rw c.if-size-eq0.true (none_opened c.args.base c.args.start)

pub returns-then-start-size-ge9223372036854775808 : goal.returns-then-start-size-ge9223372036854775808
returns-then-start-size-ge9223372036854775808 c =
    forward_over c.args.base c.args.start (search rules) c.args.size c.if-start-lt9223372036854775808.true c.if-start-size-ge9223372036854775808.true

pub returns : goal.returns
returns c =
    rw (c.data_place-next.ensures, c.data_place-end.ensures) (forward_opened c.args.base c.args.start (search rules) c.args.size (search rules) c.if-size-eq0.false
    (elim c.if-start-lt9223372036854775808.branch [
      | then-start-lt9223372036854775808+else-start-size-ge9223372036854775808 w ↦ λ l.
          w.if-start-size-ge9223372036854775808.false
      | else-start-lt9223372036854775808 w ↦ λ l. omega arith
    ]))
