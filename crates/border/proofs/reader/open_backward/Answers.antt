-- `border::reader::open_backward` meets its contract.
use Rattle.numbers.proofs.Prelude.{rules, arith}
use Rattle.border.proofs.reader.{Places.{backward_opened, backward_over}}
use Rattle.border.proofs.reader.open_backward.Goals as goal
use Rattle.border.proofs.reader.open_backward.Goals.{then-start-ge9223372036854775808+else-start-more, else-start-ge9223372036854775808}

pub returns-then-start-more : goal.returns-then-start-more
returns-then-start-more c =
    backward_over c.args.base c.args.start (search rules) c.args.more c.if-start-ge9223372036854775808.true c.if-start-more.true

pub returns : goal.returns
returns c =
    rw (c.data_place-next.ensures, c.data_place-end.ensures) (backward_opened c.args.base c.args.start (search rules) c.args.more (search rules) (elim
    c.if-start-ge9223372036854775808.branch [
      | then-start-ge9223372036854775808+else-start-more w ↦ λ l. w.if-start-more.false
      | else-start-ge9223372036854775808 w
          ↦ λ l. omega arith
    ]))
