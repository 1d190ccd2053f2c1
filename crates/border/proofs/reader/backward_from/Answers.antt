-- `border::reader::backward_from` meets its contract.
use Rattle.numbers.proofs.Prelude.{le-leb, lt-leb}
use Rattle.border.specs.Reader.{backward_from}
use Rattle.border.proofs.reader.backward_from.Goals as goal

pub returns-then-next-end : goal.returns-then-next-end
unfolding backward_from
returns-then-next-end c =
    rw (le-leb _ _ c.if-next-end.true)

pub returns-else-next-end : goal.returns-else-next-end
unfolding backward_from
returns-else-next-end c =
    rw (lt-leb _ _ c.if-next-end.false)
