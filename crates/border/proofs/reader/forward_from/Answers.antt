-- `border::reader::forward_from` meets its contract.
use Rattle.numbers.proofs.Prelude.{le-leb, lt-leb}
use Rattle.border.specs.Reader.{forward_from}
use Rattle.border.proofs.reader.forward_from.Goals as goal

pub returns-then-end-next : goal.returns-then-end-next
unfolding forward_from
returns-then-end-next c =
    rw (le-leb _ _ c.if-end-next.true)

pub returns-else-end-next : goal.returns-else-end-next
unfolding forward_from
returns-else-end-next c =
    rw (lt-leb _ _ c.if-end-next.false)
