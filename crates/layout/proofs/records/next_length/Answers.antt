-- `layout::records::next_length` meets its contract.
use Rattle.numbers.proofs.Prelude.{arith}
use Rattle.layout.specs.inner.Layout.{next}
use Rattle.layout.proofs.records.next_length.Goals as goal

pub returns : goal.returns
unfolding next
returns c =
    omega arith
