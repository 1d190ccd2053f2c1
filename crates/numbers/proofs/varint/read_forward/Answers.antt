-- `numbers::varint::read_forward` meets its contract.
use Rattle.numbers.proofs.{Prelude.{rules}}
use Rattle.numbers.specs.Varint.{reading_of}
use Rattle.numbers.proofs.varint.read_forward.Goals as goal

pub returns : goal.returns
unfolding reading_of
returns c =
    c.read_number.ensures
