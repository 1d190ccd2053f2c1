-- `layout::records::word_size` meets its contract.
use Rattle.layout.proofs.records.{Summing.{none_size, some_size}}
use Rattle.layout.proofs.records.word_size.Goals as goal

pub returns-then-word-eq0 : goal.returns-then-word-eq0
returns-then-word-eq0 c =
    none_size _ _ c.if-word-eq0.true

pub returns : goal.returns
returns c =
    some_size _ _ _ c.if-word-eq0.false c.requires c.ranges.word.fits c.size_of_varint.ensures
