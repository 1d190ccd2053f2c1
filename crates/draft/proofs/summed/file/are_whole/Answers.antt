-- `draft::summed::file::are_whole` meets its contract.
use Rattle.numbers.proofs.Prelude.{length-take-le, sym}
use Rattle.draft.proofs.summed.{Wholes.{long_strings, other_front, front_then, slice_inside}}
use Rattle.draft.proofs.summed.file.are_whole.Goals as goal

pub returns-then-builder-gt536870912 : goal.returns-then-builder-gt536870912
returns-then-builder-gt536870912 c =
    long_strings _ _ c.if-builder-gt536870912.true

pub returns-then-not-is_sum : goal.returns-then-not-is_sum
returns-then-not-is_sum c =
    other_front _ _ c.if-builder-gt536870912.false _ c.is_sum.ensures c.if-not-is_sum.true

pub returns : goal.returns
returns c =
    front_then _ _ c.if-builder-gt536870912.false _ c.is_sum.ensures c.if-not-is_sum.false _ c.is_sum-2.ensures
