-- `numbers::float::cut::to_i64` meets its contract, by the laws over the width (proofs/float/Cutting.antt).
use Rattle.numbers.proofs.Prelude.{lit≤, of_bits, refl, sym, w64}
use Rattle.numbers.proofs.float.{Cutting.{asked, part_fits, part_cut, negated_fits, mirrored_cut, cut_above, cut_below, cut_between}}
use Rattle.numbers.proofs.float.cut.to_i64.Goals as goal

pub whole_part-requires : goal.whole_part-requires
unfolding of_bits
whole_part-requires c =
    asked w64 _ (lit≤ tt) c.if-x.true c.if-x-2.true

pub overflow_cast-result : goal.overflow_cast-result
unfolding of_bits
overflow_cast-result c =
    part_fits w64 _ (lit≤ tt) c.if-x.true c.if-x-2.true c.whole_part.ensures

pub returns-then-x-2 : goal.returns-then-x-2
unfolding of_bits
returns-then-x-2 c =
    part_cut w64 _ (lit≤ tt) c.if-x.true c.if-x-2.true c.whole_part.ensures

pub returns-then-x : goal.returns-then-x
unfolding of_bits
returns-then-x c =
    sym (cut_above 63 _ c.if-x.true c.if-x-2.false)

pub whole_part-requires-then-size-2 : goal.whole_part-requires-then-size-2
unfolding of_bits
whole_part-requires-then-size-2 c =
    asked w64 _ (lit≤ tt) c.if-size.true c.if-size-2.true

pub overflow_cast-result-then-size-2 : goal.overflow_cast-result-then-size-2
unfolding of_bits
overflow_cast-result-then-size-2 c =
    part_fits w64 _ (lit≤ tt) c.if-size.true c.if-size-2.true c.whole_part-then-size-2.ensures

pub overflow_sub-result : goal.overflow_sub-result
unfolding of_bits
overflow_sub-result c =
    negated_fits w64 _ (lit≤ tt) c.if-size.true c.if-size-2.true c.whole_part-then-size-2.ensures

pub returns-then-size-2 : goal.returns-then-size-2
unfolding of_bits
returns-then-size-2 c =
    mirrored_cut w64 _ (lit≤ tt) c.if-size.true c.if-size-2.true c.whole_part-then-size-2.ensures _ refl

pub returns-then-size : goal.returns-then-size
unfolding of_bits
returns-then-size c =
    sym (cut_below 63 _ c.if-size.true c.if-size-2.false)

pub returns : goal.returns
unfolding of_bits
returns c =
    sym (cut_between 63 _ c.if-x.false c.if-size.false)
