-- `table::merge::merge_front` meets its contract: the front of the words is lent, and the rest is zero already.
use Rattle.numbers.proofs.Prelude.{arith}
use Rattle.table.proofs.merge.{Fronts.{lent_length, lent_shaped, lent_real, count_merged, words_now}}
use Rattle.table.proofs.merge.merge_front.Goals as goal

pub slice_bounds-merge-end-2 : goal.slice_bounds-merge-end-2
slice_bounds-merge-end-2 c =
    lent_length c.args.hits.now c.args.count c.requires.0 c.requires.1

pub merge-requires : goal.merge-requires
merge-requires c =
    (lent_shaped c.args.hits.now c.args.count c.requires.0 c.requires.1, lent_real c.args.hits.now c.args.count c.requires.0 c.requires.1 c.requires.2)

pub returns : goal.returns
returns c = (
  count_merged c.args.hits.now c.args.count c.requires.0 c.requires.1 c.merge.result c.merge.new.hits c.merge.ensures (omega (arith, c.hits-1.given)),
  words_now
      c.args.hits.now c.args.count c.requires.0 c.requires.1 c.merge.result c.merge.new.hits c.merge.ensures (omega (arith, c.hits-1.given)),
)
