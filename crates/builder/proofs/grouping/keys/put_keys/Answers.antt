-- `builder::grouping::keys::put_keys` meets its contract.
use Rattle.numbers.proofs.Prelude.{length, arith}
use Rattle.builder.proofs.grouping.{Keyed.{word_is}, Listed.{list_starts, list_goes, list_ends}, Walks.{fewer_inside, item_among}}
use Rattle.builder.proofs.grouping.keys.put_keys.Goals as goal

pub loop-item-preserved : goal.loop-item-preserved
loop-item-preserved c =
    list_goes _ _ _ _ c.loop-item.invariant (omega (arith, c.loop-item-test.true, c.loop-item.invariant.left.size)) _ (word_is _ _ _ _ _ c.hash_item-hash.ensures (omega (
      arith,
      c.loop-item-test.true,
      c.loop-item.invariant.left.size,
      c.requires.1,
    )))

pub returns : goal.returns
returns c =
    list_ends _ _ _ _ c.loop-item.invariant (omega (arith, c.loop-item-test.false, c.loop-item.invariant.left.size))
