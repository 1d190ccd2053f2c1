-- `notes::chains::texts::hash_item` meets its contract.
use Rattle.numbers.proofs.Prelude.{arith}
use Rattle.builder.{proofs.grouping.Walks.{fewer_inside, item_starts, item_goes, item_ends}}
use Rattle.notes.proofs.chains.texts.hash_item.Goals as goal

pub loop-i-init : goal.loop-i-init
loop-i-init c =
    (omega arith, λ inside. item_starts _ _ _ _)

pub loop-i-preserved : goal.loop-i-preserved
loop-i-preserved c = (
  omega arith,
  λ inside. item_goes _ _ _ _ _ _ (c.loop-i.invariant.1 inside) c.loop-i-test.true _ (c.hash_one-hash.ensures (fewer_inside _ _ _ _ (omega (
    arith,
    c.loop-i-test.true,
  )) inside)),
)

pub returns : goal.returns
returns c inside =
    item_ends _ _ _ _ _ _ (c.loop-i.invariant.1 inside) c.loop-i-test.false
