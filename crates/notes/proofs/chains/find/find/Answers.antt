-- `notes::chains::find::find` meets its contract.
use Rattle.numbers.proofs.Prelude.{refl, arith}
use Rattle.notes.proofs.chains.{Walking.{from_head}}
use Rattle.notes.proofs.chains.find.find.Goals as goal

pub overflow_cast-chain : goal.overflow_cast-chain
overflow_cast-chain c =
    omega (arith, c.type_inv.chain c.bucket_of-bucket.result)

pub returns : goal.returns
returns c = (
  c.find_from.ensures.within,
  λ entered count inside chained most. from_head _ _ _ _ _ _ entered count inside chained most _ _ c.bucket_of-bucket.ensures.0
      (c.bucket_of-bucket.ensures.1 inside) refl c.find_from.ensures,
)
