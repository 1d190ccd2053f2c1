-- `notes::chains::find::find_before` meets its contract.
use Rattle.numbers.proofs.Prelude.{◌+◌, refl, arith}
use Rattle.notes.proofs.chains.{Walking.{from_found}}
use Rattle.notes.proofs.chains.find.find_before.Goals as goal

pub overflow_cast-chain : goal.overflow_cast-chain
overflow_cast-chain c =
    omega (arith, c.type_inv.chain (4096 + c.args.found))

pub returns : goal.returns
returns c = (
  c.find_from.ensures.within,
  λ entered count inside chained most is. from_found _ _ _ _ _ _ entered count inside chained most _ _ refl
      c.find_from.ensures is,
)
