-- `tzif::number::octet` meets its contract.
use Rattle.numbers.proofs.Prelude.{refl, arith}
use Rattle.tzif.proofs.number.octet.Goals as goal

pub overflow_cast-result : goal.overflow_cast-result
overflow_cast-result c =
    omega (arith, c.type_inv.file c.args.place)

pub returns : goal.returns
returns c =
    record { same = refl; fits = (c.type_inv.file c.args.place).fits }
