-- `build::write::put_sizes` meets its contract.
use Rattle.numbers.proofs.Prelude.{arith}
use Rattle.writer.proofs.Stores.{stored_then}
use Rattle.builder.proofs.Steps.{stored_few}
use Rattle.build.proofs.write.put_sizes.Goals as goal

pub put_varint-second-requires : goal.put_varint-second-requires
put_varint-second-requires c =
    omega (arith, stored_few _ c.put_varint-first.ensures, c.requires)

pub put_varint-requires : goal.put_varint-requires
put_varint-requires c =
    let told = stored_few _ c.put_varint-first.ensures in
    omega (arith, told, stored_few _ c.put_varint-second.ensures, c.requires)

pub returns : goal.returns
returns c =
    stored_then _ _ c.put_varint-first.ensures (stored_then _ _ c.put_varint-second.ensures c.put_varint.ensures)
