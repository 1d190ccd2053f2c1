-- `salvage::moves::put::put_number` meets its contract.
use Rattle.numbers.proofs.{Prelude.{arith}, Spelling.{varint_few}}
use Rattle.salvage.proofs.moves.put.put_number.Goals as goal

pub overflow_add-result : goal.overflow_add-result
overflow_add-result c =
    let told = varint_few c.args.value in
    omega (arith, c.if-place-lt2147483648.true, c.write_varint.ensures.counted, told)
