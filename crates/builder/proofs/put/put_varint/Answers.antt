-- `builder::put::put_varint` meets its contract.
use Rattle.numbers.proofs.{Prelude.{arith}, Spelling.{varint_few}}
use Rattle.writer.proofs.Stores.{stored_put}
use Rattle.builder.proofs.put.put_varint.Goals as goal

pub overflow_add-result : goal.overflow_add-result
overflow_add-result c =
    omega (arith, c.write_varint.ensures.counted, varint_few c.args.value)
