-- `build::metadata::words::inlined_size` meets its contract.
use Rattle.numbers.proofs.{Prelude.{arith}, Spelling.{varint_few}}
use Rattle.build.proofs.metadata.words.inlined_size.Goals as goal

pub overflow_cast-digits : goal.overflow_cast-digits
overflow_cast-digits c =
    omega (arith, c.size_of_varint-digits.ensures, varint_few c.args.size)

pub overflow_add-result : goal.overflow_add-result
overflow_add-result c =
    omega (arith, c.size_of_varint-digits.ensures, varint_few c.args.size, c.requires)
