-- `draft::summed::sums::fits` meets its contract.
use Rattle.numbers.proofs.{Prelude.{arith}, Spelling.{varint_few}}
use Rattle.draft.proofs.summed.{Fitting.{long_head, long_table, long_metadata, long_bytes, size_adds}}
use Rattle.draft.proofs.summed.sums.fits.Goals as goal

pub returns-then-head-gt1073741824 : goal.returns-then-head-gt1073741824
returns-then-head-gt1073741824 c =
    long_head _ _ _ _ _ c.if-head-gt1073741824.true

pub returns-then-table-gt1073741824 : goal.returns-then-table-gt1073741824
returns-then-table-gt1073741824 c =
    long_table _ _ _ _ _ c.if-table-gt1073741824.true

pub returns-then-metadata-gt1073741824 : goal.returns-then-metadata-gt1073741824
returns-then-metadata-gt1073741824 c =
    long_metadata _ _ _ _ _ c.if-metadata-gt1073741824.true

pub returns-then-bytes-gt1073741824 : goal.returns-then-bytes-gt1073741824
returns-then-bytes-gt1073741824 c =
    long_bytes _ _ _ _ _ c.if-bytes-gt1073741824.true

pub overflow_add-sizes : goal.overflow_add-sizes
overflow_add-sizes c =
    omega (arith, varint_few c.args.table, varint_few c.args.metadata, varint_few c.args.bytes, c.size_of_varint.ensures, c.size_of_varint-2.ensures)

pub overflow_add-sizes-2 : goal.overflow_add-sizes-2
overflow_add-sizes-2 c =
    omega (
      arith,
      varint_few c.args.table,
      varint_few c.args.metadata,
      varint_few c.args.bytes,
      c.size_of_varint.ensures,
      c.size_of_varint-2.ensures,
      c.size_of_varint-3.ensures,
    )

pub overflow_add-result : goal.overflow_add-result
overflow_add-result c =
    omega (
      arith,
      varint_few c.args.table,
      varint_few c.args.metadata,
      varint_few c.args.bytes,
      c.size_of_varint.ensures,
      c.size_of_varint-2.ensures,
      c.size_of_varint-3.ensures,
      c.if-head-gt1073741824.false,
      c.if-table-gt1073741824.false,
      c.if-metadata-gt1073741824.false,
      c.if-bytes-gt1073741824.false,
    )

pub overflow_add-result-2 : goal.overflow_add-result-2
overflow_add-result-2 c =
    omega (
      arith,
      varint_few c.args.table,
      varint_few c.args.metadata,
      varint_few c.args.bytes,
      c.size_of_varint.ensures,
      c.size_of_varint-2.ensures,
      c.size_of_varint-3.ensures,
      c.if-head-gt1073741824.false,
      c.if-table-gt1073741824.false,
      c.if-metadata-gt1073741824.false,
      c.if-bytes-gt1073741824.false,
    )

pub overflow_add-result-3 : goal.overflow_add-result-3
overflow_add-result-3 c =
    omega (
      arith,
      varint_few c.args.table,
      varint_few c.args.metadata,
      varint_few c.args.bytes,
      c.size_of_varint.ensures,
      c.size_of_varint-2.ensures,
      c.size_of_varint-3.ensures,
      c.if-head-gt1073741824.false,
      c.if-table-gt1073741824.false,
      c.if-metadata-gt1073741824.false,
      c.if-bytes-gt1073741824.false,
    )

pub overflow_add-result-4 : goal.overflow_add-result-4
overflow_add-result-4 c =
    omega (
      arith,
      varint_few c.args.table,
      varint_few c.args.metadata,
      varint_few c.args.bytes,
      c.size_of_varint.ensures,
      c.size_of_varint-2.ensures,
      c.size_of_varint-3.ensures,
      c.if-head-gt1073741824.false,
      c.if-table-gt1073741824.false,
      c.if-metadata-gt1073741824.false,
      c.if-bytes-gt1073741824.false,
    )

pub returns : goal.returns
returns c =
    size_adds _ _ _ _ _ _ _ _ c.size_of_varint.ensures c.size_of_varint-2.ensures c.size_of_varint-3.ensures _ c.up_to.ensures
