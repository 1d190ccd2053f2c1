-- `writer::bytes::put_two` meets its contract.
use Rattle.numbers.{proofs.{Prelude.{arith}, Spelling.{varint_few}}, specs.Spelling.{varint_of}}
use Rattle.writer.proofs.{Stores.{stored_then}}
use Rattle.writer.proofs.bytes.put_two.Goals as goal

pub put_varint-requires : goal.put_varint-requires
put_varint-requires c =
    omega (arith, c.put_varint-next.ensures.place_after, varint_few c.args.first)

pub returns : goal.returns
returns c =
    stored_then (varint_of c.args.first) (varint_of c.args.second) c.put_varint-next.ensures c.put_varint.ensures
