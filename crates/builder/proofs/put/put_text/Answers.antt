-- `builder::put::put_text` meets its contract.
use Rattle.numbers.{proofs.{Prelude.{length, map, arith}, Spelling.{varint_few}}, specs.Spelling.{varint_of}}
use Rattle.writer.proofs.Stores.{stored_then}
use Rattle.builder.specs.Metadata.{inlined}
use Rattle.header.specs.Utf8.{unmasked}
use Rattle.builder.proofs.put.put_text.Goals as goal

pub put_masked-requires : goal.put_masked-requires
put_masked-requires c =
    omega (arith, c.put_varint-next.ensures.place_after, varint_few (length c.args.text.now))

pub returns : goal.returns
unfolding inlined
returns c =
    stored_then (varint_of (length c.args.text.now)) (map unmasked c.args.text.now) c.put_varint-next.ensures c.put_masked.ensures
