-- `builder::entry::put_entry` meets its contract.
use Rattle.numbers.proofs.Prelude.{arith}
use Rattle.writer.proofs.Stores.{stored_then}
use Rattle.builder.proofs.{Steps.{stored_as, stored_few, box_few}}
use Rattle.builder.specs.Entries.{entry_bytes}
use Rattle.builder.proofs.entry.put_entry.Goals as goal

pub put_varint-next-requires : goal.put_varint-next-requires
put_varint-next-requires c =
    omega (arith, c.put_box-behind.ensures.place_after, box_few c.args.bounds)

pub put_varint-requires : goal.put_varint-requires
put_varint-requires c =
    omega (arith, c.put_box-behind.ensures.place_after, box_few c.args.bounds, stored_few _ c.put_varint-next.ensures)

pub returns : goal.returns
unfolding entry_bytes
returns c =
    stored_then _ _ c.put_box-behind.ensures (stored_then _ _ (stored_as c.step_form.ensures c.put_varint-next.ensures) c.put_varint.ensures)
