-- `builder::table::put_table` meets its contract.
use Rattle.builder.proofs.{Tables.{table_starts, row_room, table_goes, table_ends}}
use Rattle.builder.proofs.table.put_table.Goals as goal

pub loop-word-preserved : goal.loop-word-preserved
loop-word-preserved c =
    table_goes c.args.out.now c.args.place c.args.words.now c.args.boxes.now c.args.places.now c.loop-word.out c.loop-word.next c.loop-word.last c.loop-word.word-index
    c.loop-word.invariant c.loop-word-test.true _ _ c.bounds_at-bounds.ensures c.places_at-here.ensures _ _ c.put_entry-next.ensures

pub returns : goal.returns
returns c =
    table_ends _ _ _ _ _ _ _ _ _ c.loop-word.invariant c.loop-word-test.false
