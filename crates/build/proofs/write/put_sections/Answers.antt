-- `build::write::put_sections` meets its contract.
use Rattle.numbers.proofs.Prelude.{arith}
use Rattle.writer.proofs.Stores.{stored_then}
use Rattle.build.proofs.{Puts.{table_next, section_few}}
use Rattle.build.proofs.write.put_sections.Goals as goal

pub put_section-section-requires : goal.put_section-section-requires
put_section-section-requires c =
    (c.requires.0, omega (arith, table_next c.args.boxes.now c.args.places.now c.args.keys.now c.requires.2 _ _ _ _ c.put_table-table.ensures, c.requires.1))

pub put_bytes-requires : goal.put_bytes-requires
put_bytes-requires c =
    omega (
      arith,
      section_few _ _ _ _ _ c.requires.0 _ _ _ _ c.put_section-section.ensures,
      table_next c.args.boxes.now c.args.places.now c.args.keys.now
          c.requires.2 _ _ _ _ c.put_table-table.ensures,
      c.requires.1,
      c.requires.3,
    )

pub returns : goal.returns
returns c =
    stored_then _ _ c.put_table-table.ensures (stored_then _ _ c.put_section-section.ensures c.put_bytes.ensures)
