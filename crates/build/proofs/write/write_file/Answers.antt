-- `build::write::write_file` meets its contract.
use Rattle.numbers.proofs.Prelude.{arith}
use Rattle.build.proofs.{Puts.{head_next, sizes_next, file_stored}}
use Rattle.build.proofs.write.write_file.Goals as goal

pub put_sizes-sizes-requires : goal.put_sizes-sizes-requires
put_sizes-sizes-requires c =
    omega (arith, head_next _ _ _ _ _ _ c.requires.0 _ _ _ c.put_head-head.ensures)

pub put_sections-requires : goal.put_sections-requires
put_sections-requires c = (
  c.requires.2,
  omega (arith, head_next _ _ _ _ _ _ c.requires.0 _ _ _ c.put_head-head.ensures, sizes_next _ _ _ _ _ _ _ c.put_sizes-sizes.ensures),
  c.requires.1,
  c.requires.3,
)

pub returns : goal.returns
returns c =
    file_stored _ _ _ _ _ _ (c.fill.ensures.after (λ y h. h)) c.put_head-head.ensures c.table_size-table.ensures c.requires.2.size_is c.put_sizes-sizes.ensures c.put_sections.ensures
