-- `build::write::put_section` meets its contract.
use Rattle.numbers.proofs.Prelude.{arith}
use Rattle.writer.proofs.Stores.{stored_then}
use Rattle.build.proofs.{Puts.{behind_few}}
use Rattle.build.specs.inner.Puts.{section_from}
use Rattle.build.proofs.write.put_section.Goals as goal

pub put_remotes-requires : goal.put_remotes-requires
put_remotes-requires c = (
  c.requires.0.many,
  c.requires.0.whole,
  omega (
    arith,
    behind_few _ _ _ _ _ c.requires.0 _ _ _ _ c.put_records-behind.ensures,
    c.requires.0.bound,
    c.requires.1,
  ),
  c.requires.0.words_are,
)

pub returns : goal.returns
unfolding section_from
returns c =
    stored_then _ _ c.put_records-behind.ensures c.put_remotes.ensures
