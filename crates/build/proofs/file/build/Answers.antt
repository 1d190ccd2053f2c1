-- `build::file::build` meets its contract.
use Rattle.numbers.proofs.Prelude.{length, ◌∙◌}
use Rattle.build.proofs.{Moving.{builds_as, cleared_as}, Needed.{zero_first}}
use Rattle.build.proofs.file.build.Goals as goal

pub returns : goal.returns
returns c = (
  builds_as _ _ _ _ _ c.bytes-1.given _ _ _ _ c.out-1.given c.fill_all-built.ensures c.settle.ensures,
  cleared_as _ _ _ _ _ _ _ _ _ _ _ _ _ _ _ _ _ _ _ _ _ _ _
      _ _ _ _ c.starts-1.given c.keys-1.given c.spare-1.given c.kept-1.given c.held-1.given c.words-1.given c.places-1.given c.boxes-1.given (c.bytes-2-1.given
      ∙ c.bytes-1.given) c.clear.ensures,
)
