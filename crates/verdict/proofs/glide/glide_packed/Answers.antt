-- `verdict::glide::glide_packed` meets its contract: what its loops ensure, from the state that is given.
use Rattle.verdict.proofs.{Gliding.{from_standing}}
use Rattle.border.specs.{Encoding.{encoded_by}, declared.reader.Version.TheVariants.{Packed}}
use Rattle.verdict.specs.inner.Gliding.{stays}
use Rattle.verdict.proofs.glide.glide_packed.Goals as goal

pub returns-in-Forward : goal.returns-in-Forward
returns-in-Forward c =
    stays
