-- `verdict::glide::glide_counted` meets its contract: what its loop ensures, from the state that is given.
use Rattle.verdict.proofs.{Gliding.{from_standing}}
use Rattle.border.specs.{Encoding.{encoded_by}, declared.reader.Version.TheVariants.{Plain}}
use Rattle.verdict.specs.inner.Gliding.{stays}
use Rattle.verdict.proofs.glide.glide_counted.Goals as goal

pub returns-in_default : goal.returns-in_default
returns-in_default c =
    stays
