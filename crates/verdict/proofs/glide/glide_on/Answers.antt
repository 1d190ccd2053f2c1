-- `verdict::glide::glide_on` meets its contract: between the first point and the closing one the border glides, elsewhere it stays.
use Rattle.numbers.proofs.Prelude.{not-false}
use Rattle.verdict.specs.inner.Gliding.{stays}
use Rattle.verdict.proofs.glide.glide_on.Goals as goal

pub returns-then-reader : goal.returns-then-reader
returns-then-reader c =
    stays

pub returns-then-not-reader : goal.returns-then-not-reader
returns-then-not-reader c =
    stays
