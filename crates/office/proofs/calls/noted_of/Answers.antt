use Rattle.numbers.proofs.Prelude.{rules}
use Rattle.office.specs.Draft.{noted_in}
use Rattle.office.proofs.calls.noted_of.Goals as goal

pub returns : goal.returns
unfolding noted_in
returns c =
    search rules
