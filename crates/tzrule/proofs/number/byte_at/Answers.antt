-- `tzrule::number::byte_at` meets its contract.
use Rattle.numbers.proofs.Prelude.{rules}
use Rattle.tzrule.specs.{Text.{byte_at}}
use Rattle.tzrule.proofs.number.byte_at.Goals as goal

pub returns : goal.returns
unfolding byte_at
returns c =
    search rules
