-- The bytes of a name that is looked for.
use Rattle.numbers.specs.Prelude.{ℕ, List}
use Rattle.bundle.specs.{Spelled.{spelled}, declared.wanted.Wanted.{Wanted}}

abbrev pub name_of : Wanted → List ℕ
name_of wanted = spelled wanted.mask wanted.prefix.now wanted.id.now
