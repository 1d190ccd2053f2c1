-- What a search of the index answers.
use Rattle.std.specs.Prelude.{Option, Some, None}
use Rattle.numbers.specs.{Answer.{Answer, found, failed}, Prelude.{ℕ}}

abbrev pub told_sought : Option ℕ → Answer ℕ
told_sought (Some place) = found place
told_sought None = failed
