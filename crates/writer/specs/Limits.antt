-- How much a border may have: document 01, "The writer".
use Rattle.numbers.specs.Prelude.{ℕ}

abbrev pub most_points : ℕ
most_points = 65535

abbrev pub most_pieces : ℕ
most_pieces = 16
