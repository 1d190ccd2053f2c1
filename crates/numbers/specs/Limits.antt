-- Limits that more than one crate's definitions ask for.
use Rattle.std.specs.Prelude.{◌^◌}
use Rattle.numbers.specs.Prelude.{ℕ}

-- bytes of a file: 1 GiB
abbrev pub largest_file : ℕ
largest_file = 2 ^ 30

-- bytes of a text that is written into a file
abbrev pub longest_text : ℕ
longest_text = 255
