-- The encoding of a file's borders: their version, the place that references count from, and whether numbers are read strictly.
use Rattle.std.specs.Prelude.{if◌then◌else◌}
use Rattle.numbers.specs.Prelude.{ℕ, eqb, Bool, false}
use Rattle.border.specs.declared.reader.{Encoding.{Encoding}, Version.{Version, TheVariants.{Plain, Packed}}}

-- a version by its number
abbrev pub version_of : ℕ → Version
version_of number = if eqb number 0 then Plain else Packed

abbrev pub encoded_by : Bool → Version → ℕ → Encoding
encoded_by strict version base = record { version = version; «data» = base; strict = strict }

-- in the plain reading
abbrev pub encoded_in : Version → ℕ → Encoding
encoded_in version base = encoded_by false version base

abbrev pub encoding_of : ℕ → ℕ → Encoding
encoding_of number base = encoded_in (version_of number) base
