-- The records of some yards: all their fields, and where a yard's record begins.
use Rattle.numbers.specs.Prelude.{ℕ, List}
use Rattle.builder.specs.{Metadata.{fields_of, records_of, start_of}, Yards.{Text, Yard}}

abbrev pub fields_in : List Yard → List Text
fields_in yards = fields_of (records_of yards)

abbrev pub begin_in : List Yard → Yard → ℕ
begin_in yards yard = start_of (records_of yards) yard.values
