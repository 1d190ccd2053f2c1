-- The refusals of a plan before anything is drawn, in their order: the first lines of `built_of`.
use Rattle.numbers.specs.{Prelude.{ℕ, ℤ, List}, Reply.{Reply, plain, demand, ◌>>◌}}
use Rattle.builder.specs.{File.{borders_good, counted, readable, known}, Yards.{Plan, Lent}}

unfoldable pub checked : Plan → Reply (Unit {0})
checked plan = borders_good plan.yards >> (demand (counted plan) (plain 25) >> (demand (readable plan) (plain 26) >> demand (known plan) (plain 27)))

-- what is lent
abbrev pub lent_as : ℕ → ℕ → ℕ → ℕ → List ℕ → List ℤ → List ℤ → List ℕ → List ℕ → List ℕ → Lent
lent_as kind version precision names yards lats lons pieces lengths texts =
    record { kind = kind; version = version; precision = precision; names = names; yards = yards; lats = lats; lons = lons; pieces = pieces; lengths = lengths; texts = texts }
