-- The data section: "begins with one zero byte, for backward runs"; borders lie in order of arrival. 23 and 28 come yard by yard.
use Rattle.std.specs.Prelude.{◌≤◌, ◌<◌, ◌∷◌, ◌++◌, ◌≡◌, if◌then◌else◌}
use Rattle.numbers.specs.Prelude.{ℕ, eqb, leb, length, take, Bool, not, List, []}
use Rattle.numbers.specs.Reply.{Reply, given, refused, refusal, plain, demand, ◌>>=◌, ◌>>◌}
use Rattle.writer.specs.Writer.{border_of}
use Rattle.numbers.specs.declared.refusal.Refusal.{Refusal}
use Rattle.builder.specs.Yards.{Yard}

-- the data with one border more: 23 for pieces that are not there, then 28 for the data so far
unfoldable pub appended : ℕ → List ℕ → Bool → ℕ → Reply (List ℕ) → Reply (List ℕ)
appended room sofar cut pieces border = do
  bytes ← border
  demand (not cut) (refusal 23 0 pieces)
  demand (leb (length (sofar ++ bytes)) room) (plain 28)
  given (sofar ++ bytes)

unfoldable pub with_border : ℕ → ℕ → List ℕ → Yard → Reply (List ℕ)
with_border version room sofar yard = appended room sofar yard.cut (length yard.pieces) (border_of version yard.lats yard.lons yard.pieces sofar)

-- all of it, and where each border begins
pub record Drawn : Type 0 where
  pub bytes : List ℕ
  pub places : List ℕ

unfoldable pub drawn_from : ℕ → ℕ → List ℕ → List Yard → Reply Drawn
drawn_from version room sofar [] = given (record { bytes = sofar; places = [] })
drawn_from version room sofar (yard ∷ yards) = do
  more ← with_border version room sofar yard
  rest ← drawn_from version room more yards
  given (record { bytes = rest.bytes; places = length sofar ∷ rest.places })

unfoldable pub drawn_of : ℕ → ℕ → List Yard → Reply Drawn
drawn_of version room yards = drawn_from version room (0 ∷ []) yards

-- ---- what the inner functions say of each other
-- a border that was not written: 24 is one that does not fit the output
abbrev pub unwritten_as : Refusal → Bool → ℕ → Refusal
unwritten_as why cut pieces = if eqb why.number 24 then (if cut then refusal 23 0 pieces else plain 28) else why

-- the border stands at the front of the output, or is refused
unfoldable pub Draws : Reply (List ℕ) → List ℕ → List ℕ → Reply ℕ → Type 0
Draws reply earlier out (given size) = (reply ≡ given (earlier ++ take size out)) × (size ≤ length out)
Draws reply earlier out (refused why) = reply ≡ refused why

-- so much is lent that a border that does not fit it does not fit the room either
abbrev pub Lends : ℕ → List ℕ → Reply (List ℕ) → ℕ → Type 0
Lends room sofar border lent = (bytes : List ℕ) → border ≡ given bytes → lent < length bytes → room < length (sofar ++ bytes)

-- the checks of a border that is written into no room: 24 is a good one
abbrev pub good_if : Refusal → Reply (Unit {0})
good_if why = if eqb why.number 24 then given tt else refused why
