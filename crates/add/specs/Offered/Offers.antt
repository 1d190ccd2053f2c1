-- A yard that is offered, and what the functions that look at it say.
use Rattle.std.specs.Prelude.{◌≤◌, ◌&&◌, ◌++◌, ◌≡◌}
use Rattle.numbers.specs.{Prelude.{ℕ, min, eqb, ltb, ℤ, length, take, false, List, []}, Reply.{Reply, given, refused, plain, demand, ◌>>◌}}
use Rattle.writer.specs.{Pieces.{pieces_of}, Writer.{checks, border_of}}
use Rattle.builder.specs.{Borders.{appended}, File.{are_texts, up_to}}
use Rattle.draft.specs.{Held.Builder.{Offered}, declared.held.state.Held.{Held}}

abbrev pub offered_as : List ℤ → List ℤ → List ℕ → List ℕ → List ℕ → Offered
offered_as lats lons pieces sizes values = record { lats = lats; lons = lons; pieces = pieces; lengths = sizes; texts = values }

-- the refusals before its border is drawn, in their order: the first lines of `add`, for so many yards and names
unfoldable pub offer_good : ℕ → ℕ → Offered → Reply (Unit {0})
offer_good yards names o =
    checks 0 o.lats o.lons [] >> (demand (ltb yards 4096 && eqb names (length o.lengths)) (plain 25) >> demand (are_texts o.lengths o.texts) (plain 26))

-- the data with its border
abbrev pub border_behind : ℕ → ℕ → List ℕ → List ℤ → List ℤ → List ℕ → Reply (List ℕ)
border_behind version room earlier lats lons pieces = appended room earlier false (length (pieces_of pieces)) (border_of version lats lons (pieces_of pieces) earlier)

-- the data of a builder with it, in a list of bytes, with so much room to draw in
abbrev pub data_with : Held → Offered → List ℕ → ℕ → Reply (List ℕ)
data_with held o bytes room = border_behind held.version (up_to (min held.room (min (length bytes) room))) (take held.bytes bytes) o.lats o.lons o.pieces

-- the yard is good, and its border stands at the front of the output; or it is refused
unfoldable pub Offers : Held → Offered → List ℕ → ℕ → List ℕ → Reply ℕ → Type 0
Offers held o bytes room out (given size) =
    (offer_good held.yards held.names o ≡ given tt) × ((data_with held o bytes room ≡ given (take held.bytes bytes ++ take size out)) × (size ≤ length out))
Offers held o bytes room out (refused why) = (offer_good held.yards held.names o >> data_with held o bytes room) ≡ refused why
