-- What a lookup in a built file finds: each yard's own verdict, in the order of the table, merged.
use Rattle.std.specs.Prelude.{if◌then◌else◌, ◌+◌, ◌-◌, ◌∷◌, ◌++◌, ◌≡◌}
use Rattle.numbers.specs.{Prelude.{ℕ, min, eqb, leb, pos, length, Bool, true, false, List, [], flat_map}, Reply.{Reply, given, plain, demand, ◌>>◌}}
use Rattle.writer.specs.{Moves.{points_of}, Writer.{every}}
use Rattle.verdict.specs.{Verdict.{Judgement, reached, none, judge}, declared.step.Verdict.{Verdict}}
use Rattle.border.specs.{Written.{round_trip}, declared.place.Point.{Point}}
use Rattle.builder.specs.{Borders.{Drawn, drawn_of}, File.{Room, up_to}, Yards.{Text, Yard, Plan}}
use Rattle.table.specs.{Ending.{hits_of}, Find.{fix_of}, Merge.{merged}, Search.{farthest}, Table.{holds}, declared.{hits.Hit.{Hit}, location.Location.{Location}}}
use Rattle.header.specs.Field.{field}
use Rattle.zones.specs.{Lent.{Outcome, Replied, replied_of}, Lookup.{safezone_bits}, declared.lookup.Zones.{Zones}}
use Rattle.promises.specs.Built.Seats.{Seat, seats_of}

-- a yard's border judged alone, by its points
unfoldable pub judged_alone : Yard → Point → Bool → ℕ → Judgement
judged_alone yard fix asked least = judge fix asked none (record { winding = pos 0; least = least }) (round_trip (points_of yard.lats yard.lons))

-- the hits of some yards, each by the verdict that its border alone comes to, whatever the least distance so far; `NotInZone` gives none
pub data Alone (fix : Point) : List Seat → List Hit → Type 0 where
  no_more : Alone fix [] []
  next : {s : Seat} {seats : List Seat} {hits : List Hit} (verdict : Verdict)
      → ((least : ℕ) → judged_alone s.yard fix false least ≡ reached verdict least) → Alone fix seats hits → Alone fix (s ∷ seats) (hits_of s.at verdict ++ hits)

-- the least distance over the yards whose box holds the location, from a distance on
pub data Nearest (fix : Point) (asked : Bool) : List Seat → ℕ → ℕ → Type 0 where
  no_more : {least : ℕ} → Nearest fix asked [] least least
  outside : {s : Seat} {seats : List Seat} {least last : ℕ} → holds s.at.bounds fix ≡ false → Nearest fix asked seats least last → Nearest fix asked (s ∷ seats) least last
  held : {s : Seat} {seats : List Seat} {verdict : Verdict} {least closer last : ℕ} → holds s.at.bounds fix ≡ true
      → judged_alone s.yard fix asked least ≡ reached verdict closer → Nearest fix asked seats closer last → Nearest fix asked (s ∷ seats) least last

-- a yard's values as fields of a match, the first with this tag
unfoldable pub fields_out : ℕ → List Text → List ℕ
fields_out tag [] = []
fields_out tag (value ∷ values) = field tag value ++ fields_out (tag + 1) values

-- behind a text, with so much room in all; 18 where one has no room
unfoldable pub fields_into : ℕ → ℕ → List Text → List ℕ → Reply (List ℕ)
fields_into room tag [] text = given text
fields_into room tag (value ∷ values) text = do
  demand (leb (length (field tag value)) (room - length text)) (plain 18)
  fields_into room (tag + 1) values (text ++ field tag value)

-- the values of the yard that a match is numbered by
unfoldable pub values_at : List Seat → ℕ → List Text
values_at [] n = []
values_at (s ∷ seats) n = if eqb s.at.id n then s.yard.values else values_at seats n

abbrev pub strings_of : List Seat → Hit → List ℕ
strings_of seats match = fields_out 0 (values_at seats match.polygon)

-- every yard has a value for each name, and no other; a plan that was lent and not refused 25 has that (`lent_valued`)
abbrev pub Valued : Plan → Type 0
Valued plan = every (λ y. eqb (length y.values) (length plan.names)) plan.yards ≡ true

-- An answered lookup in a built file: mark 1; the matches are the merge, in the order of the table, of each yard's verdict as its border alone gives it; their strings are
-- the values of the yard that each is numbered by; and the safezone is of the least distance over the yards whose box holds the location.
pub record Finds (plan : Plan) (room : Room) (location : Location) (asked : Bool) (o : Outcome Zones) : Type 0 where
  pub drawn : Drawn
  pub draws : drawn_of plan.version (up_to (min room.file room.bytes)) plan.yards ≡ given drawn
  pub marked : o.answer.mark ≡ 1
  pub hits : List Hit
  pub alone : Alone (fix_of location plan.precision) (seats_of plan drawn) hits
  pub merges : o.matches ≡ merged hits
  pub counted : o.answer.matches ≡ length o.matches
  pub strings : o.text ≡ flat_map (strings_of (seats_of plan drawn)) o.matches
  pub used : o.answer.used ≡ length o.text
  pub least : ℕ
  pub nearest : Nearest (fix_of location plan.precision) asked (seats_of plan drawn) farthest least
  pub safezone : o.answer.safezone ≡ safezone_bits asked least plan.precision

-- a lookup's reply with all that it was lent
pub record FindsInto (plan : Plan) (room : Room) (location : Location) (asked : Bool) (n space : ℕ) (r : Replied Zones) (zones : Zones) : Type 0 where
  pub outcome : Outcome Zones
  pub finds : Finds plan room location asked outcome
  pub answer : outcome.answer ≡ zones
  pub into : r ≡ replied_of n space (given outcome)
