-- How a builder lies in its lists: each begins with what is held, and is zero behind it.
use Rattle.std.specs.Prelude.{◌-◌, ◌*◌, ◌≤◌, ◌∷◌, ◌++◌, ◌≡◌}
use Rattle.numbers.specs.{Lists.{zeros}, Prelude.{ℕ, eqb, ℤ, pos, length, take, replicate, true, List, [], map}, Reply.{Reply, given, refused}}
use Rattle.writer.specs.Writer.{every}
use Rattle.builder.specs.{Borders.{Drawn}, File.{head_of}, Metadata.{fields_of}, Yards.{Text, Plan, Yard, sum_of}}
use Rattle.build.specs.{Entries.Corners.{corners_of}, Metadata.Kept.{joined}}
use Rattle.draft.specs.{Held.{Builder.{Builder}, Sound.{Sound}, Totals.{Totals, data_of, totals_of}}, declared.held.{room.Rooms.{Rooms}, state.Held.{Held}}}

-- a list begins so, and has this item everywhere behind
pub record Front {A : Type 0} (none : A) (front list : List A) : Type 0 where
  pub room : length front ≤ length list
  pub is : list ≡ front ++ replicate (length list - length front) none

-- the builder's lists: four numbers of a box and a border's place for each yard, the lengths and the bytes of all texts, the data section
pub record Lists : Type 0 where
  pub boxes : List ℤ
  pub borders : List ℕ
  pub lengths : List ℕ
  pub texts : List ℕ
  pub bytes : List ℕ

abbrev pub lists_as : List ℤ → List ℕ → List ℕ → List ℕ → List ℕ → Lists
lists_as boxes borders lengths texts bytes = record { boxes = boxes; borders = borders; lengths = lengths; texts = texts; bytes = bytes }

-- the same lists with so many zeros behind each: lists may grow between two calls
pub record More : Type 0 where
  pub boxes : ℕ
  pub borders : ℕ
  pub lengths : ℕ
  pub texts : ℕ
  pub bytes : ℕ

abbrev pub wider : More → Lists → Lists
wider more l =
    lists_as (l.boxes ++ replicate more.boxes (pos 0)) (l.borders ++ zeros more.borders)
    (l.lengths ++ zeros more.lengths) (l.texts ++ zeros more.texts) (l.bytes ++ zeros more.bytes)

-- the names and the notice; the values, yard by yard
abbrev pub front_of : Plan → List Text
front_of plan = plan.names ++ (plan.notice ∷ [])

abbrev pub values_of : Plan → List Text
values_of plan = fields_of (map (λ y. y.values) plan.yards)

-- all texts
abbrev pub texts_of : Plan → List Text
texts_of plan = front_of plan ++ values_of plan

-- the lists of a plan whose borders are drawn so
pub record Lies (plan : Plan) (drawn : Drawn) (lists : Lists) : Type 0 where
  pub boxes_are : Front (pos 0) (corners_of plan.yards) lists.boxes
  pub borders_are : Front 0 drawn.places lists.borders
  pub lengths_are : Front 0 (map length (texts_of plan)) lists.lengths
  pub texts_are : Front 0 (joined (texts_of plan)) lists.texts
  pub bytes_are : Front 0 drawn.bytes lists.bytes

-- a builder's numbers
abbrev pub held_as : Builder → Held
held_as b =
    let plan = b.plan in
    let totals = b.totals in
    record {
      kind = plan.kind;
      version = plan.version;
      precision = plan.precision;
      names = length plan.names;
      room = b.room;
      head = length (head_of plan);
      front = length (joined (front_of plan));
      strings = length (joined (texts_of plan));
      table = totals.table;
      metadata = totals.metadata;
      bytes = totals.bytes;
      yards = totals.yards;
      greatest = totals.greatest;
    }

-- a builder's numbers with so many bytes of texts and other totals
abbrev pub held_with : Held → ℕ → Totals → Held
held_with held strings t =
    record {
      kind = held.kind;
      version = held.version;
      precision = held.precision;
      names = held.names;
      room = held.room;
      head = held.head;
      front = held.front;
      strings = strings;
      table = t.table;
      metadata = t.metadata;
      bytes = t.bytes;
      yards = t.yards;
      greatest = t.greatest;
    }

-- a builder that calls have made, in its numbers and lists
pub record Holds (b : Builder) (held : Held) (lists : Lists) : Type 0 where
  pub is : held ≡ held_as b
  pub sound : Sound b.plan b.room
  pub fresh : b.totals ≡ totals_of b.plan
  pub lies : Lies b.plan (data_of b.plan) lists

-- no list is longer or shorter than it was
pub record SameRooms (before after : Lists) : Type 0 where
  pub boxes : length after.boxes ≡ length before.boxes
  pub borders : length after.borders ≡ length before.borders
  pub lengths : length after.lengths ≡ length before.lengths
  pub texts : length after.texts ≡ length before.texts
  pub bytes : length after.bytes ≡ length before.bytes

-- a call leaves the builder that its definition gives, numbers and lists; or it is refused as that is, and changes no list
unfoldable pub Answers : Reply Builder → Lists → Lists → Reply Held → Type 0
Answers reply before after (given held) = (b : Builder) × ((reply ≡ given b) × (Holds b held after × SameRooms before after))
Answers reply before after (refused why) = (reply ≡ refused why) × (after ≡ before)

-- the lists that a call is lent to work in
pub record Works : Type 0 where
  pub starts : List ℕ
  pub keys : List ℕ
  pub spare : List ℕ
  pub kept : List ℕ
  pub held : List ℕ
  pub words : List ℕ
  pub places : List ℕ

abbrev pub works_as : List ℕ → List ℕ → List ℕ → List ℕ → List ℕ → List ℕ → List ℕ → Works
works_as starts keys spare kept held words places = record { starts = starts; keys = keys; spare = spare; kept = kept; held = held; words = words; places = places }

-- the lengths of all lists that are lent
abbrev pub rooms_of : Lists → Works → Rooms
rooms_of own work =
    record {
      boxes = length own.boxes;
      borders = length own.borders;
      lengths = length own.lengths;
      texts = length own.texts;
      bytes = length own.bytes;
      starts = length work.starts;
      keys = length work.keys;
      spare = length work.spare;
      kept = length work.kept;
      held = length work.held;
      words = length work.words;
      places = length work.places;
    }

-- the lists that were worked in are zero
pub record Idle (lent left : Works) : Type 0 where
  pub starts_zero : left.starts ≡ zeros (length lent.starts)
  pub keys_zero : left.keys ≡ zeros (length lent.keys)
  pub spare_zero : left.spare ≡ zeros (length lent.spare)
  pub kept_zero : left.kept ≡ zeros (length lent.kept)
  pub held_zero : left.held ≡ zeros (length lent.held)
  pub words_zero : left.words ≡ zeros (length lent.words)
  pub places_zero : left.places ≡ zeros (length lent.places)

-- ---- what the inner functions say of each other
-- some yards in the lists that their sums are taken of: boxes and borders at the front, the lengths and bytes of the values alone
pub record Stands (yards : List Yard) (drawn : Drawn) (names count : ℕ) (boxes : List ℤ) (borders lengths texts : List ℕ) : Type 0 where
  pub many : count ≡ length yards
  pub few : count ≤ 4096
  pub valued : every (λ y. eqb names (length y.values)) yards ≡ true
  pub drawn_many : length drawn.places ≡ length yards
  pub boxes_are : take (4 * count) boxes ≡ corners_of yards
  pub borders_are : take count borders ≡ drawn.places
  pub lengths_are : lengths ≡ map length (fields_of (map (λ y. y.values) yards))
  pub texts_are : texts ≡ joined (fields_of (map (λ y. y.values) yards))
  pub short : sum_of lengths ≤ 255 * length lengths
