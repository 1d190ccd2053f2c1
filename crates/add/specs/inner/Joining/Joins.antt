-- What the functions that join a yard to a builder say of each other.
use Rattle.std.specs.Prelude.{◌+◌, ◌-◌, ◌*◌, ◌^◌, ◌≤◌, ◌<◌, ◌∷◌, ◌++◌, ◌≡◌}
use Rattle.numbers.specs.{Prelude.{ℕ, ℤ, length, take, drop, true, List, [], map}, Reply.{given}}
use Rattle.build.specs.{Room.{enough}, declared.room.Work.{Work}}
use Rattle.builder.specs.{Borders.{Drawn, with_border}, File.{up_to}, Yards.{Yard, sum_of}}
use Rattle.add.specs.{Growing.{Joins.{Renoted}, Notes.{Notes, NotedBy, NotesRoom}}, Offered.Offers.{offered_as, offer_good}, declared.growing.grow.Added.{Added}}
use Rattle.add.specs.inner.Growing.Joins.{Growing, Grew}
use Rattle.draft.specs.{Held.{Builder.{Builder, Offered, yard_of, joined, summed, fitting}, Space.{Space}, State.{Lists, Holds, Answers}, Totals.{data_of}}, declared.held.state.Held.{Held}}

-- where the lengths of the values end, with a yard more
abbrev pub values_end : Held → ℕ
values_end held = held.names + 1 + held.names * (held.yards + 1)

-- the lengths and the texts of the values alone, of a builder's lists with a yard more, its texts ending so
abbrev pub value_lengths : Held → List ℕ → List ℕ
value_lengths held lengths = take (values_end held - (held.names + 1)) (drop (held.names + 1) lengths)

abbrev pub value_texts : Held → ℕ → List ℕ → List ℕ
value_texts held strings texts = take (strings - held.front) (drop held.front texts)

-- a yard more than a builder has, with values of these lengths, so many bytes of texts and so many more of data, can be summed up and noted in lists of these lengths
pub record Measuring (held : Held) (sizes : List ℕ) (strings size borders lengths texts : ℕ) (work : Work) (marks chains groups begins : ℕ) : Type 0 where
  pub few_names : held.names ≤ 255
  pub few_yards : held.yards < 4096
  pub few_bytes : held.bytes + size ≤ 2 ^ 30
  pub order : held.front ≤ held.strings
  pub longer : held.strings ≤ strings
  pub valued : length sizes ≡ held.names
  pub few_values : sum_of sizes ≤ 2 ^ 16
  pub boxes_room : 4 * (held.yards + 1) ≤ work.boxes
  pub borders_room : held.yards + 1 ≤ borders
  pub lengths_room : held.names + 1 + held.names * (held.yards + 1) ≤ lengths
  pub texts_room : strings ≤ texts
  pub work_room : enough work (held.yards + 1) (held.names * (held.yards + 1)) (strings - held.front) ≡ true
  pub noted : NotesRoom held.names (held.yards + 1) marks chains groups begins

-- for yards that lie in the lists, with one more, and notes that are right: the builder with it, and its notes
abbrev pub Settles : Held → ℕ → ℕ → ℕ → List ℕ → List ℤ → List ℕ → List ℕ → List ℕ → Notes → Notes → Added → Type 0
Settles held noted strings size sizes boxes borders lengths texts before after r =
    (yards : List Yard) (y : Yard) (drawn drawn' : Drawn) → Growing yards y drawn drawn' held size boxes borders (value_lengths held lengths) (value_texts held strings texts)
    → sizes ≡ map length y.values
    → held.strings + sum_of sizes ≡ strings → NotedBy held.names yards noted before → Grew (yards ++ (y ∷ [])) drawn' held strings noted before after r

-- a good yard and its border, for a builder that these lists hold; the border was drawn in no more room than the file's
pub record Joining (b : Builder) (held : Held) (o : Offered) (border : List ℕ) (lists : Lists) : Type 0 where
  pub holds : Holds b held lists
  pub good : offer_good held.yards held.names o ≡ given tt
  pub wide : ℕ
  pub narrow : wide ≤ up_to b.room
  pub drawn : with_border b.plan.version wide (data_of b.plan).bytes (yard_of o) ≡ given ((data_of b.plan).bytes ++ border)

-- the last line of `add`, where every list is long enough; the values end where the last of them does
unfoldable pub Joins : Held → ℕ → List ℤ → List ℤ → List ℕ → List ℕ → List ℕ → Lists → Lists → Notes → Notes → Added → Type 0
Joins held noted lats lons sizes values border before after notes notes' r =
    (b : Builder) (pieces texts : List ℕ) (space : Space) → values ≡ take (sum_of sizes) texts → space.lists ≡ true → Joining b held (offered_as lats lons pieces sizes texts) border before
    → NotedBy held.names b.plan.yards noted notes
    → Answers (fitting space (summed (joined b.plan (offered_as lats lons pieces sizes texts)) b.room)) before after r.changed
    × Renoted held.names (joined b.plan (offered_as lats lons pieces sizes texts)).yards noted notes r.noted notes' r.changed
