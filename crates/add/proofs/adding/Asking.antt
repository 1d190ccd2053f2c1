-- What the steps of an add ask for follows from the tests before them. Assumes nothing.
use Rattle.numbers.proofs.Prelude.{ℕ, ◌+◌, ◌-◌, ◌*◌, ◌^◌, ◌≤◌, ◌<◌, min, le-leb, leb-true, lt-leb, leb, ℤ, length, take, drop, length-append, length-take-le, drop_at, Bool, true, false}
use Rattle.numbers.{proofs.{Prelude.{◌&&◌, List, ◌++◌, ◌≡◌, refl, sym, ap, subst, ◌∙◌, mul_comm, mul-suc, add-one, arith}, Tests.{both}}, specs.{Lists.{zeros}, Reply.{Reply, given}}}
use Rattle.build.{proofs.Slices.{texts_few}, specs.Room.{enough}}
use Rattle.builder.{proofs.{Counting.{lengths_room}, drawing.Sections.{appended_fits}}, specs.{File.{are_texts, is_text, up_to}, Yards.{cut_by, sum_of}}}
use Rattle.builder.specs.inner.Drawing.Section.{LentFor}
use Rattle.draft.{proofs.held.Stood.{Own, Stood, own_parts, stood as stood-is}, specs.Held.{Builder.{Offered}, Space.{own_enough, long_enough, standing, work_in}, State.{Lists}}}
use Rattle.draft.specs.declared.held.{room.Rooms.{Rooms}, state.Held.{Held}}
use Rattle.writer.specs.{Pieces.{pieces_of}, Writer.{every, border_of}}
use Rattle.add.specs.{Adding.Adds.{Few, notes_enough, used_out}, Growing.Notes.{NotesRoom}, Offered.Offers.{offered_as, offer_good, data_with, Offers}, declared.adding.room.NoteRooms.{NoteRooms}}
use Rattle.add.specs.inner.{Joining.Joins.{Measuring}, Offered.Puts.{Placed}}
use Rattle.add.proofs.joining.Joining.{Fine, fine}

-- ---- lists that are long enough
third : (a b d : Bool) → (a && (b && (false && d))) ≡ false
third true true d = refl
third true false d = refl
third false b d = refl

pub no_place : (r : Rooms) (names yards front strings sum : ℕ) (other : Bool) → strings ≤ r.texts → r.texts - strings < sum → false ≡ (long_enough r names yards front (strings + sum) && other)
unfolding long_enough own_enough
no_place r names yards front strings sum other h k =
    let low : leb (strings + sum) r.texts ≡ false = lt-leb (strings + sum) r.texts (omega (arith, h, k)) in
    let none : own_enough r names yards (strings + sum) ≡ false = ap (λ (b : Bool). leb yards r.borders && (leb (names + 1 + names * yards) r.lengths &&
    (b && leb (4 * yards) r.boxes))) low ∙ third (leb yards r.borders) (leb (names + 1 + names * yards) r.lengths) (leb (4 * yards) r.boxes) in
    sym (ap (λ (b : Bool). (b && enough (work_in r) yards (names * yards) (strings + sum - front)) && other) none)

pub no_space : (t s other : Bool) → t ≡ s → t ≡ false → false ≡ (s && other)
no_space true s other e n = let z : ◌≡◌ {A = ℕ} 0 1 = cc in absurd (omega arith)
no_space false s other e n = ap (λ (b : Bool). b && other) e

pub with_space : (t s other : Bool) → t ≡ s → t ≡ true → other ≡ (s && other)
with_space true s other e n = ap (λ (b : Bool). b && other) e
with_space false s other e n = let z : ◌≡◌ {A = ℕ} 0 1 = cc in absurd (omega arith)

-- ---- lists of notes
pub values_few : (names yards : ℕ) → names ≤ 255 → yards ≤ 4096 → yards * names ≤ 1044480
values_few names yards named few = omega (arith, mul_comm yards names, lengths_room names yards named few)

module _ (r : NoteRooms) (names yards : ℕ) where
  pub no_marks : r.marks < yards * names + 1 → false ≡ notes_enough r names yards
  unfolding notes_enough
  no_marks h = rw (lt-leb (yards * names + 1) r.marks h) refl

  module _ (h0 : yards * names + 1 ≤ r.marks) where
    pub no_chains : r.chains < 4096 + yards * names → false ≡ notes_enough r names yards
    unfolding notes_enough
    no_chains h = rw (le-leb (yards * names + 1) r.marks h0, lt-leb (4096 + yards * names) r.chains h) refl

    module _ (h1 : 4096 + yards * names ≤ r.chains) where
      pub no_groups : r.groups < 4096 + yards → false ≡ notes_enough r names yards
      unfolding notes_enough
      no_groups h = rw (le-leb (yards * names + 1) r.marks h0, le-leb (4096 + yards * names) r.chains h1, lt-leb (4096 + yards) r.groups h) refl

      pub begins_last : 4096 + yards ≤ r.groups → (b : Bool) → b ≡ leb yards r.begins → b ≡ notes_enough r names yards
      unfolding notes_enough
      begins_last h b e = rw (le-leb (yards * names + 1) r.marks h0, le-leb (4096 + yards * names) r.chains h1, le-leb (4096 + yards) r.groups h) e

  pub notes_parts : notes_enough r names yards ≡ true → NotesRoom names yards r.marks r.chains r.groups r.begins
  unfolding notes_enough
  notes_parts e = let one = both (leb (yards * names + 1) r.marks) _ e in let two = both (leb (4096 + yards * names) r.chains) _ one.1 in
      let three = both (leb (4096 + yards) r.groups) _ two.1 in record {
        marked = omega (arith, leb-true (yards * names + 1) r.marks one.0);
        chained = leb-true (4096 + yards * names) r.chains two.0;
        grouped = leb-true (4096 + yards) r.groups three.0;
        begun = leb-true yards r.begins three.1;
      }

-- ---- of a yard that was offered and drawn
module _ (held : Held) (lats lons : List ℤ) (pieces sizes values : List ℕ) (rooms : Rooms) (bytes : List ℕ) (out : ℕ) (bytes_are : rooms.bytes ≡ length bytes) (stood : standing held rooms ≡ true)
    (after : List ℕ) (r : Reply ℕ) (offers : Offers held (offered_as lats lons pieces sizes values) bytes out after r) (size : ℕ) (is : r ≡ given size) where
  abbrev o : Offered
  o = offered_as lats lons pieces sizes values

  s : Stood held rooms
  s = stood-is held rooms stood

  good : offer_good held.yards held.names o ≡ given tt
  unfolding Offers
  good = (subst (Offers held o bytes out after) is offers).0

  drawn : data_with held o bytes out ≡ given (take held.bytes bytes ++ take size after)
  unfolding Offers
  drawn = (subst (Offers held o bytes out after) is offers).1.0

  pub size_in : size ≤ length after
  unfolding Offers
  size_in = (subst (Offers held o bytes out after) is offers).1.1

  f : Fine held.yards held.names o
  f = fine held.yards held.names o good

  pub sum_in : sum_of sizes ≤ length values
  unfolding are_texts
  sum_in = leb-true (sum_of sizes) (length values) (both (leb (sum_of sizes) (length values)) (every is_text (cut_by sizes values)) f.texts).0

  sum_most : sum_of sizes ≤ 255 * length sizes
  unfolding are_texts
  sum_most = texts_few sizes values sum_in (both (leb (sum_of sizes) (length values)) (every is_text (cut_by sizes values)) f.texts).1

  pub sum_few : sum_of sizes ≤ 2 ^ 16
  sum_few = omega (arith, sum_most, f.valued, s.few_names)

  pub sum_small : sum_of sizes < 2 ^ 60
  sum_small = omega (arith, sum_few)

  pub few_here : Few held rooms.texts
  few_here = record { names = s.few_names; yards = f.few; order = s.front_first; inside = s.own.texts_room }

  data_fits : held.bytes + size ≤ up_to (min held.room (min (length bytes) out))
  data_fits =
      let fits : length (take held.bytes bytes ++ take size after) ≤ up_to (min held.room (min (length bytes) out)) =
      appended_fits (up_to (min held.room (min (length bytes) out))) (take held.bytes bytes) false (length (pieces_of pieces))
      (border_of held.version lats lons (pieces_of pieces) (take held.bytes bytes)) (take held.bytes bytes ++ take size after) drawn in
      omega (arith, fits, length-append (take held.bytes bytes) (take size after), length-take-le held.bytes bytes (omega (arith, s.bytes_room, bytes_are)), length-take-le size after size_in)

  module _ (lent : NoteRooms) (sum : ℕ) (sum_told : sum ≡ sum_of sizes) (t : Bool)
      (e : t ≡ (long_enough rooms held.names (held.yards + 1) held.front (held.strings + sum) && notes_enough lent held.names (held.yards + 1))) (n : t ≡ true) where
    all_long : (long_enough rooms held.names (held.yards + 1) held.front (held.strings + sum) ≡ true) × (notes_enough lent held.names (held.yards + 1) ≡ true)
    all_long = both (long_enough rooms held.names (held.yards + 1) held.front (held.strings + sum)) _ (sym e ∙ n)

    parts : (own_enough rooms held.names (held.yards + 1) (held.strings + sum) ≡ true)
        × (enough (work_in rooms) (held.yards + 1) (held.names * (held.yards + 1)) (held.strings + sum - held.front) ≡ true)
    unfolding long_enough
    parts = both (own_enough rooms held.names (held.yards + 1) (held.strings + sum)) _ all_long.0

    lists : Own rooms held.names (held.yards + 1) (held.strings + sum)
    lists = own_parts rooms held.names (held.yards + 1) (held.strings + sum) parts.0

    pub strings_in : held.strings + sum ≤ rooms.texts
    strings_in = lists.texts_room

    values_size : length (take sum values) ≡ sum
    values_size = length-take-le sum values (omega (arith, sum_told, sum_in))

    border_size : length (take size after) ≡ size
    border_size = length-take-le size after size_in

    times : held.names * (held.yards + 1) ≡ held.names * held.yards + held.names
    times = ap (λ (k : ℕ). held.names * k) (add-one held.yards) ∙ mul-suc held.names held.yards

    pub placed_here : (before : Lists) → before.bytes ≡ bytes → rooms.boxes ≡ length before.boxes → rooms.borders ≡ length before.borders
        → rooms.lengths ≡ length before.lengths → rooms.texts ≡ length before.texts → Placed held (length sizes) (length (take sum values)) (length (take size after)) before
    placed_here before same boxes borders lengths texts =
        record {
          few_names = s.few_names;
          few_yards = f.few;
          few_sizes = omega (arith, f.valued);
          few_values = omega (arith, values_size, sum_told, sum_few);
          few_bytes = omega (arith, border_size, data_fits);
          boxes_room = omega (arith, boxes, lists.boxes_room);
          borders_room = omega (arith, borders, lists.borders_room);
          lengths_room = omega (arith, lengths, lists.lengths_all, times, f.valued);
          texts_room = omega (arith, texts, lists.texts_room, values_size);
          bytes_room = omega (arith, border_size, data_fits, ap length same);
        }

    pub measuring_here : (strings : ℕ) → strings ≡ held.strings + sum → Measuring held sizes strings (length (take size after)) rooms.borders rooms.lengths
        rooms.texts (work_in rooms)
        lent.marks lent.chains lent.groups lent.begins
    measuring_here strings end =
        record {
          few_names = s.few_names;
          few_yards = f.few;
          few_bytes = omega (arith, border_size, data_fits);
          order = s.front_first;
          longer = omega (arith, end);
          valued = sym f.valued;
          few_values = sum_few;
          boxes_room = lists.boxes_room;
          borders_room = lists.borders_room;
          lengths_room = lists.lengths_all;
          texts_room = omega (arith, end, lists.texts_room);
          work_room = ap (λ (k : ℕ). enough (work_in rooms) (held.yards + 1)
              (held.names * (held.yards + 1)) (k - held.front)) end ∙ parts.1;
          noted = notes_parts lent held.names (held.yards + 1) all_long.1;
        }

    pub strings_are : (strings : ℕ) → strings ≡ held.strings + sum → strings ≡ held.strings + length (take sum values)
    strings_are strings end = end ∙ ap (λ (k : ℕ). held.strings + k) (sym values_size)

-- ---- the output
pub lent_in : (points wide lent : ℕ) → LentFor points wide lent → lent ≤ wide
lent_in points wide lent l = omega (arith, l.is)

pub lent_as : (points lent : ℕ) (out : List ℕ) → LentFor points (length out) lent → LentFor points (length out) (length (take lent out))
lent_as points lent out l = subst (LentFor points (length out)) (sym (length-take-le lent out (lent_in points (length out) lent l))) l

module _ (points lent : ℕ) (out part : List ℕ) (l : LentFor (min points 65536) (length out) lent) (same : length part ≡ length (take lent out)) where
  part_size : length part ≡ lent
  part_size = same ∙ length-take-le lent out (lent_in (min points 65536) (length out) lent l)

  pub front_in : lent ≤ length (part ++ drop lent out)
  front_in = omega (arith, part_size, length-append part (drop lent out))

  pub used : (after : List ℕ) → after ≡ zeros lent ++ drop lent (part ++ drop lent out) → after ≡ used_out points out
  used after e = e ∙ (ap (λ (l : List ℕ). zeros lent ++ l) (drop_at part (drop lent out) lent part_size) ∙ ap (λ (n : ℕ). zeros n ++ drop n out) l.is)
