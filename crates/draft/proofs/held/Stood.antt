-- What it says that a builder's numbers fit its lists. Assumes nothing.
use Rattle.numbers.proofs.{Prelude.{ℕ, ◌+◌, ◌-◌, ◌*◌, ◌^◌, ◌≤◌, leb-true, leb, Bool, true, ◌&&◌, ◌≡◌}, Tests.{both}}
use Rattle.build.specs.Room.{enough}
use Rattle.draft.specs.{Held.Space.{long_enough, own_enough, standing, work_in}, declared.held.{room.Rooms.{Rooms}, state.Held.{Held}}}

pub record Own (r : Rooms) (names yards strings : ℕ) : Type 0 where
  pub borders_room : yards ≤ r.borders
  pub lengths_all : names + 1 + names * yards ≤ r.lengths
  pub texts_room : strings ≤ r.texts
  pub boxes_room : 4 * yards ≤ r.boxes

pub own_parts : (r : Rooms) (names yards strings : ℕ) → own_enough r names yards strings ≡ true → Own r names yards strings
unfolding own_enough
own_parts r names yards strings e =
    let a = both (leb yards r.borders) (leb (names + 1 + names * yards) r.lengths && (leb strings r.texts && leb (4 * yards) r.boxes)) e in
    let b = both (leb (names + 1 + names * yards) r.lengths) (leb strings r.texts && leb (4 * yards) r.boxes) a.1 in
    let c = both (leb strings r.texts) (leb (4 * yards) r.boxes) b.1 in record {
      borders_room = leb-true yards r.borders a.0;
      lengths_all = leb-true (names + 1 + names * yards) r.lengths b.0;
      texts_room = leb-true strings r.texts c.0;
      boxes_room = leb-true (4 * yards) r.boxes c.1;
    }

pub record Stood (held : Held) (r : Rooms) : Type 0 where
  pub few_names : held.names ≤ 255
  pub few_yards : held.yards ≤ 4096
  pub front_first : held.front ≤ held.strings
  pub some_bytes : 1 ≤ held.bytes
  pub few_bytes : held.bytes ≤ 2 ^ 30
  pub bytes_room : held.bytes ≤ r.bytes
  pub own : Own r held.names held.yards held.strings

pub stood : (held : Held) (r : Rooms) → standing held r ≡ true → Stood held r
unfolding standing
stood held r e = let own : Bool = own_enough r held.names held.yards held.strings in
    let from_bytes : Bool = leb held.bytes (2 ^ 30) && (leb held.bytes r.bytes && own) in
    let a = both (leb held.names 255) (leb held.yards 4096 && (leb held.front held.strings && (leb 1 held.bytes && from_bytes))) e in
    let b = both (leb held.yards 4096) (leb held.front held.strings && (leb 1 held.bytes && from_bytes)) a.1 in
    let c = both (leb held.front held.strings) (leb 1 held.bytes && from_bytes) b.1 in let d = both (leb 1 held.bytes) from_bytes c.1 in
    let f = both (leb held.bytes (2 ^ 30)) (leb held.bytes r.bytes && own) d.1 in let g = both (leb held.bytes r.bytes) own f.1 in record {
      few_names = leb-true held.names 255 a.0;
      few_yards = leb-true held.yards 4096 b.0;
      front_first = leb-true held.front held.strings c.0;
      some_bytes = leb-true 1 held.bytes d.0;
      few_bytes = leb-true held.bytes (2 ^ 30) f.0;
      bytes_room = leb-true held.bytes r.bytes g.0;
      own = own_parts r held.names held.yards held.strings g.1;
    }

-- the lists to work in
pub work_enough : (r : Rooms) (names yards front strings : ℕ) → long_enough r names yards front strings ≡ true
    → enough (work_in r) yards (names * yards) (strings - front) ≡ true
unfolding long_enough
work_enough r names yards front strings e =
    (both (own_enough r names yards strings) (enough (work_in r) yards (names * yards) (strings - front)) e).1
