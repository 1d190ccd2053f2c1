-- How much room a build is lent, and how much a plan needs.
use Rattle.std.specs.Prelude.{◌+◌, ◌-◌, ◌*◌, ◌/◌, ◌&&◌}
use Rattle.numbers.specs.Prelude.{ℕ, ltb, leb, length, take, Bool, List}
use Rattle.builder.specs.{File.{Room}, Yards.{Lent, sum_of}}
use Rattle.build.specs.declared.room.{Need.{Need}, Work.{Work}}

-- for so many yards, fields and bytes of values: a start for each field and one more, two places and four corners a yard
unfoldable pub enough : Work → ℕ → ℕ → ℕ → Bool
enough work count fields bytes =
    ltb fields work.starts
    && (leb fields work.keys
    && (leb count work.keys
    && (leb fields work.spare
    && (leb count work.spare
    && (leb fields work.kept
    && (leb bytes work.held
    && (leb fields work.words
    && (leb (2 * count) work.places
    && leb (4 * count) work.boxes))))))))

-- from how many names, words of yards, and lengths
unfoldable pub need_of : ℕ → ℕ → List ℕ → Need
need_of names words lengths =
    let count = words / 4 in
    record {
      count = count;
      front = names + 1;
      all = names + 1 + names * count;
      behind = sum_of (take (names + 1) lengths);
      sum = sum_of (take (names + 1 + names * count) lengths);
    }

abbrev pub enough_for : Work → Need → Bool
enough_for work need = enough work need.count (need.all - need.front) (need.sum - need.behind)

abbrev pub work_of : ℕ → ℕ → ℕ → ℕ → ℕ → ℕ → ℕ → ℕ → Work
work_of starts keys spare kept held words places boxes =
    record { starts = starts; keys = keys; spare = spare; kept = kept; held = held; words = words; places = places; boxes = boxes }

unfoldable pub room_of : Lent → Work → ℕ → ℕ → Room
room_of lent work file bytes = record { file = file; bytes = bytes; work = enough_for work (need_of lent.names (length lent.yards) lent.lengths) }
