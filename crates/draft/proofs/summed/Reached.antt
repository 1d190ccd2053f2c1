-- What is laid out and summed up lies inside the lists that are lent. Assumes nothing.
use Rattle.numbers.proofs.Prelude.{true, ℕ, ◌*◌, ◌≤◌, eqb-true, eqb, ℤ, length, take, length-map, length-take, take_at, Bool, List, ◌++◌, map, ◌≡◌, sym, ap, subst, ◌∙◌, mul_comm}
use Rattle.numbers.proofs.Prelude.{arith}
use Rattle.builder.{proofs.{Counting.{lengths_room}, grouping.Listed.{numbers_many}}, specs.{Entries.{word_of_yard}, Grouping.Keys.{numbers_from}, Yards.{sum_of}, inner.Drawing.Section.{spread}}}
use Rattle.build.{proofs.Filing.{Reach, reaches}, specs.{declared.room.Work.{Work}, inner.Recording.Recorded.{Laying, Recorded}}}
use Rattle.layout.{proofs.Orders.{sorted_size}, specs.Order.{key_of, sorted_by}}
use Rattle.draft.specs.inner.Summed.Sums.{Arranged, Arranging, Summing}

pub reached : (names count lengths borders texts : ℕ) (work : Work) → Summing names count lengths borders texts work → Reach work count (names * count) texts
reached names count lengths borders texts work s = reaches work count (names * count) texts s.room

module _ (names count : ℕ) (lengths texts : List ℕ) (borders : ℕ) (work : Work) (a : Arranging names count lengths texts borders work) where
  abbrev reach : Reach work count (names * count) (length texts)
  reach = reached names count (length lengths) borders (length texts) work a.summing

  pub arranging_laying : (places : ℕ) → places ≡ work.places → Laying names count lengths texts work.starts work.keys work.spare work.kept work.held work.words places
  arranging_laying places same = let all : length lengths ≡ names * count = a.summing.all in record {
    all = all ∙ mul_comm names count;
    whole = a.whole;
    few = a.summing.few;
    bound = omega (arith, a.whole, a.small, all, lengths_room names count a.summing.named a.summing.few);
    starts_room = omega (arith, all, reach.starts);
    keys_count = reach.keys_count;
    keys_room = omega (arith, all, reach.keys);
    spare_count = reach.spare_count;
    spare_room = omega (arith, all, reach.spare);
    kept_room = omega (arith, all, reach.kept);
    held_room = omega (arith, a.whole, reach.held);
    words_room = omega (arith, all, reach.words);
    places_room = omega (arith, same, reach.places);
  }

-- so many of a list that has them
pub front_room : (n : ℕ) (list : List ℕ) (room : ℕ) → 2 * n ≤ room → 2 * length (take n list) ≤ room
front_room n list room h = omega (arith, h, length-take n list)

pub order_room : (n count boxes spare other : ℕ) → n ≡ count → count ≤ 4096 → 4 * count ≤ boxes → count ≤ spare → other ≡ spare → (n ≤ 4096) × (4 * n ≤ boxes) × (n ≤ other)
order_room n count boxes spare other e few room long same = (omega (arith, e, few), omega (arith, e, room), omega (arith, e, long, same))

-- the sorted words stand at the front of the keys
pub arranged : (names count : ℕ) (boxes : List ℤ) (borders lengths texts before middle sorted rest kept held words places : List ℕ) (records remote sizes bytes k : ℕ)
    → k ≡ count → middle ≡ spread 1 (take count borders) before → Recorded names count lengths texts middle kept held words places records remote sizes bytes
    → sorted ≡ sorted_by key_of (map (word_of_yard boxes) (numbers_from 0 k))
    → Arranged names count boxes borders lengths texts before (sorted ++ rest) kept held words places records remote sizes bytes
arranged names count boxes borders lengths texts before middle sorted rest kept held words places records remote sizes bytes k front em r es =
    let size : length sorted ≡ k = ap length es ∙ (sorted_size key_of (map (word_of_yard boxes) (numbers_from 0 k)) ∙ (length-map (numbers_from 0 k) (word_of_yard boxes)
    ∙ numbers_many 0 k)) in record {
      recorded = subst (λ (l : List ℕ). Recorded names count lengths texts l kept held words places records remote sizes bytes) em r;
      order = take_at sorted rest count (size ∙ front) ∙ (es ∙ ap (λ (n : ℕ). sorted_by key_of (map (word_of_yard boxes) (numbers_from 0 n))) front);
    }

-- ---- the tests of `sum_up`
pub arranging : (names count : ℕ) (lengths texts : List ℕ) (borders : ℕ) (work : Work) → Summing names count (length lengths) borders (length texts) work
    → length texts ≤ 536870912 → (b : Bool) → b ≡ eqb (sum_of lengths) (length texts) → b ≡ true → Arranging names count lengths texts borders work
arranging names count lengths texts borders work s small b e n =
    record { summing = s; whole = sym (eqb-true (sum_of lengths) (length texts) (sym e ∙ n)); small = omega (arith, small) }

pub front_most : (n most : ℕ) (list : List ℕ) → n ≤ most → length (take n list) ≤ most
front_most n most list h = omega (arith, h, length-take n list)
