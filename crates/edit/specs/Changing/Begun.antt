-- What beginning a builder gives: document 02, Q-5.
use Rattle.std.specs.Prelude.{◌+◌, ◌≤◌, ◌&&◌, ◌≡◌}
use Rattle.numbers.specs.{Lists.{zeros}, Prelude.{ℕ, leb, pos, length, take, replicate, List, []}, Reply.{Reply, given, refused}}
use Rattle.build.specs.Checked.{lent_as}
use Rattle.builder.specs.Yards.{Plan, plan_of, sum_of}
use Rattle.draft.specs.{Held.{Builder.{Builder, begin, holding, summed}, Sound.{Sound}, Space.{Space}, State.{Holds, Lists, SameRooms, held_as, lists_as}}}
use Rattle.draft.specs.declared.held.state.Held.{Held}

-- the lists have room for the lengths and bytes of the names and the notice, and for the zero byte
unfoldable pub front_space : ℕ → List ℕ → ℕ → ℕ → ℕ → Space
front_space names sizes lengths texts bytes =
    record { bytes = bytes; lists = leb (names + 1) lengths && (leb (sum_of (take (names + 1) sizes)) texts && leb 1 bytes) }

-- lists of the same lengths, all zero
unfoldable pub blank : Lists → Lists
blank l = lists_as (replicate (length l.boxes) (pos 0)) (zeros (length l.borders)) (zeros (length l.lengths)) (zeros (length l.texts)) (zeros (length l.bytes))

-- the lists hold the builder that the definition gives; or it is refused as that is, and they are zero
unfoldable pub Begins : Plan → ℕ → Space → Lists → Lists → Reply Held → Type 0
Begins plan room space before after (given held) = (b : Builder) × ((begin plan room space ≡ given b) × (Holds b held after × SameRooms before after))
Begins plan room space before after (refused why) = (begin plan room space ≡ refused why) × (after ≡ blank before)

-- ---- what the inner functions say of each other
-- names and notice as they are lent
abbrev pub first_plan : ℕ → ℕ → ℕ → ℕ → List ℕ → List ℕ → Plan
first_plan kind version precision names sizes strings = plan_of (lent_as kind version precision names [] [] [] [] sizes strings)

-- nothing is refused, and these are the numbers
pub record Checked (kind version precision names room : ℕ) (sizes strings : List ℕ) (lengths texts bytes : ℕ) (held : Held) : Type 0 where
  pub gives : begin (first_plan kind version precision names sizes strings) room (front_space names sizes lengths texts bytes)
      ≡ given (summed (holding (first_plan kind version precision names sizes strings) []) room)
  pub is : held ≡ held_as (summed (holding (first_plan kind version precision names sizes strings) []) room)
  pub sound : Sound (holding (first_plan kind version precision names sizes strings) []) room
  pub few : names ≤ 255
  pub many : names + 1 ≤ length sizes
  pub whole : sum_of (take (names + 1) sizes) ≤ length strings
  pub small : sum_of (take (names + 1) sizes) ≤ 65280
  pub front_is : held.front ≡ sum_of (take (names + 1) sizes)
  pub lengths_room : names + 1 ≤ lengths
  pub texts_room : sum_of (take (names + 1) sizes) ≤ texts
  pub bytes_room : 1 ≤ bytes

unfoldable pub Checks : ℕ → ℕ → ℕ → ℕ → ℕ → List ℕ → List ℕ → ℕ → ℕ → ℕ → Reply Held → Type 0
Checks kind version precision names room sizes strings lengths texts bytes (given held) = Checked kind version precision names room sizes strings lengths texts bytes held
Checks kind version precision names room sizes strings lengths texts bytes (refused why) =
    begin (first_plan kind version precision names sizes strings) room (front_space names sizes lengths texts bytes) ≡ refused why
