-- What the functions that build a file say of each other.
use Rattle.std.specs.Prelude.{◌+◌, ◌*◌, ◌/◌, ◌&&◌, ◌≡◌}
use Rattle.numbers.specs.{Lists.{zeros}, Prelude.{ℕ, min, leb, ℤ, length, take, Bool, true, List}, Reply.{Reply, given, refused, plain, demand, ◌>>◌}}
use Rattle.builder.specs.{Borders.{drawn_of}, File.{are_texts, built_of, file_of, fitted, up_to}, Yards.{Lent, plan_of, counts_good}, inner.Drawing.Section.{spread}}
use Rattle.build.specs.{Checked.{checked, lent_as}, Room.{need_of, enough_for}, declared.{asked.Asked.{Asked}, room.{Need.{Need}, Work.{Work}}}}
use Rattle.builder.specs.inner.Drawing.Section
use Rattle.build.specs.declared.lent.Lent.{Lent as Given}

-- what was lent, with what is asked for
abbrev pub lent_for : Asked → List ℕ → List ℤ → List ℤ → List ℕ → List ℕ → List ℕ → Lent
lent_for asked = lent_as asked.kind asked.version asked.precision asked.names

-- the same, lent together
abbrev pub lent_in : Given → Lent
lent_in plan = lent_for plan.asked plan.yards.now plan.lats.now plan.lons.now plan.pieces.now plan.lengths.now plan.texts.now

-- the counts and texts are good
pub record Good (names : ℕ) (yards lengths texts : List ℕ) : Type 0 where
  pub counts : counts_good names yards (length lengths) ≡ true
  pub fine : are_texts (take (names + 1 + names * (length yards / 4)) lengths) texts ≡ true

-- and the lists are long enough
pub record Filling (names : ℕ) (yards lengths texts : List ℕ) (need : Need) (work : Work) : Type 0 where
  pub good : Good names yards lengths texts
  pub is : need ≡ need_of names (length yards) lengths
  pub room : enough_for work need ≡ true

-- the file, for borders that begin at these places
abbrev pub file_for : Lent → List ℕ → List ℕ → List ℕ
file_for lent places bytes = file_of (plan_of lent) (record { bytes = bytes; places = places })

-- each border's place stands at every second word
pub record Drew (yards drawn places : List ℕ) : Type 0 where
  pub before : List ℕ
  pub many : length drawn ≡ length yards / 4
  pub stored : places ≡ spread 1 drawn before

-- the last lines of `built_of`
unfoldable pub ends_as : Bool → ℕ → List ℕ → Reply (List ℕ)
ends_as work room file = demand (work && leb (length file) (up_to room)) (plain 28) >> given file

-- the file at the front of the output, and zeros; or it is refused
unfoldable pub Fills : Reply (List ℕ) → ℕ → List ℕ → Reply ℕ → Type 0
Fills reply room out (given length) = record { reply = given length; out = out } ≡ fitted room reply
Fills reply room out (refused why) = reply ≡ refused why

-- the plan was checked and its borders drawn, with so much room in the output and in the list for them; or the build is refused
unfoldable pub Starts : Lent → ℕ → ℕ → List ℕ → List ℕ → List ℕ → Reply ℕ → Type 0
Starts lent file room before places bytes (given size) =
    (checked (plan_of lent) ≡ given tt) × Section.Whole (drawn_of lent.version (up_to (min file room)) (plan_of lent).yards) before places bytes size
Starts lent file room before places bytes (refused why) = (work : Bool) → built_of (plan_of lent) (record { file = file; bytes = room; work = work }) ≡ refused why

-- on a refusal the output is zero
unfoldable pub Settles : Reply ℕ → List ℕ → List ℕ → Reply ℕ → Type 0
Settles (given length) before after r = (r ≡ given length) × (after ≡ before)
Settles (refused why) before after r = (r ≡ refused why) × (after ≡ zeros (length before))
