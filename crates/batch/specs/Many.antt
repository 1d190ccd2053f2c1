-- Many fixes, as document 02 has them (request Q-8): all are answered as one by one, each in the room that the earlier ones left, and the first refusal stops the call.
use Rattle.std.specs.Prelude.{◌-◌, ◌*◌, ◌&&◌, ◌∷◌, ◌++◌, Result, Ok, Err}
use Rattle.numbers.specs.{Lists.{zeros, padded}, Prelude.{ℕ, eqb, leb, Float, length, Bool, List, []}, Reply.{Reply, plain, demand}, declared.refusal.Refusal.{Refusal}}
use Rattle.header.specs.Header.{head_of}
use Rattle.table.specs.{Hits.{words}, declared.{hits.Hit.{Hit}, location.Location.{Location}}}
use Rattle.atlas.specs.Beside.{zones_beside}
use Rattle.zones.specs.{Lent.{Outcome}, declared.lookup.Zones.{Zones}}
use Rattle.batch.specs.declared.many.{Stop.{Stop}, Totals.{Totals}}
use Rattle.numbers.specs.Reply as R

-- ---- a call that answers, or is refused at the fix with an index
pub data Batch (A : Type 0) : Type 0 where
  given : A → Batch A
  refused : ℕ → Refusal → Batch A

-- go on with what was given; a refusal stays
infixl 20 ◌>>=◌
abbrev pub ◌>>=◌ : {A B : Type 0} → Batch A → (A → Batch B) → Batch B
◌>>=◌ (given a) next = next a
◌>>=◌ (refused index why) next = refused index why

infixl 20 ◌>>◌
abbrev pub ◌>>◌ : {A B : Type 0} → Batch A → Batch B → Batch B
◌>>◌ (given a) next = next
◌>>◌ (refused index why) next = refused index why

-- a reply that the fix with an index meets
abbrev pub met_at : {A : Type 0} → ℕ → Reply A → Batch A
met_at index (R.given a) = given a
met_at index (R.refused why) = refused index why

-- ---- what is asked
-- the lists go together: as many latitudes as longitudes, at most 4,096, and three words for each in the third list
abbrev pub is_taken : ℕ → ℕ → ℕ → Bool
is_taken lats lons third = eqb lats lons && (leb lats 4096 && leb (3 * lats) third)

-- a latitude and the longitude beside it
unfoldable pub fixes_of : List Float → List Float → List Location
fixes_of [] lons = []
fixes_of (lat ∷ lats) [] = []
fixes_of (lat ∷ lats) (lon ∷ lons) = record { lat = lat; lon = lon } ∷ fixes_of lats lons

-- ---- fix by fix
-- what the fixes so far came to: the answer of each, all their matches, all their text
pub record Stamped : Type 0 where
  pub answers : List Zones
  pub matches : List Hit
  pub text : List ℕ

abbrev pub nothing : Stamped
nothing = record { answers = []; matches = []; text = [] }

-- one more
abbrev pub with_one : Stamped → Outcome Zones → Stamped
with_one so o = record { answers = so.answers ++ o.answer ∷ []; matches = so.matches ++ o.matches; text = so.text ++ o.text }

-- each fix is looked up with the words and bytes that the earlier ones left; a refusal has its index
module _ (look : Location → ℕ → ℕ → Reply (Outcome Zones)) (n room : ℕ) where
  unfoldable pub each_of : List Location → Stamped → Batch Stamped
  each_of [] so = given so
  each_of (fix ∷ fixes) so = do
    o ← met_at (length so.answers) (look fix (n - length (words so.matches)) (room - length so.text))
    each_of fixes (with_one so o)

-- 33 before everything else; the file is opened once, which has index 0; each fix is looked up beside the words of an atlas, where none is no atlas
unfoldable pub stamped_many : List ℕ → List ℕ → List Float → List Float → Bool → ℕ → ℕ → ℕ → Batch Stamped
stamped_many file words lats lons asked n room third = do
  met_at 0 (demand (is_taken (length lats) (length lons) third) (plain 33))
  head ← met_at 0 (head_of file)
  each_of (λ fix. zones_beside file head words fix asked) n room (fixes_of lats lons) nothing

-- ---- the reply, and the three lent lists
-- match count, mark and safezone bits of each fix
unfoldable pub answer_words : List Zones → List ℕ
answer_words [] = []
answer_words (zones ∷ more) = zones.matches ∷ zones.mark ∷ zones.safezone ∷ answer_words more

pub record Left : Type 0 where
  pub reply : Batch Totals
  pub hits : List ℕ
  pub text : List ℕ
  pub answers : List ℕ

abbrev pub left : Batch Totals → List ℕ → List ℕ → List ℕ → Left
left reply hits text answers = record { reply = reply; hits = hits; text = text; answers = answers }

abbrev pub totals_of : Stamped → Totals
totals_of so = record { fixes = length so.answers; matches = length so.matches; used = length so.text }

-- lists beyond the answer are zero, and all of them where it is refused
unfoldable pub left_of : ℕ → ℕ → ℕ → Batch Stamped → Left
left_of n room third (given so) = left (given (totals_of so)) (padded n (words so.matches)) (padded room so.text) (padded third (answer_words so.answers))
left_of n room third (refused index why) = left (refused index why) (zeros n) (zeros room) (zeros third)

unfoldable pub many_beside : List ℕ → List ℕ → List Float → List Float → Bool → ℕ → ℕ → ℕ → Left
many_beside file words lats lons asked n room third = left_of n room third (stamped_many file words lats lons asked n room third)

-- without an atlas
unfoldable pub looked_up_many : List ℕ → List Float → List Float → Bool → ℕ → ℕ → ℕ → Left
looked_up_many file lats lons asked n room third = many_beside file [] lats lons asked n room third

-- ---- the code's answer
abbrev pub told_many : Result Totals Stop → Batch Totals
told_many (Ok totals) = given totals
told_many (Err stop) = refused stop.index stop.why
