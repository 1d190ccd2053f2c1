-- The same fixes looked up one by one with plain `lookup`, which opens the file each time, by someone who lends each call what the earlier ones left of the lists.
use Rattle.std.specs.Prelude.{◌+◌, ◌-◌, ◌*◌, ◌∷◌, ◌++◌}
use Rattle.numbers.specs.{Lists.{zeros, over}, Prelude.{ℕ, take, drop, Bool, List, []}, Reply.{Reply}}
use Rattle.table.specs.{Hits.{width}, declared.location.Location.{Location}}
use Rattle.zones.specs.{Lookup.{looked_up}, declared.lookup.Zones.{Zones}}
use Rattle.batch.specs.Many.{given, refused, answer_words, Left, left}
use Rattle.numbers.specs.Reply as R

-- what stands from a place of a list on is now this
abbrev pub from_on : ℕ → List ℕ → List ℕ → List ℕ
from_on place list back = take place list ++ back

-- go on where a lookup was answered; a refusal has the index of its fix, and leaves zeros
abbrev pub unless_refused : ℕ → ℕ → ℕ → ℕ → Reply Zones → (Zones → Left) → Left
unless_refused n room third index (R.given zones) next = next zones
unless_refused n room third index (R.refused why) next = left (refused index why) (zeros n) (zeros room) (zeros third)

module _ (file : List ℕ) (asked : Bool) (n room third : ℕ) where
  -- the fixes from an index on, where earlier ones have so many matches and so many bytes of text, over the lists as they are
  unfoldable pub one_by_one : List Location → ℕ → ℕ → ℕ → List ℕ → List ℕ → List ℕ → Left
  one_by_one [] index matches used hits text answers = left (given (record { fixes = index; matches = matches; used = used })) hits text answers
  one_by_one (fix ∷ fixes) index matches used hits text answers =
      let one = looked_up file fix asked (n - width * matches) (room - used) in
      unless_refused n room third index one.reply
      (λ zones. one_by_one fixes (index + 1) (matches + zones.matches) (used + zones.used)
      (from_on (width * matches) hits one.hits)
      (from_on used text one.text)
      (from_on (3 * index) answers (over (answer_words (zones ∷ [])) (drop (3 * index) answers))))
