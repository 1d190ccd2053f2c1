-- A builder's lists, cut: of each so much is kept, and behind it is zero.
use Rattle.std.specs.Prelude.{◌-◌, ◌≤◌, ◌++◌}
use Rattle.numbers.specs.Prelude.{ℕ, pos, length, take, replicate, List}
use Rattle.draft.specs.Held.State.{Lists, lists_as}
use Rattle.edit.specs.declared.changing.cut.Ends.{Ends}

unfoldable pub cut_at : {A : Type 0} → A → ℕ → List A → List A
cut_at none n xs = take n xs ++ replicate (length xs - n) none

unfoldable pub cut_to : Ends → Lists → Lists
cut_to ends l =
    lists_as (cut_at (pos 0) ends.boxes l.boxes) (cut_at 0 ends.borders l.borders) (cut_at 0 ends.lengths l.lengths) (cut_at 0 ends.texts l.texts) (cut_at 0 ends.bytes l.bytes)

-- so much is there
pub record Inside (ends : Ends) (l : Lists) : Type 0 where
  pub boxes_in : ends.boxes ≤ length l.boxes
  pub borders_in : ends.borders ≤ length l.borders
  pub lengths_in : ends.lengths ≤ length l.lengths
  pub texts_in : ends.texts ≤ length l.texts
  pub bytes_in : ends.bytes ≤ length l.bytes
