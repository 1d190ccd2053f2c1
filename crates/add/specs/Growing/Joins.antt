-- A builder with a yard more.
use Rattle.std.specs.Prelude.{◌≡◌}
use Rattle.numbers.specs.{Prelude.{ℕ, List}, Reply.{Reply, given, refused}}
use Rattle.builder.specs.Yards.{Yard}
use Rattle.draft.specs.declared.held.state.Held.{Held}
use Rattle.add.specs.Growing.Notes.{Notes, Noted}

-- what a call that was answered leaves noted; after a refusal all is as it was
unfoldable pub Renoted : ℕ → List Yard → ℕ → Notes → ℕ → Notes → Reply Held → Type 0
Renoted names yards noted before noted' after (given held) = Noted names yards noted' after
Renoted names yards noted before noted' after (refused why) = (noted' ≡ noted) × (after ≡ before)
