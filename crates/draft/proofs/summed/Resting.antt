-- The lists that a call was lent to work in. Assumes nothing.
use Rattle.numbers.{proofs.Prelude.{length, ◌≡◌, ap, ◌∙◌}, specs.Lists.{zeros}}
use Rattle.draft.specs.Held.State.{Idle, Works}

-- they are zero then, whatever stood in them before
pub idle_as : (lent used left : Works) → length used.starts ≡ length lent.starts → length used.keys ≡ length lent.keys → length used.spare ≡ length lent.spare
    → length used.kept ≡ length lent.kept → length used.held ≡ length lent.held → length used.words ≡ length lent.words → length used.places ≡ length lent.places
    → Idle used left → Idle lent left
idle_as lent used left starts keys spare kept held words places i =
    record {
      starts_zero = i.starts_zero ∙ ap zeros starts;
      keys_zero = i.keys_zero ∙ ap zeros keys;
      spare_zero = i.spare_zero ∙ ap zeros spare;
      kept_zero = i.kept_zero ∙ ap zeros kept;
      held_zero = i.held_zero ∙ ap zeros held;
      words_zero = i.words_zero ∙ ap zeros words;
      places_zero = i.places_zero ∙ ap zeros places;
    }
