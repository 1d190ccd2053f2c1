-- What replacing a value of a builder gives: document 02, Q-5.
use Rattle.std.specs.Prelude.{◌&&◌, ◌≡◌}
use Rattle.numbers.specs.{Prelude.{ℕ, leb, length, false}, Reply.{Reply, refused, plain}}
use Rattle.builder.specs.Yards.{Text, Plan}
use Rattle.draft.specs.Held.{Builder.{Builder, changed_at, holding, replace, with_value}, Space.{Space, long_enough, standing}, State.{Answers, Holds, Lists, front_of, texts_of}}
use Rattle.draft.specs.declared.held.{room.Rooms.{Rooms}, state.Held.{Held}}
use Rattle.build.specs.Metadata.Kept.{joined}

abbrev pub replaced : Plan → ℕ → ℕ → Text → Plan
replaced plan yard field text = holding plan (changed_at yard (with_value field text) plan.yards)

-- every list is long enough for the texts with the new one, and the output for those behind it, which are put aside there
unfoldable pub space_for : Rooms → ℕ → Plan → ℕ → ℕ → Text → Space
space_for rooms out plan yard field text =
    record {
      bytes = rooms.bytes;
      lists = leb (length (joined (texts_of plan))) out
          && long_enough rooms (length plan.names) (length plan.yards) (length (joined (front_of plan))) (length (joined (texts_of (replaced plan yard field text))));
    }

-- as the definition has it, for a builder that calls have made; 28 if its numbers do not fit its lists
pub record Replaces (held : Held) (rooms : Rooms) (out yard field : ℕ) (text : Text) (before after : Lists) (r : Reply Held) : Type 0 where
  pub answers : (b : Builder) → Holds b held before → Answers (replace b yard field text (space_for rooms out b.plan yard field text)) before after r
  pub fallen : standing held rooms ≡ false → (r ≡ refused (plain 28)) × (after ≡ before)
