-- What `build` replies, and what it leaves in all that was lent.
use Rattle.std.specs.Prelude.{◌≡◌}
use Rattle.numbers.specs.{Lists.{zeros}, Prelude.{ℕ, ℤ, pos, length, replicate, List}, Reply.{Reply}}
use Rattle.builder.specs.{File.{Room, built_of, fitted}, Yards.{Lent, plan_of}}
use Rattle.build.specs.declared.room.Work.{Work}

-- the reply and the output
unfoldable pub Builds : Lent → Room → List ℕ → Reply ℕ → Type 0
Builds lent room out r = record { reply = r; out = out } ≡ fitted room.file (built_of (plan_of lent) room)

-- the working lists, all zero
pub record Cleared (work : Work) (room : ℕ) (starts keys spare kept held words places : List ℕ) (boxes : List ℤ) (bytes : List ℕ) : Type 0 where
  pub starts_zero : starts ≡ zeros work.starts
  pub keys_zero : keys ≡ zeros work.keys
  pub spare_zero : spare ≡ zeros work.spare
  pub kept_zero : kept ≡ zeros work.kept
  pub held_zero : held ≡ zeros work.held
  pub words_zero : words ≡ zeros work.words
  pub places_zero : places ≡ zeros work.places
  pub boxes_zero : boxes ≡ replicate work.boxes (pos 0)
  pub bytes_zero : bytes ≡ zeros room
