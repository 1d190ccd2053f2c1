-- A builder that is begun, and a drop from it that is refused: calls of which the theorems in Made speak. Assumes nothing.
use Rattle.numbers.{proofs.Prelude.{◌-◌, le-ltb, length, take, true, [], ◌∷◌, ◌≡◌, refl, arith}, specs.{Lists.{padded}, Reply.{Reply, given, refused, plain}, Spoken.{said_of}}}
use Rattle.edit.specs.Changing.{Begun.{Begins}, Dropped.{left_space}}
use Rattle.add.specs.Growing.Notes.{Notes}
use Rattle.draft.{proofs.held.{Standing.{held_yards}, WorkedBuilder.{begins}}, specs.Held.{Builder.{Builder, drop_last, summed}, Space.{Space}, State.{Answers, Holds, held_as}}}
use Rattle.draft.specs.{Held.Totals.{totals_for, totals_of}, declared.held.room.Rooms.{Rooms}}
use Rattle.office.proofs.WorkedDraft.{begun, begun_back, begun_holds, lists, plan}
use Rattle.office.specs.{Calls.{Called, Made, Shelf, drops}, Draft.{Kept, held_of, totals_values, words_of}}
use Rattle.office.specs.Calls as K

-- what is kept of it
abbrev shelf : Notes → Shelf
shelf notes = record { state = words_of (held_as begun) 0; lists = lists; notes = notes }

pub begun_made : (notes : Notes) → Made plan 64 [] (shelf notes)
unfolding Begins Kept said_of
begun_made notes =
    K.begun (record { bytes = 64; lists = true }) lists (padded 5 (totals_values (held_as begun))) (shelf notes)
    (record {
      changed = given (held_as begun);
      promised = (begun, (begins, (begun_holds, record { boxes = refl; borders = refl; lengths = refl; texts = refl; bytes = refl })));
      spoke = record { said = refl; kept = (refl, begun_back) };
    })

no_yards : (held_of (words_of (held_as begun) 0)).yards ≡ 0
unfolding held_of words_of summed totals_of totals_for
no_yards = refl

none_left : (b : Builder) (space : Space) → Holds b (held_of (words_of (held_as begun) 0)) lists → drop_last b space ≡ refused (plain 29)
unfolding drop_last
none_left b space holds = rw (le-ltb 0 (length b.plan.yards) (omega (arith, no_yards, held_yards b (held_of (words_of (held_as begun) 0)) lists holds))) refl

pub none_dropped : (rooms : Rooms) (notes : Notes) → Called (shelf notes) (shelf notes) 29 (λ yards. take (length yards - 1) yards)
unfolding Answers Kept said_of
none_dropped rooms notes =
    drops rooms (padded 5 (0 ∷ 0 ∷ []))
    (record {
      changed = refused (plain 29);
      promised = record { answers = λ b holds. (none_left b (left_space (held_of (words_of (held_as begun) 0)) rooms lists.lengths) holds, refl); broken = λ low. (refl, refl) };
      spoke = record { said = refl; kept = refl };
    })
    refl
