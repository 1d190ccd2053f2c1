-- A builder as it is begun, in lists and in words: a state that what is said of one that holds a builder speaks of. Assumes nothing.
use Rattle.numbers.proofs.Prelude.{pos, true, [], ◌∷◌, flat_map, inl, ◌≡◌, refl, sym, subst, w32, SFits, arith}
use Rattle.builder.specs.Yards.{Plan}
use Rattle.edit.proofs.changing.Nothing.{none_lies, none_totals}
use Rattle.add.specs.Growing.Notes.{Notes}
use Rattle.draft.{proofs.held.{Fronts.{front_made}, Keeps.{begun_sound}, WorkedBuilder.{begins}}, specs.Held.{Builder.{Builder, summed}, State.{Holds, Lists, held_as, lists_as}, Totals.{Totals}}}
use Rattle.draft.specs.declared.held.{room.Rooms.{Rooms}, state.Held.{Held}}
use Rattle.office.proofs.{Drafts.{words_back}, NotedDrafts.{Lasts, kept_lasts}, SameCalls.{Told, ToldNoted}}
use Rattle.office.specs.Draft.{Kept, held_of, noted_in, words_of}

abbrev pub plan : Plan
plan = record { kind = 0x43; version = 0; precision = 16; names = []; notice = []; yards = []; numbered = true; whole = true }

-- in a room of 64 bytes; no name, and a notice without a byte
abbrev pub begun : Builder
begun = summed plan 64

-- the length of the notice, and the data's zero byte
abbrev pub lists : Lists
lists = lists_as [] [] (0 ∷ []) [] (0 ∷ [])

pub begun_holds : Holds begun (held_as begun) lists
unfolding summed flat_map
begun_holds =
    record {
      is = refl;
      sound = begun_sound plan 64 (record { bytes = 64; lists = true }) begun begins;
      fresh = refl;
      lies = none_lies plan lists (front_made (pos 0) [] [] 0 refl) (front_made 0 [] [] 0 refl) (front_made 0 (0 ∷ []) (0 ∷ []) 0 refl) (front_made 0 [] [] 0 refl)
          (front_made 0 (0 ∷ []) (0 ∷ []) 0 refl);
    }

-- and its words are read back
pub begun_back : held_of (words_of (held_as begun) 0) ≡ held_as begun
unfolding summed
begun_back =
    words_back (held_as begun) 0 (omega arith) (omega arith) (omega arith) (omega arith) (subst (λ (t : Totals). SFits w32 t.greatest) (sym (none_totals plan)) (record { sfits = omega arith }))

pub begun_told : (rooms : Rooms) → Told (held_of (words_of (held_as begun) 0)) rooms lists
begun_told rooms = inl (begun, subst (λ (held : Held). Holds begun held lists) (sym begun_back) begun_holds)

-- with any notes, as an add is told of it
pub begun_lasts : (notes : Notes) → Lasts begun (words_of (held_as begun) 0) lists notes
unfolding Kept
begun_lasts notes = kept_lasts begun [] (words_of (held_as begun) 0) lists notes (held_as begun) (refl, begun_back) begun_holds

pub begun_told_noted : (rooms : Rooms) (notes : Notes) → ToldNoted (held_of (words_of (held_as begun) 0)) (noted_in (words_of (held_as begun) 0)) rooms lists notes
begun_told_noted rooms notes = let lasts = begun_lasts notes in inl (begun, (lasts.holds, lasts.noted))
