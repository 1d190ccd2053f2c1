-- A builder that is cleared. Assumes nothing.
use Rattle.numbers.proofs.Prelude.{suc, ◌+◌, ◌-◌, pos, length, length-map, Bool, true, false, [], ◌∷◌, map, ◌≡◌, refl, sym, ap, subst, ◌∙◌, arith}
use Rattle.numbers.specs.{Lists.{zeros}, Reply.{Reply, given, refused, plain}}
use mathlib.Core.Bool.{false≢true}
use Rattle.builder.specs.Yards.{Plan}
use Rattle.draft.proofs.held.{Fronts.{front_made, front_zero}, Kept.{cleared_sound}, Standing.{front_many, held_front, held_names, holds_standing, lengths_split, texts_split}, Stood.{stood}}
use Rattle.draft.specs.Held.{Builder.{Builder, clear, holding, summed}, Space.{standing}, State.{Answers, Front, Holds, Lies, Lists, SameRooms, front_of, held_as, texts_of, values_of}}
use Rattle.draft.specs.Held.Totals.{data_of}
use Rattle.draft.specs.declared.held.{room.Rooms.{Rooms}, state.Held.{Held}}
use Rattle.build.specs.Metadata.Kept.{joined}
use Rattle.edit.proofs.changing.{Cuts.{cut_all, cut_front, cut_rooms}, Lasts.{data_some}, Nothing.{none_held, none_lies}}
use Rattle.edit.specs.{Changing.Emptied.{Clears, emptied_of, own_rooms}, declared.changing.cut.Ends.{Ends}, inner.Changing.Cut.{Inside, cut_to}}

-- the names and the notice stay
abbrev pub front_ends : Held → Ends
front_ends builder = record { boxes = 0; borders = 0; lengths = builder.names + 1; texts = builder.front; bytes = 0 }

module _ (b : Builder) (builder : Held) (before : Lists) (h : Holds b builder before) where
  abbrev plan : Plan
  plan = b.plan

  cleared_lies : Lies (holding plan []) (data_of (holding plan [])) (cut_to (front_ends builder) before)
  unfolding cut_to
  cleared_lies =
      let size : length (map length (front_of plan)) ≡ length plan.names + 1 = length-map (front_of plan) length ∙ front_many plan b.room h.sound in
      let some : length before.bytes ≡ suc (length before.bytes - 1) = omega (arith, data_some plan b.room h.sound, h.lies.bytes_are.room) in
      none_lies plan (cut_to (front_ends builder) before) (subst (Front (pos 0) []) (sym (cut_all (pos 0) before.boxes)) (front_zero (pos 0) (length before.boxes)))
      (subst (Front 0 []) (sym (cut_all 0 before.borders)) (front_zero 0 (length before.borders))) (cut_front 0 (map length (front_of plan))
      (map length (values_of plan)) (map length (texts_of plan)) before.lengths (lengths_split plan b.room h.sound) h.lies.lengths_are
      (builder.names + 1) (omega (arith, size, held_names b builder before h))) (cut_front 0 (joined (front_of plan)) (joined (values_of plan))
      (joined (texts_of plan)) before.texts (texts_split plan b.room h.sound) h.lies.texts_are builder.front (held_front b builder before h))
      (front_made 0 (0 ∷ []) _ (length before.bytes - 1) (cut_all 0 before.bytes ∙ ap zeros some))

  cleared_is : emptied_of builder ≡ held_as (clear b)
  unfolding emptied_of clear
  cleared_is = ap emptied_of h.is ∙ none_held plan b.room (length plan.names) _ (length (joined (front_of plan))) refl refl refl

  cleared_holds : Holds (clear b) (emptied_of builder) (cut_to (front_ends builder) before)
  unfolding clear summed
  cleared_holds = record { is = cleared_is; sound = cleared_sound plan b.room h.sound; fresh = refl; lies = cleared_lies }

module _ (builder : Held) (before : Lists) where
  abbrev rooms : Rooms
  rooms = own_rooms before

  module _ (s : Bool) (is : s ≡ standing builder (own_rooms before)) where
    pub clear_refused : s ≡ false → (r : Reply Held) → r ≡ refused (plain 28) → Clears builder rooms before before r
    clear_refused n r e = let fallen : standing builder rooms ≡ false = sym is ∙ n in
        record { answers = λ b h. absurd (false≢true (sym fallen ∙ holds_standing b builder before h rooms refl refl refl refl refl)); broken = λ f. (e, refl) }

    module _ (n : s ≡ true) where
      stands : standing builder rooms ≡ true
      stands = sym is ∙ n

      pub clear_inside : Inside (front_ends builder) before
      clear_inside = let all = stood builder rooms stands in record {
        boxes_in = omega arith;
        borders_in = omega arith;
        lengths_in = omega (arith, all.own.lengths_all);
        texts_in = omega (arith, all.own.texts_room, all.front_first);
        bytes_in = omega arith;
      }

      pub clear_done : (after : Lists) → after ≡ cut_to (front_ends builder) before → (held : Held) → held ≡ emptied_of builder → Clears builder rooms before after (given held)
      unfolding Answers
      clear_done after cut held e =
          record {
            answers = λ b h. (
              clear b,
              (
                refl,
                (
                  subst (λ (x : Held). Holds (clear b) x after) (sym e) (subst (Holds (clear b) (emptied_of builder)) (sym cut) (cleared_holds b builder before h)),
                  subst (SameRooms before) (sym cut) (cut_rooms (front_ends builder) before clear_inside),
                ),
              ),
            );
            broken = λ f. absurd (false≢true (sym f ∙ stands));
          }
