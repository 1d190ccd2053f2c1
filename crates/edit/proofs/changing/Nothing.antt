-- A plan without yards: its data, its totals, its numbers and its lists. Assumes nothing.
use Rattle.numbers.proofs.Prelude.{ℕ, leb, pos, length, true, List, [], ◌∷◌, map, flat_map, zip_with, ◌≡◌, refl, sym, ap, subst, ◌∙◌, arith}
use Rattle.builder.specs.{Borders.{drawn_from, drawn_of}, Entries.{farthest_of, table_from, table_of}, File.{borders_good, head_of, known, readable}, Metadata.{fields_of, metadata_of, remotes}}
use Rattle.builder.specs.{Sharing.{firsts_after, good_ones}, Yards.{Plan, Text}}
use Rattle.build.specs.{Entries.Corners.{corners_of}, Metadata.Kept.{joined}}
use Rattle.draft.{proofs.held.Texts.{cleared_texts}, specs.Held.{Builder.{holding, summed}, Sound.{Sound}, State.{Front, Lies, Lists, front_of, held_as}}}
use Rattle.draft.specs.{Held.Totals.{Totals, data_of, drawn_or, totals_for, totals_of}, declared.held.state.Held.{Held}}
use Rattle.layout.specs.Order.{sorted_by}
use Rattle.writer.specs.Writer.{every}

abbrev pub no_totals : Totals
no_totals = record { table = 0; metadata = 0; bytes = 1; yards = 0; greatest = pos 0 }

-- the numbers of a builder that holds no yard
abbrev pub held_none : ℕ → ℕ → ℕ → ℕ → ℕ → ℕ → ℕ → Held
held_none kind version precision names room head front =
    record {
      kind = kind;
      version = version;
      precision = precision;
      names = names;
      room = room;
      head = head;
      front = front;
      strings = front;
      table = 0;
      metadata = 0;
      bytes = 1;
      yards = 0;
      greatest = pos 0;
    }

module _ (plan : Plan) where
  pub none_totals : totals_of (holding plan []) ≡ no_totals
  unfolding totals_of totals_for data_of drawn_or drawn_of drawn_from table_of table_from sorted_by metadata_of remotes fields_of firsts_after good_ones farthest_of zip_with flat_map
  none_totals = refl

  -- a builder's numbers, by its totals and how long its texts are
  numbers_of : ℕ → ℕ → Totals → Held
  numbers_of room strings t =
      record {
        kind = plan.kind;
        version = plan.version;
        precision = plan.precision;
        names = length plan.names;
        room = room;
        head = length (head_of plan);
        front = length (joined (front_of plan));
        strings = strings;
        table = t.table;
        metadata = t.metadata;
        bytes = t.bytes;
        yards = t.yards;
        greatest = t.greatest;
      }

  none_is : (room : ℕ) → held_none plan.kind plan.version plan.precision (length plan.names) room (length (head_of plan)) (length (joined (front_of plan))) ≡ held_as
      (summed (holding plan []) room)
  unfolding summed head_of numbers_of
  none_is room =
      ap (numbers_of room (length (joined (front_of plan)))) (sym none_totals) ∙ ap (λ (l : List Text). numbers_of room (length (joined l)) (totals_of (holding plan []))) (sym (cleared_texts plan))

  pub none_held : (room names head front : ℕ) → names ≡ length plan.names → head ≡ length (head_of plan) → front ≡ length (joined (front_of plan))
      → held_none plan.kind plan.version plan.precision names room head front ≡ held_as (summed (holding plan []) room)
  none_held room names head front en eh ef =
      ap (λ (n : ℕ). held_none plan.kind plan.version plan.precision n room head front) en
      ∙ (ap (λ (n : ℕ). held_none plan.kind plan.version plan.precision (length plan.names) room n front) eh
      ∙ (ap (λ (n : ℕ). held_none plan.kind plan.version plan.precision (length plan.names) room (length (head_of plan)) n) ef ∙ none_is room))

  pub none_sound : (room : ℕ) → leb (length plan.names) 255 ≡ true → plan.numbered ≡ true → readable (holding plan []) ≡ true → known plan ≡ true → Sound (holding plan []) room
  unfolding borders_good drawn_of drawn_from every known
  none_sound room named numbered texts form =
      record {
        borders = refl;
        few = omega arith;
        named = named;
        numbered = numbered;
        valued = refl;
        texts = texts;
        form = form;
        drawn = record { bytes = 0 ∷ []; places = [] };
        draws = refl;
      }

  -- names and notice alone
  pub none_lies : (lists : Lists) → Front (pos 0) [] lists.boxes → Front 0 [] lists.borders → Front 0 (map length (front_of plan)) lists.lengths
      → Front 0 (joined (front_of plan)) lists.texts → Front 0 (0 ∷ []) lists.bytes → Lies (holding plan []) (data_of (holding plan [])) lists
  unfolding data_of drawn_or drawn_of drawn_from corners_of
  none_lies lists boxes borders lengths texts bytes =
      record {
        boxes_are = boxes;
        borders_are = borders;
        lengths_are = subst (λ (l : List Text). Front 0 (map length l) lists.lengths) (sym (cleared_texts plan)) lengths;
        texts_are = subst (λ (l : List Text). Front 0 (joined l) lists.texts) (sym (cleared_texts plan)) texts;
        bytes_are = bytes;
      }
