-- When a yard can be dropped, test by test. Assumes nothing.
use Rattle.numbers.proofs.Prelude.{ℕ, ◌+◌, ◌-◌, ◌*◌, ◌≤◌, ◌<◌, lt-ltb, le-ltb, ℤ, length, take, drop, get_or, Bool, true, false, List, ◌≡◌, refl, sym, ap, subst, ◌∙◌, arith}
use Rattle.numbers.specs.{Reply.{Reply, given, refused, plain, demand, ◌>>◌}, declared.refusal.Refusal.{Refusal}}
use mathlib.Core.Bool.{false≢true}
use Rattle.builder.{proofs.Counting.{lengths_room}, specs.Yards.{sum_of}}
use Rattle.draft.{proofs.held.{Standing.{held_yards, holds_standing}, Stood.{Stood, stood}}, specs.Held.{Builder.{Builder, drop_last, holding, summed}, Space.{long_enough, standing}}}
use Rattle.draft.specs.{Held.State.{Holds, Lists}, declared.held.{room.Rooms.{Rooms}, state.Held.{Held}}}
use Rattle.edit.proofs.changing.Lasts.{last_fits, place_fits}
use Rattle.edit.specs.{Changing.Dropped.{last_size, left_space}, inner.Changing.Dropped.{Lent, Shortens, short_of, with_sums}}

module _ (builder : Held) (rooms : Rooms) (borders lengths : List ℕ) where
  abbrev Refuses : Refusal → Type 0
  Refuses why = (b : Builder) (before : Lists) → before.borders ≡ borders → before.lengths ≡ lengths → Lent rooms before → Holds b builder before →
      drop_last b (left_space builder rooms lengths) ≡ refused why

  refuses : (why : Refusal) (r : Reply Held) → r ≡ refused why → (standing builder rooms ≡ false → why ≡ plain 29) → Refuses why → Shortens builder rooms borders lengths r
  unfolding Shortens
  refuses why r e broken is = subst (Shortens builder rooms borders lengths) (sym e) (broken, is)

  -- no yard
  none_left : (b : Builder) → length b.plan.yards ≡ 0 → drop_last b (left_space builder rooms lengths) ≡ refused (plain 29)
  unfolding drop_last
  none_left b e = let last : Reply Builder = given (summed (holding b.plan (take (length b.plan.yards - 1) b.plan.yards)) b.room) in
      ap (λ (x : Bool). demand x (plain 29) >> (demand (left_space builder rooms lengths).lists (plain 28) >> last)) (le-ltb 0 (length b.plan.yards) (omega (arith, e)))

  module _ (s : Bool) (is : s ≡ standing builder rooms) where
    pub not_standing : s ≡ false → (r : Reply Held) → r ≡ refused (plain 29) → Shortens builder rooms borders lengths r
    not_standing n r e =
        refuses (plain 29) r e (λ f. refl)
        (λ b before eb el l h. absurd (false≢true (sym (sym is ∙ n) ∙ holds_standing b builder before h rooms l.boxes l.borders l.lengths l.texts l.bytes)))

    module _ (n : s ≡ true) where
      stands : standing builder rooms ≡ true
      stands = sym is ∙ n

      all : Stood builder rooms
      all = stood builder rooms stands

      standing_still : (why : Refusal) → standing builder rooms ≡ false → why ≡ plain 29
      standing_still why f = absurd (false≢true (sym f ∙ stands))

      pub no_yard : builder.yards ≡ 0 → (r : Reply Held) → r ≡ refused (plain 29) → Shortens builder rooms borders lengths r
      no_yard none r e = refuses (plain 29) r e (λ f. refl) (λ b before eb el l h. none_left b (sym (held_yards b builder before h) ∙ none))

      module _ (some : builder.yards ≡ 0 → ⊥) (borders-lent : rooms.borders ≡ length borders) (lengths-lent : rooms.lengths ≡ length lengths) where
        there : 0 < builder.yards
        there = omega (arith, some)

        -- the indexes stay small and inside
        abbrev from : ℕ
        from = builder.names + 1 + builder.names * (builder.yards - 1)

        pub names_small : builder.names ≤ 255
        names_small = all.few_names

        pub product_small : builder.names * (builder.yards - 1) ≤ 1044480
        product_small = lengths_room builder.names (builder.yards - 1) all.few_names (omega (arith, all.few_yards))

        pub last_inside : from + builder.names ≤ length lengths
        last_inside = let up : builder.yards ≡ builder.yards - 1 + 1 = omega (arith, there) in
            let times : builder.names * builder.yards ≡ builder.names * (builder.yards - 1 + 1) = ap (λ (k : ℕ). builder.names * k) up in
            let more : builder.names * (builder.yards - 1 + 1) ≡ builder.names * (builder.yards - 1) + builder.names = omega arith in
            omega (arith, all.own.lengths_all, lengths-lent, times, more)

        pub border_inside : builder.yards - 1 < length borders
        border_inside = omega (arith, all.own.borders_room, borders-lent, there)

        pub front_order : builder.front ≤ builder.strings
        front_order = all.front_first

        pub few_left : builder.yards - 1 ≤ 4096
        few_left = omega (arith, all.few_yards)

        last_is : sum_of (take (from + builder.names - from) (drop from lengths)) ≡ last_size builder lengths
        unfolding last_size
        last_is = let size : from + builder.names - from ≡ builder.names = omega arith in ap (λ (k : ℕ). sum_of (take k (drop from lengths))) size

        pub last_over : builder.strings - builder.front < sum_of (take (from + builder.names - from) (drop from lengths)) → (r : Reply Held) → r ≡ refused (plain 28) →
            Shortens builder rooms borders lengths r
        last_over over r e =
            refuses (plain 28) r e (standing_still (plain 28))
            (λ b before eb el l h. absurd (omega (arith, over, last_is, subst (λ (ls : List ℕ). last_size builder ls ≤ builder.strings - builder.front) el (last_fits b builder before h there))))

        module _ (last : ℕ) (within : (last ≡ sum_of (take (from + builder.names - from) (drop from lengths))) ×
            (sum_of (take (from + builder.names - from) (drop from lengths)) ≤ builder.strings - builder.front)) where
          last_same : last ≡ last_size builder lengths
          last_same = within.0 ∙ last_is

          pub last_less : last ≤ builder.strings - builder.front
          last_less = omega (arith, within.0, within.1)

          pub last_order : builder.front ≤ builder.strings - last
          last_order = omega (arith, last_less, all.front_first)

          pub place_over : builder.bytes < get_or borders (builder.yards - 1) 0 → (r : Reply Held) → r ≡ refused (plain 28) → Shortens builder rooms borders lengths r
          place_over over r e =
              refuses (plain 28) r e (standing_still (plain 28))
              (λ b before eb el l h. absurd (omega (arith, over, subst (λ (ls : List ℕ). get_or ls (builder.yards - 1) 0 ≤ builder.bytes) eb (place_fits b builder before h there))))

          module _ (inside : get_or borders (builder.yards - 1) 0 ≤ builder.bytes) (w : Bool)
              (tested : w ≡ long_enough rooms builder.names (builder.yards - 1) builder.front (builder.strings - last)) where
            room_is : long_enough rooms builder.names (builder.yards - 1) builder.front (builder.strings - last_size builder lengths) ≡ w
            room_is = ap (λ (k : ℕ). long_enough rooms builder.names (builder.yards - 1) builder.front (builder.strings - k)) (sym last_same) ∙ sym tested

            no_room : (b : Builder) → 0 < length b.plan.yards → w ≡ false → drop_last b (left_space builder rooms lengths) ≡ refused (plain 28)
            unfolding drop_last left_space
            no_room b more none =
                let last : Reply Builder = given (summed (holding b.plan (take (length b.plan.yards - 1) b.plan.yards)) b.room) in
                ap (λ (x : Bool). demand x (plain 29) >> (demand (long_enough rooms builder.names (builder.yards - 1) builder.front (builder.strings - last_size builder lengths))
                (plain 28) >> last)) (lt-ltb 0 (length b.plan.yards) more) ∙ ap (λ (x : Bool). demand x (plain 28) >> last) (room_is ∙ none)

            pub room_bad : w ≡ false → (r : Reply Held) → r ≡ refused (plain 28) → Shortens builder rooms borders lengths r
            room_bad m r e =
                refuses (plain 28) r e (standing_still (plain 28)) (λ b before eb el l h. no_room b (omega (arith, there, held_yards b builder before h)) m)

            -- the greatest latitude comes as it is stored
            pub shortened : w ≡ true → (greatest : ℤ) → greatest ≡ builder.greatest
                → Shortens builder rooms borders lengths
                (given (with_sums (short_of builder (builder.strings - last) (get_or borders (builder.yards - 1) 0)) builder.table builder.metadata greatest))
            unfolding Shortens with_sums short_of
            shortened m greatest e =
                record {
                  stands = stands;
                  some = there;
                  last_in = omega (arith, last_less, last_same);
                  bytes_in = inside;
                  room = room_is ∙ m;
                  is = ap (with_sums (short_of builder (builder.strings - last) (get_or borders (builder.yards - 1) 0)) builder.table builder.metadata) e ∙
                      ap (λ (k : ℕ). short_of builder (builder.strings - k) (get_or borders (builder.yards - 1) 0)) last_same;
                }
