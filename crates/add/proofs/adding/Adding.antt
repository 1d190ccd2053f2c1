-- An add, from what its steps say. Assumes nothing.
use Rattle.numbers.proofs.Prelude.{ℕ, ◌+◌, ◌≤◌, min, eqb, ltb, ℤ, length, take, Bool, true, false, ◌&&◌, List, [], ◌++◌, ◌≡◌, refl, sym, ap, subst, ◌∙◌, arith}
use Rattle.numbers.specs.{Reply.{Reply, given, refused, plain, demand, ◌>>◌}, declared.refusal.Refusal.{Refusal}}
use Rattle.builder.specs.{Borders.{with_border}, File.{are_texts, up_to}, Yards.{sum_of}}
use Rattle.add.specs.{Adding.Adds.{Adds, space_for, notes_enough}, Growing.{Joins.{Renoted}, Notes.{Notes}}, Offered.Offers.{offered_as, offer_good, border_behind, data_with, Offers}}
use Rattle.add.specs.{declared.{adding.room.NoteRooms.{NoteRooms}, growing.grow.Added.{Added}}, inner.Joining.Joins.{Joins}}
use Rattle.draft.{proofs.held.{Fronts.{front_take}, Standing.{held_names, held_yards, held_bytes, holds_standing}}, specs.Held.Builder.{Builder, Offered, yard_of, joined, summed, fitting, add}}
use Rattle.draft.specs.{Held.{Space.{Space, long_enough, standing}, State.{Lists, Holds, Answers}, Totals.{data_of}}, declared.held.{room.Rooms.{Rooms}, state.Held.{Held}}}
use Rattle.writer.specs.Writer.{checks}

-- ---- the steps of an add
grouped : {A : Type 0} (c : Reply (Unit {0})) (x y : Bool) (rest : Reply A) →
    (c >> (demand x (plain 25) >> (demand y (plain 26) >> rest))) ≡ ((c >> (demand x (plain 25) >> demand y (plain 26))) >> rest)
grouped (given u) true true rest = refl
grouped (given u) true false rest = refl
grouped (given u) false y rest = refl
grouped (refused why) x y rest = refl

add_steps : (b : Builder) (o : Offered) (space : Space) → add b o space ≡ (offer_good (length b.plan.yards) (length b.plan.names) o >> (with_border b.plan.version
    (up_to (min b.room space.bytes)) (data_of b.plan).bytes (yard_of o) >> fitting space (summed (joined b.plan o) b.room)))
unfolding add offer_good
add_steps b o space = grouped (checks 0 o.lats o.lons []) (ltb (length b.plan.yards) 4096 && eqb (length b.plan.names) (length o.lengths)) (are_texts o.lengths o.texts) _

cut_short : {A B : Type 0} (c : Reply (Unit {0})) (w : Reply A) (f : Reply B) (why : Refusal) → (c >> w) ≡ refused why → (c >> (w >> f)) ≡ refused why
cut_short (given u) (given x) f why e = let z : ◌≡◌ {A = ℕ} 0 1 = cc in absurd (omega arith)
cut_short (given u) (refused w) f why e = cc
cut_short (refused w) x f why e = cc

no_lists : (space : Space) (b : Builder) → space.lists ≡ false → fitting space b ≡ refused (plain 28)
unfolding fitting
no_lists space b e = rw e refl

never_both : (t : Bool) → t ≡ true → t ≡ false → ⊥
never_both t e f = let z : true ≡ false = sym e ∙ f in let y : ◌≡◌ {A = ℕ} 0 1 = cc in omega arith

-- ---- of a builder that calls have made
module _ (b : Builder) (held : Held) (before : Lists) (h : Holds b held before) (o : Offered) (out : ℕ) where
  data_here : take held.bytes before.bytes ≡ (data_of b.plan).bytes
  data_here = ap (λ (n : ℕ). take n before.bytes) (held_bytes b held before h) ∙ front_take 0 h.lies.bytes_are

  abbrev wide : ℕ
  wide = up_to (min b.room (min (length before.bytes) out))

  data_as : data_with held o before.bytes out ≡ with_border b.plan.version wide (data_of b.plan).bytes (yard_of o)
  unfolding with_border
  data_as =
      ap (λ (x : Held). border_behind x.version (up_to (min x.room (min (length before.bytes) out))) (take held.bytes before.bytes) o.lats o.lons o.pieces) h.is
      ∙ ap (λ (l : List ℕ). border_behind b.plan.version wide l o.lats o.lons o.pieces) data_here

  good_as : offer_good held.yards held.names o ≡ offer_good (length b.plan.yards) (length b.plan.names) o
  good_as = ap (λ (n : ℕ). offer_good n held.names o) (held_yards b held before h) ∙ ap (λ (n : ℕ). offer_good (length b.plan.yards) n o) (held_names b held before h)

  module _ (space : Space) (room : space.bytes ≡ min (length before.bytes) out) where
    abbrev last : Reply Builder
    last = fitting space (summed (joined b.plan o) b.room)

    steps_here : add b o space ≡ (offer_good held.yards held.names o >> (data_with held o before.bytes out >> last))
    steps_here =
        add_steps b o space ∙ (ap (λ (n : ℕ). offer_good (length b.plan.yards) (length b.plan.names) o >> (with_border b.plan.version
        (up_to (min b.room n)) (data_of b.plan).bytes (yard_of o) >> last)) room ∙ (ap (λ (w : Reply (List ℕ)). offer_good (length b.plan.yards)
        (length b.plan.names) o >> (w >> last)) (sym data_as) ∙ ap (λ (c : Reply (Unit {0})). c >> (data_with held o before.bytes out >> last)) (sym good_as)))

    refused_here : (why : Refusal) → (offer_good held.yards held.names o >> data_with held o before.bytes out) ≡ refused why → Answers (add b o space) before before (refused why)
    unfolding Answers
    refused_here why e = (steps_here ∙ cut_short (offer_good held.yards held.names o) (data_with held o before.bytes out) last why e, refl)

    module _ (more : List ℕ) (good : offer_good held.yards held.names o ≡ given tt) (drawn : data_with held o before.bytes out ≡ given more) where
      add_last : add b o space ≡ last
      add_last = steps_here ∙ (ap (λ (c : Reply (Unit {0})). c >> (data_with held o before.bytes out >> last)) good ∙ ap (λ (w : Reply (List ℕ)). w >> last) drawn)

      full_here : space.lists ≡ false → Answers (add b o space) before before (refused (plain 28))
      unfolding Answers
      full_here e = (add_last ∙ no_lists space (summed (joined b.plan o) b.room) e, refl)

-- one refusal for another
pub as_refused : (w why : Refusal) (noted : ℕ) → w ≡ why → ◌≡◌ {A = Added} (record { changed = refused w; noted = noted }) (record { changed = refused why; noted = noted })
as_refused w why noted e = rw e refl

-- ---- the ways out
module _ (held : Held) (noted : ℕ) (lats lons : List ℤ) (pieces sizes values : List ℕ) (rooms : Rooms) (lent : NoteRooms) (out : ℕ) (before : Lists) (notes : Notes)
    (bytes_are : rooms.bytes ≡ length before.bytes) where
  abbrev o : Offered
  o = offered_as lats lons pieces sizes values

  abbrev space : Space
  space = space_for held rooms lent o out

  room_here : space.bytes ≡ min (length before.bytes) out
  room_here = ap (λ (n : ℕ). min n out) bytes_are

  -- a refusal changes nothing
  abbrev same : Refusal → Added
  same why = record { changed = refused why; noted = noted }

  nothing_noted : (names : ℕ) (why : Refusal) (b : Builder) → Renoted names (joined b.plan o).yards noted notes (same why).noted notes (same why).changed
  unfolding Renoted
  nothing_noted names why b = (refl, refl)

  -- its numbers do not fit its lists
  pub stands_not_adds : rooms.boxes ≡ length before.boxes → rooms.borders ≡ length before.borders → rooms.lengths ≡ length before.lengths → rooms.texts ≡ length before.texts
      → (t : Bool) → t ≡ standing held rooms → t ≡ false → (r : Added) → r ≡ same (plain 28) → Adds held noted o rooms lent out before before notes notes r
  stands_not_adds boxes borders lengths texts t e n r is = let low : standing held rooms ≡ false = sym e ∙ n in record {
    answers = λ b h right. absurd (never_both (standing held rooms) (holds_standing b held before h rooms boxes borders lengths texts bytes_are) low);
    stands_not = λ f. (is, (refl, refl));
  }

  module _ (t : Bool) (e : t ≡ standing held rooms) (n : t ≡ true) where
    pub stood : standing held rooms ≡ true
    stood = sym e ∙ n

    not_low : {A : Type 0} → standing held rooms ≡ false → A
    not_low f = absurd (never_both (standing held rooms) stood f)

    -- a refusal with its reason
    refused_as : (why : Refusal) → ((b : Builder) → Holds b held before → Answers (add b o space) before before (refused why)) → (r : Added) → r ≡ same why →
        Adds held noted o rooms lent out before before notes notes r
    refused_as why answers r is =
        subst (Adds held noted o rooms lent out before before notes notes) (sym is) (record { answers = λ b h right. (answers b h, nothing_noted held.names why b); stands_not = λ f. not_low f })

    pub refused_adds : (after : List ℕ) (r : Reply ℕ) → Offers held o before.bytes out after r → (why : Refusal) → r ≡ refused why → (s : Added) → s ≡ same why →
        Adds held noted o rooms lent out before before notes notes s
    unfolding Offers
    refused_adds after r offers why is =
        let bad : Offers held o before.bytes out after (refused why) = subst (Offers held o before.bytes out after) is offers in
        refused_as why (λ b h. refused_here b held before h o out space room_here why bad)

    module _ (after : List ℕ) (r : Reply ℕ) (offers : Offers held o before.bytes out after r) (size : ℕ) (is : r ≡ given size) where
      unfoldable offered : Type 0
      offered = (offer_good held.yards held.names o ≡ given tt) × ((data_with held o before.bytes out ≡ given (take held.bytes before.bytes ++ take size after)) × (size ≤ length after))

      drew : offered
      unfolding Offers offered
      drew = subst (Offers held o before.bytes out after) is offers

      good_here : offer_good held.yards held.names o ≡ given tt
      unfolding offered
      good_here = drew.0

      drawn_here : data_with held o before.bytes out ≡ given (take held.bytes before.bytes ++ take size after)
      unfolding offered
      drawn_here = drew.1.0

      module _ (sum : ℕ) (sum_told : sum ≡ sum_of sizes) (u : Bool)
          (long-is : u ≡ (long_enough rooms held.names (held.yards + 1) held.front (held.strings + sum) && notes_enough lent held.names (held.yards + 1))) where
        asked : u ≡ space.lists
        asked = long-is ∙ ap (λ (n : ℕ). long_enough rooms held.names (held.yards + 1) held.front (held.strings + n) && notes_enough lent held.names (held.yards + 1)) sum_told

        pub full_adds : u ≡ false → (s : Added) → s ≡ same (plain 28) → Adds held noted o rooms lent out before before notes notes s
        full_adds low_is = let low : space.lists ≡ false = sym asked ∙ low_is in
            refused_as (plain 28) (λ b h. full_here b held before h o out space room_here (take held.bytes before.bytes ++ take size after) good_here drawn_here low)

        pub joined_adds : u ≡ true → (again : Lists) (notes' : Notes) (s : Added) → Joins held noted lats lons sizes (take sum values) (take size after) before again notes notes' s →
            Adds held noted o rooms lent out before again notes notes' s
        unfolding Joins
        joined_adds long_too again notes' s joins = let long : space.lists ≡ true = sym asked ∙ long_too in record {
          answers = λ b h right.
              let both = joins b pieces values space (ap (λ (n : ℕ). take n values) sum_told) long
              (record {
                holds = h;
                good = good_here;
                wide = wide b held before h o out;
                narrow = omega arith;
                drawn = sym (data_as b held before h o out) ∙ (drawn_here ∙ ap (λ (l : List ℕ). given (l ++ take size after)) (data_here b held before h o out));
              }) right in (
                subst (λ (x : Reply Builder). Answers x before again s.changed)
                    (sym (add_last b held before h o out space room_here (take held.bytes before.bytes ++ take size after) good_here drawn_here)) both.0,
                both.1,
              );
          stands_not = λ f. not_low f;
        }
