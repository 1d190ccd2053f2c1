-- A builder whose lists have a yard more: it holds that yard, or the lists are cleared again. Assumes nothing.
use Rattle.numbers.proofs.Prelude.{ℕ, ◌+◌, ◌-◌, ◌*◌, ◌≤◌, ◌<◌, leb-true, ltb-true, eqb-true, eqb, ltb, leb, ℤ, pos, length, take, drop, length-append, sets, length-take-le}
use Rattle.numbers.proofs.Prelude.{length-sets, Bool, true, false, ◌&&◌, List, [], ◌∷◌, ◌++◌, map, ◌≡◌, refl, sym, ap, subst, ◌∙◌, arith}
use Rattle.numbers.{proofs.{Replies.{looked}, Tests.{both}}, specs.{Answer.{if◌then◌else◌}, Reply.{Reply, given, refused, plain, demand, ◌>>◌}, declared.refusal.Refusal.{Refusal}}}
use Rattle.builder.specs.{Borders.{Drawn}, File.{are_texts, head_of, is_text, up_to}, Yards.{Plan, cut_by, sum_of}}
use Rattle.build.{proofs.{entries.Tabled.{corners_size}, metadata.Itemed.{cut_lengths}}, specs.Entries.Corners.{corners_of}}
use Rattle.add.specs.{Growing.{Joins.{Renoted}, Notes.{Notes, NotedBy}}, Offered.Offers.{offered_as, offer_good}, declared.growing.grow.Added.{Added}, inner.Growing.Joins.{Growing, Grew}}
use Rattle.add.specs.inner.{Growing.Joins.{measured_as}, Joining.Joins.{values_end, value_lengths, value_texts, Settles, Joining, Joins}, Offered.Puts.{Placed, Puts, Ended, lengths_end, corners_for}}
use Rattle.draft.proofs.held.{Fronts.{front_put, front_back}, Kept.{joined_data, joined_sound}, Lying.{lies_joined, holds_joined}, Redrawn.{drawn_with, data_many}, Standing.{texts_many, stands_more}}
use Rattle.draft.proofs.held.{Standing.{held_names, held_yards, held_bytes, held_front, held_strings}, Texts.{corners_one, joined_front, joined_head, joined_strings, joined_yards}}
use Rattle.draft.specs.Held.{Builder.{Builder, Offered, yard_of, joined, summed, fitting}, Sound.{Sound}, Space.{Space}, State.{held_with, Front, Lists, Lies, Holds, SameRooms, Stands, Answers}}
use Rattle.draft.specs.{Held.{State.{lists_as, texts_of}, Totals.{Totals, data_of, totals_of, file_size}}, declared.held.state.Held.{Held}}
use Rattle.writer.specs.Writer.{checks, every}
use Rattle.std.specs.Prelude.{is_err}
use Rattle.build.specs.Metadata.Kept as Words

-- ---- what the checks of an add say
pub record Fine (yards names : ℕ) (o : Offered) : Type 0 where
  pub border : checks 0 o.lats o.lons [] ≡ given tt
  pub few : yards < 4096
  pub valued : names ≡ length o.lengths
  pub texts : are_texts o.lengths o.texts ≡ true

asked : (n : ℕ) (test : Bool) → demand test (plain n) ≡ given tt → test ≡ true
asked n true e = refl
asked n false e = let z : ◌≡◌ {A = ℕ} 0 1 = cc in absurd (omega arith)

pub fine : (yards names : ℕ) (o : Offered) → offer_good yards names o ≡ given tt → Fine yards names o
unfolding offer_good
fine yards names o e = let one = looked (checks 0 o.lats o.lons []) _ (sym e) in
    let two = looked (demand (ltb yards 4096 && eqb names (length o.lengths)) (plain 25)) _ one.1 in
    let counts = both (ltb yards 4096) (eqb names (length o.lengths)) (asked 25 (ltb yards 4096 && eqb names (length o.lengths)) two.0) in record {
      border = one.0;
      few = ltb-true yards 4096 counts.0;
      valued = eqb-true names (length o.lengths) counts.1;
      texts = asked 26 (are_texts o.lengths o.texts) (sym two.1);
    }

-- ---- more behind a front
put_front : {A : Type 0} (none : A) {front list : List A} → Front none front list → (more after same : List A) (at : ℕ) → at ≡ length front
    → at + length more ≤ length list → after ≡ sets list at more → more ≡ same → Front none (front ++ same) after
put_front {A} none {front} {list} f more after same at end fits e is =
    subst (λ (l : List A). Front none (front ++ l) after) is (front_put none f more after (omega (arith, end, fits)) (e ∙ ap (λ (n : ℕ). sets list n more) end))

module _ (b : Builder) (held : Held) (lats lons : List ℤ) (pieces sizes texts values border : List ℕ) (before : Lists) (cut : values ≡ take (sum_of sizes) texts) where
  abbrev o : Offered
  o = offered_as lats lons pieces sizes texts

  abbrev all : Plan
  all = joined b.plan o

  module _ (j : Joining b held o border before) where
    fine_here : Fine held.yards held.names o
    fine_here = fine held.yards held.names o j.good

    abbrev more : List ℕ
    more = (data_of b.plan).bytes ++ border

    data_more : data_of all ≡ drawn_with (data_of b.plan) more
    data_more = joined_data b.plan b.room j.holds.sound o j.wide j.narrow more j.drawn

    sound_more : Sound all b.room
    sound_more = let f = fine_here in
        joined_sound b.plan b.room j.holds.sound o j.wide j.narrow more j.drawn f.border
        (omega (arith, f.few, held_yards b held before j.holds)) (sym (held_names b held before j.holds) ∙ f.valued) f.texts

    abbrev names : held.names ≡ length b.plan.names
    names = held_names b held before j.holds

    abbrev yards : held.yards ≡ length b.plan.yards
    yards = held_yards b held before j.holds

    same_names : length b.plan.names ≡ length all.names
    unfolding joined
    same_names = refl

    bytes_more : length (data_of all).bytes ≡ held.bytes + length border
    bytes_more = ap (λ (d : Drawn). length d.bytes) data_more ∙ (length-append (data_of b.plan).bytes border ∙ ap (λ (n : ℕ). n + length border) (sym (held_bytes b held before j.holds)))

    strings_more : length (Words.joined (texts_of all)) ≡ held.strings + length values
    strings_more =
        ap length (joined_strings b.plan o) ∙ (length-append (Words.joined (texts_of b.plan)) (take (sum_of sizes) texts) ∙ omega (arith, held_strings b held before j.holds, ap length cut))

    lengths_at : lengths_end held ≡ length (map length (texts_of b.plan))
    lengths_at =
        let times : held.names * held.yards ≡ length b.plan.names * length b.plan.yards = ap (λ (n : ℕ). n * held.yards) names ∙ ap (λ (n : ℕ). length b.plan.names * n) yards in
        omega (arith, names, times, texts_many b.plan b.room j.holds.sound)

    module _ (placed : Placed held (length sizes) (length values) (length border) before) (after : Lists) (puts : Puts held lats lons sizes values border before after) where
      lies_more : Lies all (data_of all) after
      lies_more = let lies = j.holds.lies in let plan : Plan = b.plan in
          lies_joined plan b.room j.holds.sound o j.wide j.narrow more j.drawn fine_here.texts after
          (put_front (pos 0) lies.boxes_are (corners_for lats lons) after.boxes (corners_of (yard_of o ∷ [])) (4 * held.yards)
          (omega (arith, yards, corners_size plan.yards)) (omega (arith, placed.boxes_room)) puts.boxes_are (sym (corners_one (yard_of o))))
          (put_front 0 lies.borders_are (held.bytes ∷ []) after.borders (length (data_of plan).bytes ∷ []) held.yards
          (omega (arith, yards, data_many plan b.room j.holds.sound)) (omega (arith, placed.borders_room)) puts.borders_are (ap (λ (n : ℕ). n ∷ []) (held_bytes b held before j.holds)))
          (put_front 0 lies.lengths_are sizes after.lengths sizes (lengths_end held) lengths_at placed.lengths_room puts.lengths_are refl)
          (put_front 0 lies.texts_are values after.texts (take (sum_of sizes) texts) held.strings (held_strings b held before j.holds) placed.texts_room puts.texts_are cut)
          (put_front 0 lies.bytes_are border after.bytes border held.bytes (held_bytes b held before j.holds) placed.bytes_room puts.bytes_are refl)

      stands_here : Stands all.yards (data_of all) held.names (held.yards + 1) after.boxes after.borders (take (values_end held - (held.names + 1))
          (drop (held.names + 1) after.lengths)) (take (held.strings + length values - held.front) (drop held.front after.texts))
      stands_here =
          stands_more all b.room sound_more after lies_more held.names (held.yards + 1) (held.names + 1) (values_end held) held.front (held.strings + length values)
          (names ∙ same_names) (sym (joined_yards b.plan o ∙ ap (λ (n : ℕ). n + 1) (sym yards))) refl refl
          (held_front b held before j.holds ∙ ap (λ (ts : List (List ℕ)). length (Words.joined ts)) (sym (joined_front b.plan o))) (sym strings_more)

      -- the yard lies behind those that are held
      grows : Growing b.plan.yards (yard_of o) (data_of b.plan) (data_of all) held (length border) after.boxes after.borders (value_lengths held after.lengths)
          (value_texts held (held.strings + length values) after.texts)
      unfolding joined totals_of
      grows = let is = j.holds.is in let fresh = j.holds.fresh in record {
        many = yards;
        stands = stands_here;
        bytes = bytes_more;
        place = length (data_of b.plan).bytes;
        placed = ap (λ (d : Drawn). d.places) data_more;
        drawn_many = data_many b.plan b.room j.holds.sound;
        table_is = ap (λ (x : Held). x.table) is ∙ ap (λ (t : Totals). t.table) fresh;
        metadata_is = ap (λ (x : Held). x.metadata) is ∙ ap (λ (t : Totals). t.metadata) fresh;
        greatest_is = ap (λ (x : Held). x.greatest) is ∙ ap (λ (t : Totals). t.greatest) fresh;
      }

      -- the lengths of its values are those that are lent
      sum_in : sum_of sizes ≤ length texts
      unfolding are_texts
      sum_in = leb-true (sum_of sizes) (length texts) (both (leb (sum_of sizes) (length texts)) (every is_text (cut_by sizes texts)) fine_here.texts).0

      sizes_are : sizes ≡ map length (yard_of o).values
      sizes_are = sym (cut_lengths sizes texts sum_in)

      values_size : length values ≡ sum_of sizes
      values_size = ap length cut ∙ length-take-le (sum_of sizes) texts sum_in

      -- what is settled of them
      module _ (noted : ℕ) (notes notes' : Notes) (right : NotedBy held.names b.plan.yards noted notes) (r : Added)
          (m : Settles held noted (held.strings + length values) (length border) sizes after.boxes after.borders after.lengths after.texts notes notes' r) where
        grew : Grew (b.plan.yards ++ (yard_of o ∷ [])) (data_of all) held (held.strings + length values) noted notes notes' r
        grew = m b.plan.yards (yard_of o) (data_of b.plan) (data_of all) grows sizes_are (ap (λ (n : ℕ). held.strings + n) (sym values_size)) right

        measured_here : r.changed ≡ measured_as held (held.strings + length values) (totals_of all)
        unfolding totals_of joined
        measured_here = grew.changed

        pub renoted : Renoted held.names all.yards noted notes r.noted notes' r.changed
        unfolding joined
        renoted = grew.notes

        abbrev fits : Bool
        fits = leb (file_size held.head (totals_of all)) (up_to held.room)

        -- the last line of `add`
        fitting_is : (space : Space) → space.lists ≡ true → fitting space (summed all b.room) ≡ (demand fits (plain 28) >> given (summed all b.room))
        unfolding fitting summed
        fitting_is space long =
            let head : length (head_of all) ≡ held.head = ap length (joined_head b.plan o) ∙ sym (ap (λ (x : Held). x.head) j.holds.is) in
            let room : b.room ≡ held.room = sym (ap (λ (x : Held). x.room) j.holds.is) in rw (long, head, room) refl

        rooms : SameRooms before after
        rooms =
            record {
              boxes = ap length puts.boxes_are ∙ length-sets before.boxes (4 * held.yards) (corners_for lats lons);
              borders = ap length puts.borders_are ∙ length-sets before.borders held.yards (held.bytes ∷ []);
              lengths = ap length puts.lengths_are ∙ length-sets before.lengths (lengths_end held) sizes;
              texts = ap length puts.texts_are ∙ length-sets before.texts held.strings values;
              bytes = ap length puts.bytes_are ∙ length-sets before.bytes held.bytes border;
            }

        pub joins_into : (next : Held) → r.changed ≡ given next → (space : Space) → space.lists ≡ true → Answers (fitting space (summed all b.room)) before after (given next)
        unfolding Answers measured_as
        joins_into next is space long = go fits refl (sym is ∙ measured_here) where
          go : (t : Bool) → fits ≡ t → ◌≡◌ {A = Reply Held} (given next) (if t then given (held_with held (held.strings + length values) (totals_of all)) else refused (plain 28))
              → Answers (fitting space (summed all b.room)) before after (given next)
          go true t e = let same : next ≡ held_with held (held.strings + length values) (totals_of all) = cc in (
            summed all b.room,
            (
              fitting_is space long ∙ ap (λ (x : Bool). demand x (plain 28) >> given (summed all b.room)) t,
              (
                subst (λ (x : Held). Holds (summed all b.room) x after) (sym same) (holds_joined b held before j.holds (held.strings + length values)
                    after o (sym strings_more) sound_more lies_more),
                rooms,
              ),
            ),
          )
          go false t e = let z : ◌≡◌ {A = ℕ} 0 1 = cc in absurd (omega arith)

        module _ (again : Lists) (ended : Ended held after again) where
          back : again ≡ before
          back =
              let lies = j.holds.lies in
              let boxes = front_back (pos 0) lies.boxes_are (corners_for lats lons) after.boxes again.boxes (4 * held.yards)
              (omega (arith, yards, corners_size b.plan.yards)) puts.boxes_are ended.boxes_are in
              let borders = front_back 0 lies.borders_are (held.bytes ∷ []) after.borders again.borders held.yards
              (omega (arith, yards, data_many b.plan b.room j.holds.sound)) puts.borders_are ended.borders_are in
              let lengths = front_back 0 lies.lengths_are sizes after.lengths again.lengths (lengths_end held) lengths_at puts.lengths_are ended.lengths_are in
              let strings = front_back 0 lies.texts_are values after.texts again.texts held.strings (held_strings b held before j.holds) puts.texts_are ended.texts_are in
              let bytes = front_back 0 lies.bytes_are border after.bytes again.bytes held.bytes (held_bytes b held before j.holds) puts.bytes_are ended.bytes_are in
              ap (λ l. lists_as l again.borders again.lengths again.texts again.bytes) boxes
              ∙ (ap (λ l. lists_as before.boxes l again.lengths again.texts again.bytes) borders
              ∙ (ap (λ l. lists_as before.boxes before.borders l again.texts again.bytes) lengths
              ∙ (ap (λ l. lists_as before.boxes before.borders before.lengths l again.bytes) strings
              ∙ ap (λ l. lists_as before.boxes before.borders before.lengths before.texts l) bytes)))

        pub joins_not : (why : Refusal) → r.changed ≡ refused why → (again : Lists) → Ended held after again → (space : Space) → space.lists ≡ true
            → Answers (fitting space (summed all b.room)) before again (refused why)
        unfolding Answers measured_as
        joins_not why is again ended space long = go fits refl (sym is ∙ measured_here) where
          go : (t : Bool) → fits ≡ t → ◌≡◌ {A = Reply Held} (refused why) (if t then given (held_with held (held.strings + length values) (totals_of all)) else refused (plain 28))
              → Answers (fitting space (summed all b.room)) before again (refused why)
          go true t e = let z : ◌≡◌ {A = ℕ} 0 1 = cc in absurd (omega arith)
          go false t e = let same : why ≡ plain 28 = cc in
              (fitting_is space long ∙ (ap (λ (x : Bool). demand x (plain 28) >> given (summed all b.room)) t ∙ ap (λ w. refused w) (sym same)), back again ended)

-- ---- as `join` promises
module _ (held : Held) (noted strings : ℕ) (lats lons : List ℤ) (sizes values border : List ℕ) (before : Lists) (end : strings ≡ held.strings + length values)
    (placed : Placed held (length sizes) (length values) (length border) before) (after : Lists) (puts : Puts held lats lons sizes values border before after)
    (notes notes' : Notes) (r : Added) (m : Settles held noted strings (length border) sizes after.boxes after.borders after.lengths after.texts notes notes' r) where
  m' : Settles held noted (held.strings + length values) (length border) sizes after.boxes after.borders after.lengths after.texts notes notes' r
  m' = subst (λ (n : ℕ). Settles held noted n (length border) sizes after.boxes after.borders after.lengths after.texts notes notes' r) end m

  into_joins : (next : Held) → r.changed ≡ given next → Joins held noted lats lons sizes values border before after notes notes' r
  unfolding Joins
  into_joins next is b pieces texts space cut long j right = (
    subst (Answers (fitting space (summed (joined b.plan (offered_as lats lons pieces sizes texts)) b.room)) before after) (sym is)
        (joins_into b held lats lons pieces sizes texts values border before cut j placed after puts noted notes notes' right r m' next is space long),
    renoted b held lats lons pieces sizes texts values border before cut j placed after puts noted notes notes' right r m',
  )

  not_joins : (why : Refusal) → r.changed ≡ refused why → (again : Lists) → Ended held after again → Joins held noted lats lons sizes values border before again notes notes' r
  unfolding Joins
  not_joins why is again ended b pieces texts space cut long j right = (
    subst (Answers (fitting space (summed (joined b.plan (offered_as lats lons pieces sizes texts)) b.room)) before again) (sym is)
        (joins_not b held lats lons pieces sizes texts values border before cut j placed after puts noted notes notes' right r m' why is again ended space long),
    renoted b held lats lons pieces sizes texts values border before cut j placed after puts noted notes notes' right r m',
  )

  -- by which of the two it is
  pub joins_it : is_err r.changed ≡ false → Joins held noted lats lons sizes values border before after notes notes' r
  joins_it e = go r.changed refl e where
    go : (c : Reply Held) → r.changed ≡ c → is_err c ≡ false → Joins held noted lats lons sizes values border before after notes notes' r
    go (given next) is t = into_joins next is
    go (refused why) is t = let z : ◌≡◌ {A = ℕ} 0 1 = cc in absurd (omega arith)

  pub joins_back : is_err r.changed ≡ true → (again : Lists) → Ended held after again → Joins held noted lats lons sizes values border before again notes notes' r
  joins_back e again ended = go r.changed refl e where
    go : (c : Reply Held) → r.changed ≡ c → is_err c ≡ true → Joins held noted lats lons sizes values border before again notes notes' r
    go (given next) is t = let z : ◌≡◌ {A = ℕ} 0 1 = cc in absurd (omega arith)
    go (refused why) is t = not_joins why is again ended
