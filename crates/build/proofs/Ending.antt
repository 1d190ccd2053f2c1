-- The last steps of a build, and what they make of the first. Assumes nothing.
use Rattle.numbers.proofs.{Lists.{zeros_drop}, Prelude.{ℕ, ◌+◌, ◌*◌, ◌/◌, ◌^◌, ◌≤◌, ◌<◌, min, le-leb, ltb-true, lt-leb, eqb, ltb, leb, ℤ, length, take, drop, length-replicate, Bool, true, false}}
use Rattle.numbers.{proofs.{Prelude.{◌&&◌, List, [], ◌∷◌, ◌++◌, ◌≡◌, refl, sym, ap, subst, ◌∙◌, arith}, Replies.{demanded, given_from}, Tests.{both}}, specs.{Lists.{padded, zeros}, Reply.{Reply}}}
use Rattle.numbers.specs.{Reply.{given, refused, plain, demand, ◌>>=◌, ◌>>◌}, declared.refusal.Refusal.{Refusal}}
use Rattle.writer.{proofs.Stores.{stored_front}, specs.{Writer.{border_of, every}, inner.Stored.{Stored}}}
use Rattle.builder.proofs.{Counting.{counted_is, readable_is, values_many, yards_many}, drawing.Sections.{appended_fits, drawn_alone}}
use Rattle.builder.specs.Borders.{Drawn, drawn_from, drawn_of, with_border}
use Rattle.builder.specs.File.{Room, are_texts, borders_good, built_of, counted, file_of, fitted, known, readable, up_to}
use Rattle.builder.specs.{Yards.{Lent, Plan, Yard, counted_lengths, counts_good, cut_by, lengths_good, plan_of, values_from, yards_from}}
use Rattle.builder.specs.inner.Drawing.Section.{DrawsAll}
use Rattle.build.proofs.entries.Tabled.{drawn_many}
use Rattle.build.specs.{Checked.{checked, lent_as}, Room.{enough_for, need_of, room_of}, Whole.{Builds}, declared.room.Work.{Work}}
use Rattle.build.specs.inner.Whole.{Drew, Fills, Good, Settles, Starts, ends_as, file_for}
use Rattle.builder.specs.inner.Drawing.Section

-- ---- the checks come first, then the borders
built_by : (b : Reply (Unit {0})) (c r k : Bool) (drawn : Reply Drawn) (rest : Drawn → Reply (List ℕ))
    → (b >> (demand c (plain 25) >> (demand r (plain 26) >> (demand k (plain 27) >> (drawn >>= rest))))) ≡
    ((b >> (demand c (plain 25) >> (demand r (plain 26) >> demand k (plain 27)))) >> (drawn >>= rest))
built_by (refused why) c r k drawn rest = refl
built_by (given u) false r k drawn rest = refl
built_by (given u) true false k drawn rest = refl
built_by (given u) true true false drawn rest = refl
built_by (given u) true true true drawn rest = refl

module _ (plan : Plan) (room : Room) where
  abbrev drawing : Reply Drawn
  drawing = drawn_of plan.version (up_to (min room.file room.bytes)) plan.yards

  abbrev ending : Drawn → Reply (List ℕ)
  ending drawn = ends_as room.work room.file (file_of plan drawn)

  built_is : built_of plan room ≡ (checked plan >> (drawing >>= ending))
  unfolding built_of checked ends_as
  built_is = built_by (borders_good plan.yards) (counted plan) (readable plan) (known plan) drawing ending

  built_refused : (why : Refusal) → checked plan ≡ refused why → built_of plan room ≡ refused why
  built_refused why e = built_is ∙ ap (λ (c : Reply (Unit {0})). c >> (drawing >>= ending)) e

  module _ (ok : checked plan ≡ given tt) where
    built_on : built_of plan room ≡ (drawing >>= ending)
    built_on = built_is ∙ ap (λ (c : Reply (Unit {0})). c >> (drawing >>= ending)) ok

    built_undrawn : (why : Refusal) → drawing ≡ refused why → built_of plan room ≡ refused why
    built_undrawn why e = built_on ∙ ap (λ (d : Reply Drawn). d >>= ending) e

    built_drawn : (drawn : Drawn) → drawing ≡ given drawn → built_of plan room ≡ ends_as room.work room.file (file_of plan drawn)
    built_drawn drawn e = built_on ∙ ap (λ (d : Reply Drawn). d >>= ending) e

-- a section that is drawn is no longer than its room
bytes_of : Reply Drawn → List ℕ
bytes_of (given d) = d.bytes
bytes_of (refused why) = []

drawn_few : (most version room : ℕ) (sofar : List ℕ) (yards : List Yard) (d : Drawn) → given d ≡ drawn_from version room sofar yards → length sofar ≤ most → room ≤ most → length d.bytes ≤ most
unfolding drawn_from with_border bytes_of
drawn_few most version room sofar [] d e h k = let same : d.bytes ≡ sofar = ap bytes_of e in omega (arith, ap length same, h)
drawn_few most version room sofar (yard ∷ yards) d e h k =
    let one = given_from (with_border version room sofar yard) (λ more. drawn_from version room more yards >>= λ rest. given (record { bytes = rest.bytes; places = length sofar ∷ rest.places })) e in
    let two = given_from (drawn_from version room one.it yards) (λ rest. given (record { bytes = rest.bytes; places = length sofar ∷ rest.places })) one.onto in
    let fits : length one.it ≤ room = appended_fits room sofar yard.cut (length yard.pieces) (border_of version yard.lats yard.lons yard.pieces sofar) one.it (sym one.is) in
    let more : length two.it.bytes ≤ most = drawn_few most version room one.it yards two.it two.is (omega (arith, fits, k)) k in
    let same : d.bytes ≡ two.it.bytes = ap bytes_of two.onto in omega (arith, ap length same, more)

-- ---- what a refusal or a good check says
never : (why : Refusal) → ◌≡◌ {A = Reply (Unit {0})} (given tt) (refused why) → ⊥
never why e = let z : ◌≡◌ {A = ℕ} 0 1 = ap flag e in omega (arith, z) where
  flag : Reply (Unit {0}) → ℕ
  flag (given u) = 0
  flag (refused why) = 1

all_met : (b : Reply (Unit {0})) (c r k : Bool) → ◌≡◌ {A = Reply (Unit {0})} (given tt) (b >> (demand c (plain 25) >> (demand r (plain 26) >> demand k (plain 27)))) → (c ≡ true) × (r ≡ true)
all_met (refused why) c r k e = absurd (never why e)
all_met (given u) c r k e = let one = demanded c (plain 25) e in (one.0, (demanded r (plain 26) one.1).0)

module _ (kind version precision names : ℕ) (yards : List ℕ) (lats lons : List ℤ) (pieces lengths texts : List ℕ) where
  abbrev lent : Lent
  lent = lent_as kind version precision names yards lats lons pieces lengths texts

  pub checked_good : checked (plan_of lent) ≡ given tt → Good names yards lengths texts
  unfolding checked counted_lengths
  checked_good ok = let met = all_met (borders_good (plan_of lent).yards) (counted (plan_of lent)) (readable (plan_of lent)) (known (plan_of lent)) (sym ok) in
      let good : counts_good names yards (length lengths) ≡ true = sym (counted_is lent) ∙ met.0 in record {
        counts = good;
        fine = ap (λ (n : ℕ). are_texts (take (names + 1 + names * n) lengths) texts) (sym (values_many yards)) ∙ (readable_is lent good ∙ met.1);
      }

  -- there is a yard
  pub good_some : Good names yards lengths texts → 4 ≤ length yards
  unfolding counts_good lengths_good
  good_some g =
      let rest : Bool = leb (length yards / 4) 4096 && (leb names 255 && (every (eqb names) (values_from yards) && leb (names + 1 + names * (length yards / 4)) (length lengths))) in
      let some = ltb-true 0 (length yards / 4) (both (ltb 0 (length yards / 4)) rest g.counts).0 in omega (arith, some)

  -- ---- `start`
  pub start_refused : (file room : ℕ) (before places bytes : List ℕ) (r : Reply (Unit {0})) → r ≡ checked (plan_of lent) → (why : Refusal) → r ≡ refused why →
      (last : Reply ℕ) → last ≡ refused why → Starts lent file room before places bytes last
  unfolding Starts
  start_refused file room before places bytes r e why is last same = rw same (λ work. built_refused (plan_of lent) (record { file = file; bytes = room; work = work }) why (sym e ∙ is))

  same_drawn : (d d' : ℕ) → d ≡ d' → drawn_of version d (yards_from yards lats lons pieces []) ≡ drawn_of (plan_of lent).version d' (plan_of lent).yards
  unfolding drawn_of plan_of
  same_drawn d d' e =
      drawn_alone version d (0 ∷ []) yards lats lons pieces [] (drop (names + 1) (cut_by lengths texts))
      ∙ ap (λ (n : ℕ). drawn_from version n (0 ∷ []) (yards_from yards lats lons pieces (drop (names + 1) (cut_by lengths texts)))) e

  pub start_drawn : checked (plan_of lent) ≡ given tt → (file room : ℕ) (before places bytes : List ℕ) (d : ℕ) → d ≡ up_to (min file room) → (r : Reply ℕ) →
      DrawsAll (drawn_of version d (yards_from yards lats lons pieces [])) before places bytes r → Starts lent file room before places bytes r
  unfolding Starts DrawsAll plan_of
  start_drawn ok file room before places bytes d e (given size) w =
      (ok, subst (λ (reply : Reply Drawn). Section.Whole reply before places bytes size) (same_drawn d (up_to (min file room)) e) w)
  start_drawn ok file room before places bytes d e (refused why) w =
      λ work. built_undrawn (plan_of lent) (record { file = file; bytes = room; work = work }) ok why (sym (same_drawn d (up_to (min file room)) e) ∙ w)

  -- ---- `fill_all`
  module _ (file room : ℕ) (before places bytes : List ℕ) (r : Reply ℕ) (s : Starts lent file room before places bytes r) where
    pub refused_fills : (why : Refusal) → r ≡ refused why → (work : Work) (out : List ℕ) (last : Reply ℕ) → last ≡ refused why → Fills (built_of (plan_of lent) (room_of lent work file room)) file out last
    unfolding Starts Fills room_of
    refused_fills why is work out last same =
        let t : Starts lent file room before places bytes (refused why) = subst (Starts lent file room before places bytes) is s in
        rw same (t (enough_for work (need_of names (length yards) lengths)))

    module _ (size : ℕ) (is : r ≡ given size) where
      told : Starts lent file room before places bytes (given size)
      told = subst (Starts lent file room before places bytes) is s

      ok : checked (plan_of lent) ≡ given tt
      unfolding Starts
      ok = told.0

      whole : Section.Whole (drawn_of (plan_of lent).version (up_to (min file room)) (plan_of lent).yards) before places bytes size
      unfolding Starts plan_of
      whole = told.1

      pub starts_good : Good names yards lengths texts
      starts_good = checked_good ok

      pub starts_inside : size ≤ length bytes
      starts_inside = whole.full

      from : given whole.drawn ≡ drawn_from (plan_of lent).version (up_to (min file room)) (0 ∷ []) (plan_of lent).yards
      unfolding drawn_of
      from = sym whole.is

      pub starts_small : length (take size bytes) ≤ 2 ^ 30
      starts_small =
          let few = drawn_few (2 ^ 30) (plan_of lent).version (up_to (min file room)) (0 ∷ []) (plan_of lent).yards whole.drawn from (omega arith) (omega arith) in
          omega (arith, few, ap length whole.front)

      drew : Drew yards whole.drawn.places places
      unfolding plan_of
      drew = record {
        before = before;
        many = drawn_many (plan_of lent).version (up_to (min file room)) (0 ∷ []) (plan_of lent).yards whole.drawn from ∙ yards_many yards lats lons pieces (drop (names + 1) (cut_by lengths texts));
        stored = whole.stored;
      }

      pub drawn_fills : (work : Work) (out : List ℕ) (built : Reply ℕ)
          → ((drawn : List ℕ) → Drew yards drawn places → Fills (ends_as (enough_for work (need_of names (length yards) lengths)) file
          (file_for (lent_as kind version precision names yards lats lons pieces lengths texts) drawn (take size bytes))) file out built) → Fills (built_of (plan_of lent)
          (room_of lent work file room)) file out built
      unfolding room_of
      drawn_fills work out built f =
          let enough' : Bool = enough_for work (need_of names (length yards) lengths) in
          let own : built_of (plan_of lent) (record { file = file; bytes = room; work = enough' }) ≡ ends_as enough' file (file_of (plan_of lent) whole.drawn) =
          built_drawn (plan_of lent) (record { file = file; bytes = room; work = enough' }) ok whole.drawn whole.is in
          let same : file_for lent whole.drawn.places (take size bytes) ≡ file_of (plan_of lent) whole.drawn =
          ap (λ (b : List ℕ). file_of (plan_of lent) (record { bytes = b; places = whole.drawn.places })) (sym whole.front) in
          subst (λ (reply : Reply (List ℕ)). Fills reply file out built) (sym (own ∙ ap (ends_as enough' file) (sym same)))
          (f whole.drawn.places drew)

-- ---- `finish`
module _ (work : Bool) (room : ℕ) (file out : List ℕ) where
  pub short_fills : work ≡ false → (r : Reply ℕ) → r ≡ refused (plain 28) → Fills (ends_as work room file) room out r
  unfolding Fills ends_as
  short_fills none r e = subst (Fills (ends_as work room file) room out) (sym e) (ap (λ (b : Bool). demand (b && leb (length file) (up_to room)) (plain 28) >> given file) none)

  module _ (yes' : work ≡ true) (end : ℕ) (s : Stored (zeros room) 0 file out end) where
    size : end ≡ length file
    size = omega (arith, s.place_after)

    ends : (fits : Bool) → leb (length file) (up_to room) ≡ fits → ends_as work room file ≡ (demand fits (plain 28) >> given file)
    unfolding ends_as
    ends fits e = ap (λ (b : Bool). demand (b && leb (length file) (up_to room)) (plain 28) >> given file) yes' ∙ ap (λ (b : Bool). demand b (plain 28) >> given file) e

    pub long_fills : up_to room < end → (r : Reply ℕ) → r ≡ refused (plain 28) → Fills (ends_as work room file) room out r
    unfolding Fills
    long_fills h r e = subst (Fills (ends_as work room file) room out) (sym e) (ends false (lt-leb (length file) (up_to room) (omega (arith, size, h))))

    pub whole_fills : end ≤ up_to room → Fills (ends_as work room file) room out (given end)
    unfolding Fills fitted
    whole_fills h = let fits : length file ≤ room = omega (arith, size, h) in
        let front : out ≡ file ++ drop (length file) (zeros room) = stored_front (zeros room) file out end s (omega (arith, fits, length-replicate {A = ℕ} room 0)) in
        let all : out ≡ padded room file = front ∙ ap (λ (l : List ℕ). file ++ l) (zeros_drop (length file) room) in
        ap (λ (n : ℕ). record { reply = given n; out = out }) size ∙ (ap (λ (l : List ℕ). record { reply = given (length file); out = l }) all
        ∙ ap (fitted room) (sym (ends true (le-leb (length file) (up_to room) (omega (arith, size, h))))))

-- ---- `build`
pub settled_fits : (reply : Reply (List ℕ)) (room : ℕ) (before after : List ℕ) (built r : Reply ℕ) → length before ≡ room → Fills reply room before built → Settles built before after r →
    record { reply = r; out = after } ≡ fitted room reply
unfolding Fills Settles fitted
settled_fits reply room before after (given n) r _ f s =
    ap (λ (b : Reply ℕ). record { reply = b; out = after }) s.0 ∙ (ap (λ (l : List ℕ). record { reply = given n; out = l }) s.1 ∙ f)
settled_fits reply room before after (refused why) r size f s =
    ap (λ (b : Reply ℕ). record { reply = b; out = after }) s.0 ∙ (ap (λ (l : List ℕ). record { reply = refused why; out = l }) (s.1 ∙ ap zeros size) ∙ ap (fitted room) (sym f))

pub settled_builds : (lent : Lent) (room : Room) (before after : List ℕ) (built r : Reply ℕ) → length before ≡ room.file → Fills (built_of (plan_of lent) room) room.file before built →
    Settles built before after r → Builds lent room after r
unfolding Builds
settled_builds lent room before after built r size f s = settled_fits (built_of (plan_of lent) room) room.file before after built r size f s
