-- From the checks and the text that is put to what replacing promises. Assumes nothing.
use Rattle.numbers.proofs.Prelude.{ℕ, ◌+◌, ◌-◌, ◌*◌, ◌≤◌, ◌<◌, leb-true, ltb-true, ltb, leb, length, take, drop, Bool, true, false, ◌&&◌, List, ◌≡◌, refl, sym, ap, subst, ◌∙◌, arith}
use Rattle.numbers.{proofs.{Replies.{demanded}, Tests.{both}}, specs.{Reply.{Reply, given, refused, plain, demand, ◌>>=◌, ◌>>◌}, declared.refusal.Refusal.{Refusal}}}
use Rattle.build.specs.{Room.{enough}, declared.room.Work.{Work}}
use Rattle.builder.specs.{File.{is_text}, Yards.{Text}}
use Rattle.draft.{proofs.held.{Standing.{held_names, held_yards, holds_standing, text_short}, Stood.{Own, own_parts, stood}}, specs.Held.Builder.{Builder, fitting, replace, summed}}
use Rattle.draft.specs.{Held.{Space.{long_enough, own_enough, standing, work_in}, State.{Answers, Holds, Lists, lists_as}}, declared.held.{room.Rooms.{Rooms}, state.Held.{Held}}}
use Rattle.writer.{proofs.Stores.{stored_length}, specs.inner.Stored.{Stored}}
use Rattle.edit.proofs.replacing.{Agreed.{checked_as}, Renewed.{renews}, Spots.{fallen, index_inside, spot_ordered, within_parts}}
use Rattle.edit.specs.{Replacing.Replaced.{Replaces, replaced, space_for}, declared.replacing.check.Spot.{Spot}, inner.Replacing.Exchange.{Exchanging}}
use Rattle.edit.specs.inner.Replacing.{Replaced.{PutIn, Putting, Renews, Resumming, Resums, TakenBack, after_checks, spot_up_to}, Spot.{checked_of, size_with, spot_in, text_at, within}}

-- ---- taken back or not
pub back_into : (changed : Reply Held) (held : Held) → changed ≡ given held → (spot : Spot) (strings : ℕ) (old lengths texts : List ℕ) →
    TakenBack changed spot strings old lengths texts lengths texts (given held)
unfolding TakenBack
back_into changed held e spot strings old lengths texts = subst (λ (x : Reply Held). TakenBack x spot strings old lengths texts lengths texts (given held)) (sym e) (refl, (refl, refl))

pub back_refused : (changed : Reply Held) (why : Refusal) → changed ≡ refused why → (spot : Spot) (strings : ℕ) (old lengths texts lengths' texts' : List ℕ) (end : ℕ)
    → PutIn spot strings old lengths texts lengths' texts' end → TakenBack changed spot strings old lengths texts lengths' texts' (refused why)
unfolding TakenBack
back_refused changed why e spot strings old lengths texts lengths' texts' end p =
    subst (λ (x : Reply Held). TakenBack x spot strings old lengths texts lengths' texts' (refused why)) (sym e) (refl, (end, p))

-- ---- while a text is put
module _ (held : Held) (spot : Spot) (size borders lengths texts out : ℕ) (work : Work) (p : Putting held spot size borders lengths texts out work) where
  module _ (end : ℕ) (is : end ≡ spot.place + size + (held.strings - spot.from)) (lengths' texts' : ℕ) (many : lengths' ≡ lengths) (long : texts' ≡ texts) where
    pub sums_room : Resumming held end borders lengths' texts' work
    sums_room =
        record {
          few_names = p.resumming.few_names;
          few_yards = p.resumming.few_yards;
          front_first = omega (arith, is, p.resumming.front_first);
          borders_room = p.resumming.borders_room;
          lengths_room = omega (arith, many, p.resumming.lengths_room);
          texts_room = omega (arith, is, long, p.resumming.texts_room);
          room = ap (λ (n : ℕ). enough work held.yards (held.names * held.yards) (n - held.front)) is ∙ p.resumming.room;
        }

    pub back_room : (again : Spot) → again ≡ spot_up_to spot size → (old out' : ℕ) → old ≡ spot.from - spot.place → out' ≡ out →
        (again.index < lengths') × Exchanging again.place again.from end old texts' out'
    back_room again e old out' same wide = let i : again.index ≡ spot.index = ap (λ (s : Spot). s.index) e in
        let a : again.place ≡ spot.place = ap (λ (s : Spot). s.place) e in let f : again.from ≡ spot.place + size = ap (λ (s : Spot). s.from) e in (
          omega (arith, i, many, p.index_in),
          record {
            ordered = omega (arith, a, f);
            inside = omega (arith, f, is);
            old_fits = omega (arith, is, long, p.resumming.texts_room);
            new_fits = omega (arith, a, f, is, same, long, p.ordered, p.inside, p.old_fits);
            aside = omega (arith, f, is, wide, p.aside);
            few = omega (arith, same, p.few_old);
            short = omega (arith, is, p.short, p.few, p.ordered, p.inside);
          },
        )

pub renews_again : (held : Held) (spot : Spot) (text : Text) (lists : Lists) (lengths' texts' : List ℕ) (end : ℕ) → PutIn spot held.strings text lists.lengths lists.texts lengths' texts' end
    → (r : Reply Held) → Resums held end lists.boxes lists.borders lengths' texts' r
    → (saved lengths'' texts'' : List ℕ) (r'' : Reply Held) → saved ≡ take (spot.from - spot.place) (drop spot.place lists.texts) → (again : Spot) → again ≡ spot_up_to spot (length text)
    → TakenBack r again end saved lengths' texts' lengths'' texts'' r'' → length texts'' ≡ length lists.texts →
    Renews held spot text lists (lists_as lists.boxes lists.borders lengths'' texts'' lists.bytes) r''
renews_again held spot text lists lengths' texts' end p r sums saved lengths'' texts'' r'' kept again e back long =
    renews held spot text lists lengths' texts' end p r sums saved lengths'' texts'' r'' kept (subst (λ (s : Spot). TakenBack r s end saved lengths' texts' lengths'' texts'' r'') e back) long

-- what was kept of the old text is all of it
pub kept_room : (before after bytes : List ℕ) (next size : ℕ) → Stored before 0 bytes after next → length before ≡ 255 → size ≤ 255 → size ≤ length after
kept_room before after bytes next size s long few = omega (arith, stored_length s, long, few)

-- ---- what the checks leave
pub record Passed (held : Held) (rooms : Rooms) (out yard field : ℕ) (text : Text) (lengths : List ℕ) (spot : Spot) : Type 0 where
  pub stands : standing held rooms ≡ true
  pub there : (ltb yard held.yards && ltb field held.names) ≡ true
  pub text_good : is_text text ≡ true
  pub is : spot ≡ spot_in (text_at held.names yard field) lengths
  pub within' : within held (spot_in (text_at held.names yard field) lengths) ≡ true
  pub room : (leb held.strings out && long_enough rooms held.names held.yards held.front (size_with held (spot_in (text_at held.names yard field) lengths) (length text))) ≡ true

module _ (held : Held) (rooms : Rooms) (out yard field : ℕ) (text : Text) (lengths : List ℕ) where
  abbrev here : Spot
  here = spot_in (text_at held.names yard field) lengths

  passed : (spot : Spot) → given spot ≡ checked_of held rooms out yard field text lengths → Passed held rooms out yard field text lengths spot
  unfolding checked_of
  passed spot e = let room : Bool = leb held.strings out && long_enough rooms held.names held.yards held.front (size_with held here (length text)) in
      let last : Reply Spot = demand room (plain 28) >> given here in let in-it : Reply Spot = demand (within held here) (plain 28) >> last in
      let a = demanded {rest = demand (ltb yard held.yards && ltb field held.names) (plain 30) >> (demand (is_text text) (plain 26) >> in-it)} (standing held rooms) (plain 28) e in
      let b = demanded {rest = demand (is_text text) (plain 26) >> in-it} (ltb yard held.yards && ltb field held.names) (plain 30) a.1 in
      let c = demanded {rest = in-it} (is_text text) (plain 26) b.1 in let d = demanded {rest = last} (within held here) (plain 28) c.1 in
      let f = demanded {rest = given here} room (plain 28) d.1 in let onto = f.1 in let same : spot ≡ here = cc in
      record { stands = a.0; there = b.0; text_good = c.0; is = same; within' = d.0; room = f.0 }

  long_parts : (strings : ℕ) → long_enough rooms held.names held.yards held.front strings ≡ true
      → Own rooms held.names held.yards strings × (enough (work_in rooms) held.yards (held.names * held.yards) (strings - held.front) ≡ true)
  unfolding long_enough
  long_parts strings e =
      let two = both (own_enough rooms held.names held.yards strings) (enough (work_in rooms) held.yards (held.names * held.yards) (strings - held.front)) e in
      (own_parts rooms held.names held.yards strings two.0, two.1)

  putting_here : Passed held rooms out yard field text lengths here → Putting held here (length text) rooms.borders rooms.lengths
      rooms.texts out (work_in rooms)
  putting_here p = let s = stood held rooms p.stands in let w = within_parts held here p.within' in
      let t = both (ltb yard held.yards) (ltb field held.names) p.there in
      let r = both (leb held.strings out) (long_enough rooms held.names held.yards held.front (size_with held here (length text))) p.room in
      let l = long_parts (size_with held here (length text)) r.1 in record {
        index_in = omega (arith, s.own.lengths_all, index_inside held.names held.yards yard field (ltb-true yard held.yards t.0) (ltb-true field held.names t.1));
        ordered = spot_ordered (text_at held.names yard field) lengths here refl;
        inside = w.inside;
        few_old = w.few;
        short = w.short;
        old_fits = s.own.texts_room;
        aside = leb-true held.strings out r.0;
        few = text_short text p.text_good;
        resumming = record {
          few_names = s.few_names;
          few_yards = s.few_yards;
          front_first = omega (arith, w.behind_front);
          borders_room = s.own.borders_room;
          lengths_room = s.own.lengths_all;
          texts_room = l.0.texts_room;
          room = l.1;
        };
      }

  module _ (checked : Reply Spot) (e : checked ≡ checked_of held rooms out yard field text lengths) where
    pub may_put : (spot : Spot) → checked ≡ given spot → Putting held spot (length text) rooms.borders rooms.lengths rooms.texts out (work_in rooms)
    may_put spot at = let p = passed spot (sym at ∙ e) in
        subst (λ (s : Spot). Putting held s (length text) rooms.borders rooms.lengths rooms.texts out (work_in rooms)) (sym p.is)
        (putting_here (subst (Passed held rooms out yard field text lengths) p.is p))

    module _ (lists : Lists) (same : lists.lengths ≡ lengths) (boxes : rooms.boxes ≡ length lists.boxes) (borders : rooms.borders ≡ length lists.borders)
        (many : rooms.lengths ≡ length lists.lengths) (texts : rooms.texts ≡ length lists.texts) (bytes : rooms.bytes ≡ length lists.bytes) where
      agreed : (b : Builder) → Holds b held lists →
          (checked >>= λ s. fitting after_checks (summed (replaced b.plan yard field text) b.room)) ≡ replace b yard field text (space_for rooms out b.plan yard field text)
      agreed b h =
          ap (λ (r : Reply Spot). r >>= λ s. fitting after_checks (summed (replaced b.plan yard field text) b.room)) (e ∙ ap (checked_of held rooms out yard field text) (sym same))
          ∙ checked_as b held lists h rooms (holds_standing b held lists h rooms boxes borders many texts bytes) out yard field text

      pub replace_refused : (why : Refusal) → checked ≡ refused why → Replaces held rooms out yard field text lists lists (refused why)
      unfolding Answers
      replace_refused why is =
          record {
            answers = λ b h. (sym (agreed b h) ∙ ap (λ (x : Reply Spot). x >>= λ s. fitting after_checks (summed (replaced b.plan yard field text) b.room)) is, refl);
            fallen = λ f. (
              let known : ◌≡◌ {A = Reply Spot} (refused why) (refused (plain 28)) = sym is ∙ (e ∙ sym (fallen held rooms out yard field text lengths f)) in
                  let same_why : why ≡ plain 28 = cc in ap refused same_why,
              refl,
            );
          }

      pub replace_put : (spot : Spot) → checked ≡ given spot → (after : Lists) (r : Reply Held) → Renews held spot text lists after r → Replaces held rooms out yard field text lists after r
      unfolding Renews
      replace_put spot at after r renews = let p = passed spot (sym at ∙ e) in
          let t = both (ltb yard held.yards) (ltb field held.names) p.there in record {
            answers = λ b h.
                subst (λ (x : Reply Builder). Answers x lists after r)
                (ap (λ (x : Reply Spot). x >>= λ s. fitting after_checks (summed (replaced b.plan yard field text) b.room)) (sym at) ∙ agreed b h)
                (renews b yard field h (omega (arith, held_yards b held lists h, ltb-true yard held.yards t.0))
                (omega (arith, held_names b held lists h, ltb-true field held.names t.1)) p.text_good (p.is ∙ ap (spot_in (text_at held.names yard field)) (sym same)));
            fallen = λ f. let z : ◌≡◌ {A = ℕ} 0 1 = (let no_way : true ≡ false = sym p.stands ∙ f in cc) in absurd (omega arith);
          }
