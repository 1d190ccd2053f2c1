-- A builder's lists with a text in the place of a value, and as they were. Assumes nothing.
use Rattle.numbers.proofs.Prelude.{ℕ, ◌+◌, ◌-◌, ◌*◌, ◌<◌, leb, ℤ, pos, length, take, drop, get_or, set, length-set, Bool, true, false, List, ◌++◌, map, ◌≡◌, refl, sym, ap, subst, ◌∙◌, arith}
use Rattle.numbers.specs.{Reply.{Reply, given, refused, plain, demand, ◌>>◌}, declared.refusal.Refusal.{Refusal}}
use lib.Seq.{set-set, set-get_or}
use Rattle.builder.specs.{Borders.{Drawn}, File.{head_of, is_text, up_to}, Yards.{Text, Plan}}
use Rattle.draft.proofs.held.{Everyone.{length_changed}, Fronts.{front_one, front_part, front_set}, Kept.{replaced_data, replaced_sound}, Lying.{holds_other, lies_replaced}}
use Rattle.draft.proofs.held.{Standing.{held_names, held_yards, held_bytes, held_front, stands_more}, Texts.{replaced_lengths, replaced_strings, strings_around}}
use Rattle.draft.specs.Held.{Builder.{Builder, fitting, summed, with_value}, Sound.{Sound}, State.{Answers, Front, Holds, Lies, Lists, SameRooms, Stands, lists_as, texts_of}}
use Rattle.draft.specs.{Held.Totals.{Totals, data_of, file_size, totals_for, totals_of}, declared.held.state.Held.{Held}}
use Rattle.build.specs.Metadata.Kept.{joined}
use Rattle.edit.specs.{Replacing.Replaced.{replaced}, declared.replacing.check.Spot.{Spot}, inner.Replacing.Exchange.{Exchanged}}
use Rattle.edit.specs.inner.Replacing.{Replaced.{PutIn, Renews, Resums, after_checks, held_with, resummed, size_fits, spot_up_to, TakenBack}, Spot.{spot_in, text_at}}
use Rattle.draft.specs.Held.State as L
use Rattle.edit.proofs.replacing.Placed as P

-- ---- what is made of the sums
module _ (held : Held) (strings table metadata : ℕ) (greatest : ℤ) where
  pub resum_fits : size_fits held table metadata ≡ true → resummed held strings table metadata greatest ≡ given (held_with held strings table metadata greatest)
  unfolding resummed
  resum_fits e = rw e refl

  pub resum_long : size_fits held table metadata ≡ false → resummed held strings table metadata greatest ≡ refused (plain 28)
  unfolding resummed
  resum_long e = rw e refl

module _ (b : Builder) (held : Held) (lists : Lists) (h : Holds b held lists) (yard field : ℕ) (text : Text) (y : yard < length b.plan.yards) (f : field < length b.plan.names)
    (t : is_text text ≡ true) where
  abbrev plan : Plan
  plan = b.plan

  abbrev plan' : Plan
  plan' = replaced plan yard field text

  abbrev next : Builder
  next = summed plan' b.room

  abbrev spot : Spot
  spot = spot_in (text_at held.names yard field) lists.lengths

  abbrev before : List ℕ
  before = P.before b held lists h yard field text y f

  abbrev old : List ℕ
  old = P.old b held lists h yard field text y f

  abbrev behind : List ℕ
  behind = P.behind b held lists h yard field text y f

  place_is : spot.place ≡ length before
  place_is = P.place_is b held lists h yard field text y f

  from_is : spot.from ≡ length before + length old
  from_is = P.from_is b held lists h yard field text y f

  strings_is : held.strings ≡ length before + length old + length behind
  strings_is = P.strings_is b held lists h yard field text y f

  sound' : Sound plan' b.room
  sound' = replaced_sound plan b.room h.sound yard field text t

  same_data : data_of plan' ≡ data_of plan
  same_data = replaced_data plan b.room h.sound yard field text

  same_yards : held.yards ≡ length plan'.yards
  same_yards = held_yards b held lists h ∙ sym (length_changed (with_value field text) yard plan.yards)

  texts_were : Front 0 (before ++ (old ++ behind)) lists.texts
  texts_were = subst (λ (l : List ℕ). Front 0 l lists.texts) (strings_around plan b.room h.sound yard field text y f) h.lies.texts_are

  -- ---- the new text is put in
  module _ (lengths' texts' : List ℕ) (end : ℕ) (sized : lengths' ≡ set lists.lengths spot.index (length text))
      (put : Exchanged spot.place spot.from held.strings text lists.texts texts' end) where
    abbrev lists' : Lists
    lists' = lists_as lists.boxes lists.borders lengths' texts' lists.bytes

    end_is : end ≡ length (joined (texts_of plan'))
    end_is = omega (arith, put.end_is, place_is, from_is, strings_is, P.strings_new b held lists h yard field text y f)

    texts_are_now : Front 0 (before ++ (text ++ behind)) texts'
    texts_are_now = put.stands before old behind (sym place_is) (omega (arith, place_is, from_is)) (omega (arith, from_is, strings_is)) texts_were

    lengths_now : Front 0 (map length (texts_of plan')) lengths'
    lengths_now =
        subst (λ (l : List ℕ). Front 0 l lengths') (sym (replaced_lengths plan b.room h.sound yard field text y f))
        (subst (Front 0 (set (map length (texts_of plan)) (P.index b held lists h yard field text y f) (length text)))
        (ap (λ (i : ℕ). set lists.lengths i (length text)) (sym (P.index_is b held lists h yard field text y f)) ∙ sym sized)
        (front_set 0 h.lies.lengths_are (P.index b held lists h yard field text y f) (length text) (P.index_in b held lists h yard field text y f)))

    lies' : Lies plan' (data_of plan') lists'
    lies' =
        lies_replaced plan b.room h.sound yard field text lists lists' h.lies refl refl refl lengths_now
        (subst (λ (l : List ℕ). Front 0 l texts') (sym (replaced_strings plan b.room h.sound yard field text y f)) texts_are_now)

    -- the sums may be taken of it
    pub stands_now : (from to : ℕ) → from ≡ held.names + 1 → to ≡ held.names + 1 + held.names * held.yards → Stands plan'.yards (data_of plan')
        held.names held.yards lists.boxes lists.borders (take (to - from) (drop from lengths')) (take (end - held.front) (drop held.front texts'))
    stands_now from to ef et =
        stands_more plan' b.room sound' lists' lies' held.names held.yards from to held.front end (held_names b held lists h) same_yards ef et (held_front b held lists h) end_is

    -- ---- with its sums it is the builder of the definition
    abbrev sums : Totals
    sums = totals_for plan'.yards (data_of plan')

    same_bytes : held.bytes ≡ length (data_of plan').bytes
    same_bytes = held_bytes b held lists h ∙ ap (λ (d : Drawn). length d.bytes) (sym same_data)

    numbers_are : held_with held end sums.table sums.metadata sums.greatest ≡ L.held_with held end (totals_of plan')
    unfolding totals_of totals_for
    numbers_are =
        ap (λ (n : ℕ). L.held_with held end (record { table = sums.table; metadata = sums.metadata; bytes = n; yards = held.yards; greatest = sums.greatest })) same_bytes
        ∙ ap (λ (n : ℕ). L.held_with held end (record { table = sums.table; metadata = sums.metadata; bytes = sums.bytes; yards = n; greatest = sums.greatest })) same_yards

    abbrev fit : Bool
    fit = leb (file_size (length (head_of next.plan)) next.totals) (up_to next.room)

    fit_is : size_fits held sums.table sums.metadata ≡ fit
    unfolding size_fits summed totals_of totals_for file_size head_of
    fit_is =
        ap (λ (n : ℕ). leb (file_size held.head (record { table = sums.table; metadata = sums.metadata; bytes = n; yards = 0; greatest = pos 0 })) (up_to held.room)) same_bytes
        ∙ ap (λ (x : Held). leb (file_size x.head sums) (up_to x.room)) h.is

    holds_now : Holds next (held_with held end sums.table sums.metadata sums.greatest) lists'
    holds_now = subst (λ (x : Held). Holds next x lists') (sym numbers_are) (holds_other b held lists h end lists' plan'.yards end_is sound' lies')

    abbrev sum : Reply Held
    sum = resummed held end sums.table sums.metadata sums.greatest

    renewed : length texts' ≡ length lists.texts → (held' : Held) → given held' ≡ sum → Answers (fitting after_checks next) lists lists' (given held')
    unfolding Answers fitting
    renewed long held' e = go fit fit_is where
      rooms : SameRooms lists lists'
      rooms = record { boxes = refl; borders = refl; lengths = ap length sized ∙ length-set lists.lengths spot.index (length text); texts = long; bytes = refl }

      go : (fits : Bool) → size_fits held sums.table sums.metadata ≡ fits → Answers (demand fits (plain 28) >> given next) lists lists' (given held')
      go true s = let known = resum_fits held end sums.table sums.metadata sums.greatest s in
          let same : held_with held end sums.table sums.metadata sums.greatest ≡ held' = cc in
          (next, (refl, (subst (λ (x : Held). Holds next x lists') same holds_now, rooms)))
      go false s = let known = resum_long held end sums.table sums.metadata sums.greatest s in let z : ◌≡◌ {A = ℕ} 0 1 = cc in absurd (omega arith)

    -- ---- and the old text again
    module _ (saved lengths'' texts'' : List ℕ) (end'' : ℕ) (kept : saved ≡ take (spot.from - spot.place) (drop spot.place lists.texts))
        (sized'' : lengths'' ≡ set lengths' spot.index (length saved)) (put'' : Exchanged spot.place (spot.place + length text) end saved texts' texts'' end'') where
      saved_is : saved ≡ old
      saved_is = kept ∙ front_part 0 texts_were before old behind refl spot.place spot.from place_is from_is

      lengths_back : lengths'' ≡ lists.lengths
      lengths_back = let same : length saved ≡ get_or lists.lengths spot.index 0 = ap length saved_is ∙ sym (P.old_is b held lists h yard field text y f) in
          sized'' ∙ (ap (λ (l : List ℕ). set l spot.index (length saved)) sized ∙ (set-set lists.lengths spot.index (length text) (length saved)
          ∙ (ap (λ (n : ℕ). set lists.lengths spot.index n) same ∙ set-get_or lists.lengths spot.index 0)))

      texts_again : Front 0 (before ++ (old ++ behind)) texts''
      texts_again =
          subst (λ (l : List ℕ). Front 0 (before ++ (l ++ behind)) texts'') saved_is
          (put''.stands before text behind (sym place_is) refl (omega (arith, put.end_is, place_is, from_is, strings_is)) texts_are_now)

      texts_back : length texts'' ≡ length lists.texts → texts'' ≡ lists.texts
      texts_back long = front_one 0 texts_were texts_again long

      unchanged : length texts'' ≡ length lists.texts → (why : Refusal) → refused why ≡ sum →
          Answers (fitting after_checks next) lists (lists_as lists.boxes lists.borders lengths'' texts'' lists.bytes) (refused why)
      unfolding Answers fitting
      unchanged long why e = go fit fit_is where
        back : lists_as lists.boxes lists.borders lengths'' texts'' lists.bytes ≡ lists
        back =
            ap (λ (l : List ℕ). lists_as lists.boxes lists.borders l texts'' lists.bytes) lengths_back
            ∙ ap (λ (l : List ℕ). lists_as lists.boxes lists.borders lists.lengths l lists.bytes) (texts_back long)

        go : (fits : Bool) → size_fits held sums.table sums.metadata ≡ fits
            → Answers (demand fits (plain 28) >> given next) lists (lists_as lists.boxes lists.borders lengths'' texts'' lists.bytes) (refused why)
        go true s = let known = resum_fits held end sums.table sums.metadata sums.greatest s in let z : ◌≡◌ {A = ℕ} 0 1 = cc in absurd (omega arith)
        go false s = let known = resum_long held end sums.table sums.metadata sums.greatest s in let same : plain 28 ≡ why = cc in
            (ap (λ (w : Refusal). refused w) same, back)

-- ---- as the functions say it
module _ (held : Held) (spot : Spot) (text : Text) (lists : Lists) (lengths' texts' : List ℕ) (end : ℕ) (p : PutIn spot held.strings text lists.lengths lists.texts lengths' texts' end)
    (r : Reply Held) (sums : Resums held end lists.boxes lists.borders lengths' texts' r) where
  renews_into : length texts' ≡ length lists.texts → (held' : Held) → r ≡ given held' →
      Renews held spot text lists (lists_as lists.boxes lists.borders lengths' texts' lists.bytes) (given held')
  unfolding Renews Resums
  renews_into long held' into =
      λ b yard field h y f t e. let q : PutIn (spot_in (text_at held.names yard field) lists.lengths) held.strings text lists.lengths lists.texts
      lengths' texts' end = subst (λ (s : Spot). PutIn s held.strings text lists.lengths lists.texts lengths' texts' end) e p in renewed b held lists
      h yard field text y f t lengths' texts' end q.sized q.put long held' (sym into ∙ sums (replaced b.plan yard field text).yards
      (data_of (replaced b.plan yard field text)) (stands_now b held lists h yard field text y f t lengths' texts' end q.sized q.put (held.names + 1)
      (held.names + 1 + held.names * held.yards) refl refl))

  renews_refused : (saved lengths'' texts'' : List ℕ) (end'' : ℕ) → saved ≡ take (spot.from - spot.place) (drop spot.place lists.texts)
      → PutIn (spot_up_to spot (length text)) end saved lengths' texts' lengths'' texts'' end'' → length texts'' ≡ length lists.texts → (why : Refusal)
      → r ≡ refused why → Renews held spot text lists (lists_as lists.boxes lists.borders lengths'' texts'' lists.bytes) (refused why)
  unfolding Renews Resums
  renews_refused saved lengths'' texts'' end'' kept again long why stays =
      λ b yard field h y f t e. let here : Spot = spot_in (text_at held.names yard field) lists.lengths in let q : PutIn here held.strings text
      lists.lengths lists.texts lengths' texts' end = subst (λ (s : Spot). PutIn s held.strings text lists.lengths lists.texts lengths' texts' end) e p in
      let k : saved ≡ take (here.from - here.place) (drop here.place lists.texts) = subst (λ (s : Spot). saved ≡ take (s.from - s.place)
      (drop s.place lists.texts)) e kept in let a : PutIn (spot_up_to here (length text)) end saved lengths' texts' lengths'' texts'' end'' = subst
      (λ (s : Spot). PutIn (spot_up_to s (length text)) end saved lengths' texts' lengths'' texts'' end'') e again in unchanged b held lists h yard field text y f t
      lengths' texts' end q.sized q.put saved lengths'' texts'' end'' k a.sized a.put long why (sym stays ∙ sums (replaced b.plan yard field text).yards
      (data_of (replaced b.plan yard field text)) (stands_now b held lists h yard field text y f t lengths' texts' end q.sized q.put (held.names + 1)
      (held.names + 1 + held.names * held.yards) refl refl))

-- what was refused is taken back
pub renews : (held : Held) (spot : Spot) (text : Text) (lists : Lists) (lengths' texts' : List ℕ) (end : ℕ) → PutIn spot held.strings text lists.lengths
    lists.texts lengths' texts' end → (r : Reply Held) → Resums held end lists.boxes lists.borders lengths' texts' r → (saved lengths'' texts'' : List ℕ) (r'' : Reply Held)
    → saved ≡ take (spot.from - spot.place) (drop spot.place lists.texts) → TakenBack r (spot_up_to spot (length text)) end saved lengths' texts' lengths'' texts'' r''
    → length texts'' ≡ length lists.texts → Renews held spot text lists (lists_as lists.boxes lists.borders lengths'' texts'' lists.bytes) r''
unfolding TakenBack
renews held spot text lists lengths' texts' end p (given held') sums saved lengths'' texts'' r'' kept back long = let lengths_same = back.1.0 in
    let texts_same = back.1.1 in
    subst (λ (x : Reply Held). Renews held spot text lists (lists_as lists.boxes lists.borders lengths'' texts'' lists.bytes) x) (sym back.0)
    (subst (λ (l : List ℕ). Renews held spot text lists (lists_as lists.boxes lists.borders l texts'' lists.bytes) (given held')) (sym lengths_same)
    (subst (λ (l : List ℕ). Renews held spot text lists (lists_as lists.boxes lists.borders lengths' l lists.bytes) (given held')) (sym texts_same)
    (renews_into held spot text lists lengths' texts' end p (given held') sums (sym (ap length texts_same) ∙ long) held' refl)))
renews held spot text lists lengths' texts' end p (refused why) sums saved lengths'' texts'' r'' kept back long =
    subst (λ (x : Reply Held). Renews held spot text lists (lists_as lists.boxes lists.borders lengths'' texts'' lists.bytes) x) (sym back.0)
    (renews_refused held spot text lists lengths' texts' end p (refused why) sums saved lengths'' texts'' back.1.0 kept back.1.1 long why refl)
