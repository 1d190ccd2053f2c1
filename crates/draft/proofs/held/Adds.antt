-- An add is refused exactly as building the yards held and the new one would be, where the data held fits the room that is lent for it. Assumes nothing.
use Rattle.numbers.proofs.Prelude.{ℕ, ◌+◌, ◌≤◌, ◌<◌, min, lt-ltb, le-leb, ltb-true, lt-leb, eqb-true, ltb-false, eqb, ltb, leb, length, Bool, true, false, ◌&&◌, List, [], ◌∷◌, ◌≡◌, refl, sym, ap}
use Rattle.numbers.{proofs.{Prelude.{◌∙◌, arith}, Replies.{demanded, looked}, Tests.{both}}, specs.Reply.{Reply, given, refused, plain, demand, ◌>>=◌, ◌>>◌}}
use Rattle.writer.specs.Writer.{checks}
use Rattle.builder.specs.{Borders.{Drawn, with_border, drawn_of}, File.{are_texts, borders_good, built_of, counted, file_of, head_of, known, readable, up_to}, Yards.{Plan}}
use Rattle.draft.proofs.held.{Kept.{borders_all, joined_data, joined_sound, known_more, readable_more}, Redrawn.{drawn_with, drawn_more, drawn_same, sound_draws}, Sums.{size_is}}
use Rattle.draft.proofs.held.Texts.{joined_yards}
use Rattle.draft.specs.Held.{Builder.{Builder, Offered, yard_of, joined, summed, fitting, add}, Sound.{Sound, room_for}, Space.{Space}, Totals.{data_of, totals_of, totals_for, file_size}}

one_more : (n : ℕ) → leb (n + 1) 4096 ≡ ltb n 4096
one_more n = go (ltb n 4096) refl where
  go : (b : Bool) → ltb n 4096 ≡ b → leb (n + 1) 4096 ≡ b
  go true e = le-leb (n + 1) 4096 (omega (arith, ltb-true n 4096 e))
  go false e = lt-leb (n + 1) 4096 (omega (arith, ltb-false n 4096 e))

module _ (plan : Plan) (room : ℕ) (sound : Sound plan room) (o : Offered) where
  counted_more : counted (joined plan o) ≡ (ltb (length plan.yards) 4096 && eqb (length plan.names) (length o.lengths))
  unfolding counted joined
  counted_more = let n : ℕ = length (joined plan o).yards in let long : n ≡ length plan.yards + 1 = joined_yards plan o in
      let same : Bool = eqb (length plan.names) (length o.lengths) in
      ap (λ (b : Bool). b && (leb n 4096 && (leb (length plan.names) 255 && (plan.numbered && same)))) (lt-ltb 0 n (omega (arith, long)))
      ∙ (ap (λ (b : Bool). b && (leb (length plan.names) 255 && (plan.numbered && same))) (ap (λ (k : ℕ). leb k 4096) long ∙ one_more (length plan.yards))
      ∙ (ap (λ (b : Bool). ltb (length plan.yards) 4096 && (b && (plan.numbered && same))) sound.named ∙ ap (λ (b : Bool). ltb (length plan.yards) 4096 && (b && same)) sound.numbered))

  -- the room for the data is the lesser of the file's and the list's; the data held is in both
  module _ (space : Space) (inside : length (data_of plan).bytes ≤ space.bytes) where
    abbrev wide : ℕ
    wide = up_to (min room space.bytes)

    abbrev border : Reply (List ℕ)
    border = with_border plan.version wide (data_of plan).bytes (yard_of o)

    drawn_all : drawn_of (joined plan o).version wide (joined plan o).yards ≡ (border >>= λ more. given (drawn_with (data_of plan) more))
    unfolding drawn_of joined
    drawn_all =
        drawn_more plan.version wide (0 ∷ []) plan.yards (yard_of o) (data_of plan)
        (sym (drawn_same plan.version (up_to room) wide (0 ∷ []) plan.yards (data_of plan) (sound_draws plan room sound) (λ fits. omega (arith, fits, inside))))

    -- what fits is asked of the totals, or of the file
    fits_as : (more : List ℕ) → border ≡ given more → (space.lists && leb (file_size (length (head_of (joined plan o))) (totals_of (joined plan o)))
        (up_to room)) ≡ (space.lists && leb (length (file_of (joined plan o) (drawn_with (data_of plan) more))) (up_to room))
    unfolding totals_of
    fits_as more e = let all : Plan = joined plan o in
        ap (λ (n : ℕ). space.lists && leb n (up_to room))
        (ap (λ (x : Drawn). file_size (length (head_of all)) (totals_for all.yards x)) (joined_data plan room sound o wide (omega arith) more e) ∙ size_is all (drawn_with (data_of plan) more))

-- ---- the two side by side
ends_as : (fit : Bool) (next : Builder) (file : List ℕ) → (demand fit (plain 28) >> given next) ≡ ((demand fit (plain 28) >> given file) >>= λ f. given next)
ends_as true next file = refl
ends_as false next file = refl

-- a build, from what its steps say
abbrev stepped : (Drawn → Bool) → (Drawn → List ℕ) → Builder → Reply (Unit {0}) → Bool → Bool → Bool → Reply Drawn → Reply Builder
stepped fits file next good a b k drawn =
    (good >> (demand a (plain 25) >> (demand b (plain 26) >> (demand k (plain 27) >> (drawn >>= λ d. (demand (fits d) (plain 28) >> given (file d))))))) >>= λ f. given next

compared : (fits : Drawn → Bool) (file : Drawn → List ℕ) (next : Builder) (c : Reply (Unit {0})) (a b fit : Bool) (w : Reply (List ℕ)) (drawn : List ℕ → Drawn) →
    ((more : List ℕ) → w ≡ given more → fit ≡ fits (drawn more))
    → (c >> (demand a (plain 25) >> (demand b (plain 26) >> (w >> (demand fit (plain 28) >> given next))))) ≡ stepped fits file next (c >> given tt) a b true (w >>= λ more. given (drawn more))
compared fits file next (refused why) a b fit w drawn h = refl
compared fits file next (given u) false b fit w drawn h = refl
compared fits file next (given u) true false fit w drawn h = refl
compared fits file next (given u) true true fit (refused why) drawn h = refl
compared fits file next (given u) true true fit (given more) drawn h = ap (λ (x : Bool). demand x (plain 28) >> given next) (h more refl) ∙ ends_as (fits (drawn more)) next (file (drawn more))

module _ (b : Builder) (sound : Sound b.plan b.room) (o : Offered) (space : Space) where
  abbrev all : Plan
  all = joined b.plan o

  abbrev grown : Builder
  grown = summed all b.room

  abbrev fits : Drawn → Bool
  fits d = space.lists && leb (length (file_of all d)) (up_to b.room)

  abbrev shape : Reply (Unit {0}) → Bool → Bool → Bool → Reply Drawn → Reply Builder
  shape = stepped fits (file_of all) grown

  built_steps : (built_of all (room_for b.room space) >>= λ file. given grown)
      ≡ shape (borders_good all.yards) (counted all) (readable all) (known all) (drawn_of all.version (up_to (min b.room space.bytes)) all.yards)
  unfolding built_of
  built_steps = refl

  -- An add gives the builder with the yard, or is refused, exactly as building the yards held and the new one is answered or refused, where the data held fits the room lent.
  pub add_refuses_as_build : length (data_of b.plan).bytes ≤ space.bytes →
      add b o space ≡ (built_of (joined b.plan o) (room_for b.room space) >>= λ file. given (summed (joined b.plan o) b.room))
  unfolding add fitting summed
  add_refuses_as_build inside = let plan : Plan = b.plan in let room : ℕ = b.room in let c : Reply (Unit {0}) = checks 0 o.lats o.lons [] in
      let x : Bool = ltb (length plan.yards) 4096 && eqb (length plan.names) (length o.lengths) in let y : Bool = are_texts o.lengths o.texts in
      let fit : Bool = space.lists && leb (file_size (length (head_of all)) (totals_of all)) (up_to room) in
      let w : Reply (List ℕ) = border plan room sound o space inside in
      let d : Reply Drawn = drawn_of all.version (up_to (min room space.bytes)) all.yards in
      compared fits (file_of all) grown c x y fit w (drawn_with (data_of plan)) (fits_as plan room sound o space inside) ∙ sym (built_steps
      ∙ (ap (λ (z : Reply (Unit {0})). shape z (counted all) (readable all) (known all) d) (borders_all plan room sound o)
      ∙ (ap (λ (z : Bool). shape (c >> given tt) z (readable all) (known all) d) (counted_more plan room sound o)
      ∙ (ap (λ (z : Bool). shape (c >> given tt) x z (known all) d) (readable_more plan room sound o) ∙ (ap (λ (z : Bool). shape (c >> given tt) x y z d)
      (known_more plan room sound o) ∙ ap (λ (z : Reply Drawn). shape (c >> given tt) x y true z) (drawn_all plan room sound o space inside))))))

-- ---- what an add that is answered has checked
pub record Added (b : Builder) (o : Offered) (space : Space) (next : Builder) : Type 0 where
  pub points : checks 0 o.lats o.lons [] ≡ given tt
  pub few : length b.plan.yards < 4096
  pub valued : length b.plan.names ≡ length o.lengths
  pub texts : are_texts o.lengths o.texts ≡ true
  pub more : List ℕ
  pub border : with_border b.plan.version (up_to (min b.room space.bytes)) (data_of b.plan).bytes (yard_of o) ≡ given more
  pub fits : (space.lists && leb (file_size (length (head_of (joined b.plan o))) (totals_of (joined b.plan o))) (up_to b.room)) ≡ true
  pub is : next ≡ summed (joined b.plan o) b.room

past_border : {next : Builder} (w : Reply (List ℕ)) (rest : Reply Builder) → given next ≡ (w >> rest) → (more : List ℕ) × ((w ≡ given more) × (given next ≡ rest))
past_border (given more) rest e = (more, (refl, e))
past_border (refused why) rest e = let z : ◌≡◌ {A = ℕ} 0 1 = cc in absurd (omega arith)

pub add_given : (b : Builder) (o : Offered) (space : Space) (next : Builder) → add b o space ≡ given next → Added b o space next
unfolding add fitting summed
add_given b o space next e = let n : ℕ = length b.plan.yards in let one = looked (checks 0 o.lats o.lons []) _ (sym e) in
    let two = demanded (ltb n 4096 && eqb (length b.plan.names) (length o.lengths)) (plain 25) one.1 in
    let three = demanded (are_texts o.lengths o.texts) (plain 26) two.1 in
    let four = past_border (with_border b.plan.version (up_to (min b.room space.bytes)) (data_of b.plan).bytes (yard_of o)) (fitting space
    (summed (joined b.plan o) b.room)) three.1 in
    let five = demanded (space.lists && leb (file_size (length (head_of (joined b.plan o))) (totals_of (joined b.plan o))) (up_to b.room)) (plain 28) four.1.1 in
    let last = five.1 in let counts = both (ltb n 4096) (eqb (length b.plan.names) (length o.lengths)) two.0 in record {
      points = one.0;
      few = ltb-true n 4096 counts.0;
      valued = eqb-true (length b.plan.names) (length o.lengths) counts.1;
      texts = three.0;
      more = four.0;
      border = four.1.0;
      fits = five.0;
      is = cc;
    }

pub added_sound : (b : Builder) → Sound b.plan b.room → (o : Offered) (space : Space) (next : Builder) → Added b o space next → Sound (joined b.plan o) b.room
added_sound b sound o space next a =
    joined_sound b.plan b.room sound o (up_to (min b.room space.bytes)) (omega arith) a.more a.border a.points a.few a.valued a.texts
