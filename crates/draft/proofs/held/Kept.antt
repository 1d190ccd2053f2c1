-- What each call leaves of a sound plan: it stays sound, and its data section is the old one, longer, cut or the same. Assumes nothing.
use Rattle.numbers.proofs.Prelude.{ℕ, zero, suc, ◌≤◌, ◌<◌, eq-eqb, eqb, leb, length, take, length-append, length-take, Bool, true, ◌&&◌, List, [], ◌∷◌, ◌++◌, ◌≡◌, refl, sym, ap, ◌∙◌, arith}
use Rattle.numbers.{proofs.Replies.{looked}, specs.Reply.{Reply, given, refused, ◌>>=◌, ◌>>◌}}
use Rattle.builder.{proofs.Counting.{cut_many}, specs.{Borders.{Drawn, with_border, drawn_from, drawn_of}, File.{are_texts, borders_good, is_text, known, readable, up_to}}}
use Rattle.builder.specs.Yards.{Text, Plan, Yard, cut_by, sum_of}
use Rattle.writer.specs.Writer.{every, checks}
use Rattle.draft.proofs.held.Everyone.{length_changed, every_more, every_take, every_changed}
use Rattle.draft.proofs.held.{Redrawn.{placed, drawn_with, drawn_to, border_fits, border_same, drawn_more, drawn_take, data_is, sound_draws}, Standing.{readable_parts}}
use Rattle.draft.specs.Held.{Builder.{Offered, holding, joined, yard_of, changed_at, with_value}, Sound.{Sound}, Totals.{data_of}}

-- ---- 19 to 22
pub borders_more : (ys : List Yard) (y : Yard) → borders_good ys ≡ given tt → borders_good (ys ++ (y ∷ [])) ≡ (checks 0 y.lats y.lons [] >> given tt)
unfolding borders_good
borders_more [] y e = refl
borders_more (x ∷ ys) y e = let two = looked (checks 0 x.lats x.lons []) (borders_good ys) (sym e) in
    ap (λ (c : Reply (Unit {0})). c >> borders_good (ys ++ (y ∷ []))) two.0 ∙ borders_more ys y (sym two.1)

borders_take : (n : ℕ) (ys : List Yard) → borders_good ys ≡ given tt → borders_good (take n ys) ≡ given tt
unfolding borders_good
borders_take zero ys e = refl
borders_take (suc n) [] e = refl
borders_take (suc n) (y ∷ ys) e = let two = looked (checks 0 y.lats y.lons []) (borders_good ys) (sym e) in
    ap (λ (c : Reply (Unit {0})). c >> borders_good (take n ys)) two.0 ∙ borders_take n ys (sym two.1)

borders_changed : (field : ℕ) (text : Text) (n : ℕ) (ys : List Yard) → borders_good (changed_at n (with_value field text) ys) ≡ borders_good ys
unfolding borders_good changed_at
borders_changed field text n [] = refl
borders_changed field text zero (y ∷ ys) = refl
borders_changed field text (suc n) (y ∷ ys) = ap (λ (r : Reply (Unit {0})). checks 0 y.lats y.lons [] >> r) (borders_changed field text n ys)

-- ---- a value is no part of the data
drawn_changed : (version room field : ℕ) (text : Text) (sofar : List ℕ) (n : ℕ) (ys : List Yard) →
    drawn_from version room sofar (changed_at n (with_value field text) ys) ≡ drawn_from version room sofar ys
unfolding drawn_from changed_at with_border
drawn_changed version room field text sofar n [] = refl
drawn_changed version room field text sofar zero (y ∷ ys) = refl
drawn_changed version room field text sofar (suc n) (y ∷ ys) = go (with_border version room sofar y) (λ more. drawn_changed version room field text more n ys) where
  go : (r : Reply (List ℕ)) → ((more : List ℕ) → drawn_from version room more (changed_at n (with_value field text) ys) ≡ drawn_from version room more ys)
      → (r >>= λ more. (drawn_from version room more (changed_at n (with_value field text) ys) >>= placed (length sofar))) ≡ (r >>= λ more. (drawn_from version room more ys >>= placed (length sofar)))
  go (given more) k = ap (λ (r : Reply Drawn). r >>= placed (length sofar)) (k more)
  go (refused why) k = refl

abbrev readable_yard : Yard → Bool
readable_yard y = every is_text y.values

-- ---- the same plan with other yards
module _ (plan : Plan) (room : ℕ) (sound : Sound plan room) where
  abbrev valued_yard : Yard → Bool
  valued_yard y = eqb (length plan.names) (length y.values)

  readable_with : (yards : List Yard) → every readable_yard yards ≡ true → readable (holding plan yards) ≡ true
  unfolding readable
  readable_with yards e = let parts = readable_parts plan sound.texts in
      ap (λ (b : Bool). b && (every is_text plan.names && (is_text plan.notice && every readable_yard yards))) parts.0
      ∙ (ap (λ (b : Bool). b && (is_text plan.notice && every readable_yard yards)) parts.1.0 ∙ (ap (λ (b : Bool). b && every readable_yard yards) parts.1.1.0 ∙ e))

  known_with : (yards : List Yard) → known (holding plan yards) ≡ true
  unfolding known
  known_with yards = sound.form

  with_yards : (yards : List Yard) → borders_good yards ≡ given tt → length yards ≤ 4096 → every valued_yard yards ≡ true → every readable_yard yards ≡ true
      → (d : Drawn) → drawn_of plan.version (up_to room) yards ≡ given d → Sound (holding plan yards) room
  with_yards yards good few valued texts d draws =
      record { borders = good; few = few; named = sound.named; numbered = sound.numbered; valued = valued; texts = readable_with yards texts; form = known_with yards; drawn = d; draws = draws }

  -- ---- none
  none_drawn : drawn_of plan.version (up_to room) [] ≡ given (record { bytes = 0 ∷ []; places = [] })
  unfolding drawn_of drawn_from
  none_drawn = refl

  pub cleared_sound : Sound (holding plan []) room
  unfolding borders_good every
  cleared_sound = with_yards [] refl (omega arith) refl refl (record { bytes = 0 ∷ []; places = [] }) none_drawn

  -- ---- the first so many
  module _ (n : ℕ) (h : n < length plan.yards) where
    fewer_drawn : drawn_of plan.version (up_to room) (take n plan.yards) ≡ given (drawn_to (data_of plan) n)
    unfolding drawn_of
    fewer_drawn = drawn_take plan.version (up_to room) (0 ∷ []) plan.yards (data_of plan) (sound_draws plan room sound) n h

    pub dropped_sound : Sound (holding plan (take n plan.yards)) room
    dropped_sound =
        with_yards (take n plan.yards) (borders_take n plan.yards sound.borders) (omega (arith, length-take n plan.yards, sound.few))
        (every_take valued_yard n plan.yards sound.valued) (every_take readable_yard n plan.yards (readable_parts plan sound.texts).1.1.1) (drawn_to (data_of plan) n) fewer_drawn

    -- the data up to where the next border begins, and the places before that
    pub dropped_data : data_of (holding plan (take n plan.yards)) ≡ drawn_to (data_of plan) n
    dropped_data = data_is (holding plan (take n plan.yards)) (up_to room) (omega arith) (drawn_to (data_of plan) n) fewer_drawn

  -- ---- one value another
  module _ (yard field : ℕ) (text : Text) where
    abbrev others : List Yard
    others = changed_at yard (with_value field text) plan.yards

    same_drawn : drawn_of plan.version (up_to room) others ≡ given (data_of plan)
    unfolding drawn_of
    same_drawn = drawn_changed plan.version (up_to room) field text (0 ∷ []) yard plan.yards ∙ sym (sound_draws plan room sound)

    still_valued : (y : Yard) → valued_yard y ≡ true → valued_yard (with_value field text y) ≡ true
    still_valued y h = ap (eqb (length plan.names)) (length_changed (λ (old : Text). text) field y.values) ∙ h

    pub replaced_sound : is_text text ≡ true → Sound (holding plan others) room
    replaced_sound e =
        with_yards others (borders_changed field text yard plan.yards ∙ sound.borders) (omega (arith, length_changed (with_value field text) yard plan.yards, sound.few))
        (every_changed valued_yard (with_value field text) still_valued yard plan.yards sound.valued) (every_changed readable_yard (with_value field text)
        (λ y h. every_changed is_text (λ old. text) (λ old k. e) field y.values h) yard plan.yards (readable_parts plan sound.texts).1.1.1) (data_of plan) same_drawn

    pub replaced_data : data_of (holding plan others) ≡ data_of plan
    replaced_data = data_is (holding plan others) (up_to room) (omega arith) (data_of plan) same_drawn

-- ---- one more
module _ (plan : Plan) (room : ℕ) (sound : Sound plan room) (o : Offered) where
  pub readable_more : readable (joined plan o) ≡ are_texts o.lengths o.texts
  unfolding readable joined are_texts
  readable_more = let here : Bool = leb (sum_of o.lengths) (length o.texts) in let parts = readable_parts plan sound.texts in
      let last : Bool = every readable_yard (plan.yards ++ (yard_of o ∷ [])) in
      ap (λ (b : Bool). (b && here) && (every is_text plan.names && (is_text plan.notice && last))) parts.0
      ∙ (ap (λ (b : Bool). here && (b && (is_text plan.notice && last))) parts.1.0 ∙ (ap (λ (b : Bool). here && (b && last)) parts.1.1.0
      ∙ ap (λ (b : Bool). here && b) (every_more readable_yard plan.yards (yard_of o) parts.1.1.1)))

  pub known_more : known (joined plan o) ≡ true
  unfolding known joined
  known_more = sound.form

  pub borders_all : borders_good (joined plan o).yards ≡ (checks 0 o.lats o.lons [] >> given tt)
  unfolding joined
  borders_all = borders_more plan.yards (yard_of o) sound.borders

  named_more : leb (length (joined plan o).names) 255 ≡ true
  unfolding joined
  named_more = sound.named

  few_more : length plan.yards < 4096 → length (joined plan o).yards ≤ 4096
  unfolding joined
  few_more h = omega (arith, h, length-append plan.yards (yard_of o ∷ []))

  module _ (valued : length plan.names ≡ length o.lengths) where
    numbered_more : (joined plan o).numbered ≡ true
    unfolding joined
    numbered_more = ap (λ (b : Bool). b && eqb (length plan.names) (length o.lengths)) sound.numbered ∙ eq-eqb (length plan.names) (length o.lengths) valued

    valued_more : every (λ y. eqb (length (joined plan o).names) (length y.values)) (joined plan o).yards ≡ true
    unfolding joined
    valued_more =
        every_more (λ (y : Yard). eqb (length plan.names) (length y.values)) plan.yards (yard_of o) sound.valued
        ∙ eq-eqb (length plan.names) (length (cut_by o.lengths o.texts)) (valued ∙ sym (cut_many o.lengths o.texts))

  -- the data with the new border, in a room that is no wider than the file's
  module _ (wide : ℕ) (narrow : wide ≤ up_to room) (more : List ℕ) (border : with_border plan.version wide (data_of plan).bytes (yard_of o) ≡ given more) where
    more_drawn : drawn_of (joined plan o).version (up_to room) (joined plan o).yards ≡ given (drawn_with (data_of plan) more)
    unfolding drawn_of joined
    more_drawn = let fits : length more ≤ wide = border_fits plan.version wide (data_of plan).bytes (yard_of o) more (sym border) in
        drawn_more plan.version (up_to room) (0 ∷ []) plan.yards (yard_of o) (data_of plan) (sound_draws plan room sound)
        ∙ ap (λ (w : Reply (List ℕ)). w >>= λ more. given (drawn_with (data_of plan) more))
        (border_same plan.version wide (data_of plan).bytes (yard_of o) more (sym border) (up_to room) (omega (arith, fits, narrow)))

    pub joined_data : data_of (joined plan o) ≡ drawn_with (data_of plan) more
    joined_data = data_is (joined plan o) (up_to room) (omega arith) (drawn_with (data_of plan) more) more_drawn

    -- by the checks of an add
    pub joined_sound : checks 0 o.lats o.lons [] ≡ given tt → length plan.yards < 4096 → length plan.names ≡ length o.lengths → are_texts o.lengths o.texts ≡ true →
        Sound (joined plan o) room
    joined_sound good few valued texts =
        record {
          borders = borders_all ∙ ap (λ (c : Reply (Unit {0})). c >> given tt) good;
          few = few_more few;
          named = named_more;
          numbered = numbered_more valued;
          valued = valued_more valued;
          texts = readable_more ∙ texts;
          form = known_more;
          drawn = drawn_with (data_of plan) more;
          draws = more_drawn;
        }
