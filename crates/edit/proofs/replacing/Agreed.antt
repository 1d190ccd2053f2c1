-- The checks agree with the definition. Assumes nothing.
use Rattle.numbers.{proofs.{Prelude.{ℕ, ◌<◌, ltb-true, ltb, leb, length, Bool, true, false, ◌&&◌, ◌≡◌, refl, ap, ◌∙◌}, Tests.{both}}, specs.Reply.{given, plain, demand, ◌>>=◌, ◌>>◌}}
use Rattle.builder.specs.{File.{head_of, is_text, up_to}, Yards.{Text, Plan}}
use Rattle.draft.{proofs.held.Standing.{held_names, held_yards, held_front, held_strings}, specs.Held.{Builder.{Builder, fitting, replace, summed}, Space.{long_enough, standing}}}
use Rattle.draft.specs.{Held.{State.{Holds, Lists, texts_of}, Totals.{file_size}}, declared.held.{room.Rooms.{Rooms}, state.Held.{Held}}}
use Rattle.build.specs.Metadata.Kept.{joined}
use Rattle.edit.proofs.replacing.Placed.{value_within, size_new}
use Rattle.edit.specs.{Replacing.Replaced.{replaced, space_for}, declared.replacing.check.Spot.{Spot}, inner.Replacing.Replaced.{after_checks}}
use Rattle.edit.specs.inner.Replacing.Spot.{text_at, spot_in, within, size_with, checked_of}

compared : (a t w l m fit : Bool) (spot : Spot) (next : Builder) → (a ≡ true → w ≡ true) → (a ≡ true → m ≡ l)
    → ((demand a (plain 30) >> (demand t (plain 26) >> (demand w (plain 28) >> (demand m (plain 28) >> given spot)))) >>= λ s. (demand (true && fit) (plain 28) >> given next))
    ≡ (demand a (plain 30) >> (demand t (plain 26) >> (demand (l && fit) (plain 28) >> given next)))
compared false t w l m fit spot next hw hm = refl
compared true false w l m fit spot next hw hm = refl
compared true true w l m fit spot next hw hm =
    ap (λ (w : Bool). (demand w (plain 28) >> (demand m (plain 28) >> given spot)) >>= λ s. (demand (true && fit) (plain 28) >> given next)) (hw refl)
    ∙ (ap (λ (m : Bool). (demand m (plain 28) >> given spot) >>= λ s. (demand (true && fit) (plain 28) >> given next)) (hm refl) ∙ go l) where
      go : (l : Bool) → ((demand l (plain 28) >> given spot) >>= λ s. (demand (true && fit) (plain 28) >> given next)) ≡ (demand (l && fit) (plain 28) >> given next)
      go true = refl
      go false = refl

module _ (b : Builder) (held : Held) (lists : Lists) (h : Holds b held lists) (rooms : Rooms) (stands : standing held rooms ≡ true) (out yard field : ℕ) (text : Text) where
  abbrev plan : Plan
  plan = b.plan

  abbrev next : Builder
  next = summed (replaced plan yard field text) b.room

  abbrev spot : Spot
  spot = spot_in (text_at held.names yard field) lists.lengths

  abbrev there : Bool
  there = ltb yard (length plan.yards) && ltb field (length plan.names)

  inside : there ≡ true → (yard < length plan.yards) × (field < length plan.names)
  inside e = let two = both (ltb yard (length plan.yards)) (ltb field (length plan.names)) e in
      (ltb-true yard (length plan.yards) two.0, ltb-true field (length plan.names) two.1)

  same_there : (ltb yard held.yards && ltb field held.names) ≡ there
  same_there = ap (λ (n : ℕ). ltb yard n && ltb field held.names) (held_yards b held lists h) ∙ ap (λ (n : ℕ). ltb yard (length plan.yards) && ltb field n) (held_names b held lists h)

  same_room : there ≡ true → (leb held.strings out && long_enough rooms held.names held.yards held.front (size_with held spot (length text))) ≡
      (space_for rooms out plan yard field text).lists
  unfolding space_for
  same_room e = let two = inside e in
      ap (λ (n : ℕ). leb n out && long_enough rooms held.names held.yards held.front (size_with held spot (length text))) (held_strings b held lists h)
      ∙ (ap (λ (n : ℕ). leb (length (joined (texts_of plan))) out && long_enough rooms held.names held.yards held.front n) (size_new b held lists h yard
      field text two.0 two.1) ∙ (ap (λ (n : ℕ). leb (length (joined (texts_of plan))) out && long_enough rooms n held.yards held.front
      (length (joined (texts_of (replaced plan yard field text))))) (held_names b held lists h) ∙ (ap (λ (n : ℕ). leb (length (joined (texts_of plan))) out &&
      long_enough rooms (length plan.names) n held.front (length (joined (texts_of (replaced plan yard field text))))) (held_yards b held lists h)
      ∙ ap (λ (n : ℕ). leb (length (joined (texts_of plan))) out && long_enough rooms (length plan.names) (length plan.yards) n
      (length (joined (texts_of (replaced plan yard field text))))) (held_front b held lists h))))

  pub checked_as : (checked_of held rooms out yard field text lists.lengths >>= λ s. fitting after_checks next) ≡ replace b yard field text (space_for rooms out plan yard field text)
  unfolding checked_of replace fitting
  checked_as = let fit : Bool = leb (file_size (length (head_of next.plan)) next.totals) (up_to next.room) in let w : Bool = within held spot in
      let m : Bool = leb held.strings out && long_enough rooms held.names held.yards held.front (size_with held spot (length text)) in
      ap (λ (t : Bool). (demand t (plain 28) >> (demand (ltb yard held.yards && ltb field held.names) (plain 30) >> (demand (is_text text) (plain 26) >>
      (demand w (plain 28) >> (demand m (plain 28) >> given spot))))) >>= λ s. (demand (true && fit) (plain 28) >> given next)) stands
      ∙ (ap (λ (a : Bool). (demand a (plain 30) >> (demand (is_text text) (plain 26) >> (demand w (plain 28) >> (demand m (plain 28) >> given spot)))) >>= λ s.
      (demand (true && fit) (plain 28) >> given next)) same_there ∙ compared there (is_text text) w (space_for rooms out plan yard field text).lists m fit spot
      next (λ e. value_within b held lists h yard field text (inside e).0 (inside e).1) same_room)
