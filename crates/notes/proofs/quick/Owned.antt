-- A yard more with a record of its own: what it adds, where its step is sure. Assumes nothing.
use Rattle.numbers.{proofs.Prelude.{ℕ, ◌+◌, ◌*◌, ◌^◌, ◌≤◌, length, false, List, map, flat_map, ◌≡◌, sym, ap, subst, ◌∙◌}, specs.Spelling.{varint_of}}
use Rattle.builder.specs.{Grouping.Items.{item_at}, Metadata.{fields_of, inlined, layout_of, remotes, written}, Sharing.{firsts, is_in, same_texts}, Yards.{Text, Yard}}
use Rattle.build.specs.Metadata.Kept.{fields_to}
use Rattle.notes.specs.{Noted.Records.{fields_in}, declared.quick.place.Placing.{Placing}, inner.Noted.OneMore.{OneMore}}
use Rattle.notes.specs.inner.{Quick.Placed.{Behind, Places, AddsAtMost}, Weighed.Weighing.{AtMost, Noted, WeighsAs}}
use Rattle.notes.proofs.{noted.OneMore.{own_more}, weighed.Lengths.{one_word, weights_written}}
use Rattle.std.specs.Prelude.{Option, Some, None}

module _ (yards : List Yard) (y : Yard) (names count records remote : ℕ) (lengths starts texts chains : List ℕ) (b : Behind yards y names count records remote lengths starts texts chains) where
  fields_are : fields_to names lengths texts count ≡ fields_in yards
  fields_are = ap (λ (vs : List (List Text)). fields_of (firsts same_texts vs)) (sym b.values_are)

  owned : is_in same_texts y.values (map (λ (x : Yard). x.values) yards) ≡ false → (word by longest : ℕ) → word ≡ length (varint_of (256 + records))
      → longest ≡ length (varint_of (255 + records + by + remote)) → longest ≡ word → WeighsAs (fields_in yards) word y.values (Some by) → OneMore yards y by records
  unfolding WeighsAs
  owned new word by longest ew el same w = let fields : List Text = fields_in yards in let layout : ℕ = layout_of fields in
      let least : length (varint_of (256 + layout)) ≡ word = ap (λ (n : ℕ). length (varint_of (256 + n))) (sym b.records_is) ∙ sym ew in
      let most : length (varint_of (255 + layout + by + length (flat_map inlined (remotes fields)))) ≡ word = ap
      (λ (n : ℕ). length (varint_of (255 + n + by + length (flat_map inlined (remotes fields))))) (sym b.records_is)
      ∙ (ap (λ (n : ℕ). length (varint_of (255 + records + by + n))) (sym b.remote_is) ∙ (sym el ∙ same)) in
      let size : by ≡ length (flat_map (written fields layout) y.values) = w.1 ∙ weights_written fields layout word (one_word fields layout word by least most) y.values in
      subst (OneMore yards y by) (sym b.records_is) (own_more yards y new w.0 by size (least ∙ sym most))

-- ---- what is answered
pub by_few : (r : Option ℕ) → AtMost (2 ^ 41) r → (by : ℕ) → r ≡ Some by → by ≤ 2 ^ 41
unfolding AtMost
by_few r few by is = subst (AtMost (2 ^ 41)) is few

module _ (names count records remote : ℕ) (starts texts chains : List ℕ) where
  abbrev pub PlacesOwn : Option Placing → Type 0
  PlacesOwn r =
      AddsAtMost (2 ^ 41) r × ((yards : List Yard) (y : Yard) (lengths : List ℕ) → Behind yards y names count records remote lengths starts texts chains →
      is_in same_texts y.values (map (λ x. x.values) yards) ≡ false → Places yards y r)

  pub own_unsure : PlacesOwn None
  unfolding AddsAtMost Places
  own_unsure = (tt, λ yards y lengths b new. tt)

  module _ (word : ℕ) (r : Option ℕ)
      (w : AtMost (2 ^ 41) r × ((lengths : List ℕ) → Noted names count lengths starts texts chains →
      WeighsAs (fields_to names lengths texts count) word (item_at starts texts (count * names) names) r)) (by : ℕ) (is : r ≡ Some by) where
    pub own_at : (longest : ℕ) → word ≡ length (varint_of (256 + records)) → longest ≡ length (varint_of (255 + records + by + remote)) → longest ≡ word → PlacesOwn (Some (record { by = by; begin = records }))
    unfolding AddsAtMost Places
    own_at longest ew el same = (
      by_few r w.0 by is,
      λ yards y lengths b new.
          let fields : List Text = fields_to names lengths texts count in
          let so : WeighsAs fields word (item_at starts texts (count * names) names) (Some by) =
          subst (WeighsAs fields word (item_at starts texts (count * names) names)) is (w.1 lengths b.noted) in
          let here : WeighsAs fields word y.values (Some by) = subst (λ (own : List Text). WeighsAs fields word own (Some by)) (sym b.own) so in
          owned yards y names count records remote lengths starts texts chains b new word by longest ew el same
          (subst (λ (fs : List Text). WeighsAs fs word y.values (Some by)) (fields_are yards y names count records remote lengths starts texts chains b) here),
    )
