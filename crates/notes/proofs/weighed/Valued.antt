-- What is said of one value, where the notes are right. Assumes nothing.
use Rattle.numbers.proofs.Prelude.{ℕ, ◌+◌, ◌-◌, ◌*◌, ◌^◌, ◌≤◌, ◌<◌, length, drop, get_or, length-drop, length-take-le, Bool, false, List, ◌≡◌, sym, ap, subst, ◌∙◌, arith}
use Rattle.numbers.{proofs.Spelling.{varint_few}, specs.Spelling.{varint_of}}
use Rattle.builder.{proofs.grouping.{Meant.{starts_inside}, Walks.{fewer_inside, item_among}}, specs.{Grouping.Items.{starts_from, text_at, item_at, Inside}, Sharing.{same_text, is_in}, Yards.{Text}}}
use Rattle.std.specs.Prelude.{Some, None}
use Rattle.notes.specs.Chains.{Chains.{last_with, Chained, meets, ItemsInside}, Entered.{bucket_of, is_field}}
use Rattle.notes.specs.inner.Weighed.Weighing.{Noted, AtMost, WeighsOne, Weighs}
use Rattle.build.specs.Metadata.Kept.{fields_to}
use Rattle.notes.proofs.weighed.Found.{met_none, met_twice, empty_weight, new_weight, far_weight}

-- the bytes of a value, by where it begins and where the next one does
abbrev pub size_at : List ℕ → ℕ → ℕ
size_at starts value = get_or starts (value + 1) 0 - get_or starts value 0

module _ (names count : ℕ) (lengths starts texts chains : List ℕ) (n : Noted names count lengths starts texts chains)
    (first value : ℕ) (at : first ≡ count * names) (h : value < first + names) where
  value_known : value + 1 ≤ length lengths
  value_known = omega (arith, h, at, n.all, item_among count (count + 1) names (omega arith))

  pub noted_inside : Inside starts texts (value + 1)
  noted_inside =
      subst (λ (s : List ℕ). Inside s texts (value + 1)) (sym n.begin) (fewer_inside (starts_from 0 lengths) texts (length lengths) (value + 1) value_known (starts_inside lengths texts n.whole))

  pub noted_item : ItemsInside starts texts 1 value
  noted_item = let e : (value + 1) * 1 ≡ value + 1 = omega arith in rw e noted_inside

  abbrev text : Text
  text = text_at starts texts value

  text_size : length text ≡ size_at starts value
  unfolding text_at
  text_size = let most : get_or starts (value + 1) 0 ≤ length texts = noted_inside.most value (omega arith) in
      length-take-le (size_at starts value) (drop (get_or starts value 0) texts) (omega (arith, most, length-drop (get_or starts value 0) texts))

  abbrev fields : List Text
  fields = fields_to names lengths texts count

  abbrev met : ℕ → Bool
  met = meets starts texts 1 (is_field names lengths texts) value

  module _ (word : ℕ) (seen : List Text) where
    pub value_empty : size_at starts value ≡ 0 → WeighsOne fields word seen text (Some 1)
    unfolding WeighsOne
    value_empty z = empty_weight fields word seen text (text_size ∙ z)

    module _ (found : ℕ) (last : found ≡ last_with met (count * names)) where
      pub value_new : found ≡ 0 → is_in same_text text seen ≡ false → (bytes : ℕ) → bytes ≡ length (varint_of (size_at starts value)) + size_at starts value
          → WeighsOne fields word seen text (Some bytes)
      unfolding WeighsOne
      value_new none own bytes e = let w = new_weight fields word seen text (met_none names lengths starts texts n.begin count value found last none) own in
          (w.0, e ∙ (ap (λ (m : ℕ). length (varint_of m) + m) (sym text_size) ∙ w.1))

      pub value_far : (size_at starts value ≡ 0 → ⊥) → (item : ℕ) → found ≡ item + 1 → (before : ℕ) → before ≡ last_with met item → (before ≡ 0 → ⊥) → WeighsOne fields word seen text (Some word)
      unfolding WeighsOne
      value_far some item one before e two =
          far_weight fields word seen text (met_twice names lengths starts texts n.begin count value item before (sym one ∙ last) e two) (λ z. some (sym text_size ∙ z))

-- ---- the ways out
module _ (word : ℕ) (starts texts chains : List ℕ) (first value : ℕ) where
  pub not_sure : Weighs word starts texts chains first value None
  unfolding WeighsOne AtMost
  not_sure = record { few = tt; so = λ names count lengths n at h. tt }

  pub is_empty : size_at starts value ≡ 0 → Weighs word starts texts chains first value (Some 1)
  unfolding AtMost
  is_empty z = record {
    few = omega arith;
    so = λ names count lengths n at h. value_empty names count lengths starts texts chains n first value at h word (item_at starts texts first (value - first)) z;
  }

  module _ (from : first ≤ value) (found : ℕ)
      (last : (entered : ℕ → Bool) (count : ℕ) → ItemsInside starts texts 1 value → Chained (bucket_of starts texts 1) entered count chains → count ≤ value →
      found ≡ last_with (meets starts texts 1 entered value) count) where
    last_met : (names count : ℕ) (lengths : List ℕ) → Noted names count lengths starts texts chains → first ≡ count * names → value < first + names →
        found ≡ last_with (meets starts texts 1 (is_field names lengths texts) value) (count * names)
    last_met names count lengths n at h =
        last (is_field names lengths texts) (count * names) (noted_item names count lengths starts texts chains n first value at h) n.fields (omega (arith, at, from))

    pub is_new : found ≡ 0 → (again : Bool) → (Inside starts texts (value + 1) → again ≡ is_in same_text (text_at starts texts value) (item_at starts texts first (value - first))) → again ≡ false
        → size_at starts value < 2 ^ 32 → (bytes : ℕ) → bytes ≡ length (varint_of (size_at starts value)) + size_at starts value → Weighs word starts texts chains first value (Some bytes)
    unfolding AtMost
    is_new none again own not-again small bytes e = record {
      few = omega (arith, small, e, varint_few (size_at starts value));
      so = λ names count lengths n at h.
          value_new names count lengths starts texts chains n first value at h word (item_at starts texts first (value - first)) found (last_met names count lengths n at h) none
          (sym (own (noted_inside names count lengths starts texts chains n first value at h)) ∙ not-again) bytes e;
    }

    pub is_far : word ≤ 10 → (size_at starts value ≡ 0 → ⊥) → (item : ℕ) → found ≡ item + 1 → (before : ℕ) → ((entered : ℕ → Bool) (count : ℕ) → ItemsInside starts texts 1 value
        → Chained (bucket_of starts texts 1) entered count chains → count ≤ value → item + 1 ≡ last_with (meets starts texts 1 entered value) count
        → before ≡ last_with (meets starts texts 1 entered value) item) → (before ≡ 0 → ⊥) → Weighs word starts texts chains first value (Some word)
    unfolding AtMost
    is_far short some item one before earlier two = record {
      few = omega (arith, short);
      so = λ names count lengths n at h.
          value_far names count lengths starts texts chains n first value at h word (item_at starts texts first (value - first)) found (last_met names count lengths n at h) some item one before
          (earlier (is_field names lengths texts) (count * names) (noted_item names count lengths starts texts chains n first value at h) n.fields (omega (arith, at, from))
          (sym one ∙ last_met names count lengths n at h))
          two;
    }
