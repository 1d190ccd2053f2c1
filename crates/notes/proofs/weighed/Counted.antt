-- How many of the first so many numbers are good, and that the fields of the records with a text are as many as the chains say. Assumes nothing.
use Rattle.numbers.proofs.Prelude.{ℕ, zero, suc, ◌+◌, ◌*◌, ◌/◌, ◌≤◌, ◌<◌, ne_eqb, eqb, Bool, true, false, ◌&&◌, not, List, [], ◌∷◌, ◌++◌, map, ◌≡◌, refl, sym, ap, ◌∙◌, suc-mul, add-one, arith}
use Rattle.numbers.specs.Answer.{if◌then◌else◌}
use native.Mathlib.Nat.{div-eq_of_lt-le}
use Rattle.builder.specs.{Grouping.{Items.{starts_from, text_at, item_at}, Keys.{alike, numbers_from}}, Metadata.{fields_of}, Sharing.{same_by, same_text, same_texts, is_in, times_in, firsts_after}}
use Rattle.builder.specs.Yards.{Text}
use Rattle.notes.proofs.chains.Lasts.{last_most, last_good, last_none}
use Rattle.notes.specs.Chains.{Chains.{last_with}, Entered.{is_first, is_field}}
use Rattle.draft.proofs.held.Sure.{times_more}
use Rattle.build.{proofs.metadata.{Begun.{fields_new, fields_old}, Shared.{in_none, in_some}}, specs.Metadata.Kept.{values_to, fields_to}}

-- ---- good numbers
unfoldable pub count_with : (ℕ → Bool) → ℕ → ℕ
count_with good zero = 0
count_with good (suc n) = (if good n then 1 else 0) + count_with good n

module _ (good : ℕ → Bool) where
  pub count_none : (n : ℕ) → last_with good n ≡ 0 → count_with good n ≡ 0
  unfolding last_with count_with
  count_none zero e = refl
  count_none (suc n) e = go (good n) e (count_none n) where
    go : (b : Bool) → (if b then suc n else last_with good n) ≡ 0 → (last_with good n ≡ 0 → count_with good n ≡ 0) → (if b then 1 else 0) + count_with good n ≡ 0
    go true e k = absurd (omega (arith, e))
    go false e k = omega (arith, k e)

  -- the last one, and those before it
  pub count_last : (n j : ℕ) → last_with good n ≡ suc j → count_with good n ≡ 1 + count_with good j
  unfolding last_with count_with
  count_last zero j e = absurd (omega (arith, e))
  count_last (suc n) j e = go (good n) e (count_last n j) where
    go : (b : Bool) → (if b then suc n else last_with good n) ≡ suc j → (last_with good n ≡ suc j → count_with good n ≡ 1 + count_with good j) →
        (if b then 1 else 0) + count_with good n ≡ 1 + count_with good j
    go true e k = let same : n ≡ j = omega (arith, e) in ap (λ (m : ℕ). 1 + count_with good m) same
    go false e k = omega (arith, k e)

-- ---- texts and items
pub item_more : (starts texts : List ℕ) (at width : ℕ) → item_at starts texts at (suc width) ≡ item_at starts texts at width ++ (text_at starts texts (at + width) ∷ [])
unfolding item_at
item_more starts texts at zero = let e : at ≡ at + 0 = omega arith in ap (λ (n : ℕ). text_at starts texts n ∷ []) e
item_more starts texts at (suc width) = let e : at + 1 + width ≡ at + suc width = omega arith in
    ap (λ (l : List Text). text_at starts texts at ∷ l) (item_more starts texts (at + 1) width ∙ ap (λ (n : ℕ). item_at starts texts (at + 1) width ++ (text_at starts texts n ∷ [])) e)

-- items of one text
pub one_text : (starts texts : List ℕ) (a b : ℕ) → same_texts (item_at starts texts a 1) (item_at starts texts b 1) ≡ same_text (text_at starts texts a) (text_at starts texts b)
unfolding same_by item_at
one_text starts texts a b = and_true (same_text (text_at starts texts a) (text_at starts texts b)) where
  and_true : (c : Bool) → (c && true) ≡ c
  and_true true = refl
  and_true false = refl

pub alike_one : (starts texts : List ℕ) (a b : ℕ) → alike starts texts 1 a b ≡ same_text (text_at starts texts a) (text_at starts texts b)
unfolding alike
alike_one starts texts a b = let one : a * 1 ≡ a = omega arith in let two : b * 1 ≡ b = omega arith in
    ap (λ (n : ℕ). same_texts (item_at starts texts n 1) (item_at starts texts (b * 1) 1)) one ∙
    (ap (λ (n : ℕ). same_texts (item_at starts texts a 1) (item_at starts texts n 1)) two ∙ one_text starts texts a b)

module _ (names : ℕ) (lengths texts : List ℕ) where
  abbrev starts : List ℕ
  starts = starts_from 0 lengths

  abbrev item : ℕ → List Text
  item yard = item_at starts texts (yard * names) names

  -- a yard has a record of its own if no yard before it has its values
  first_is : (yard : ℕ) → is_first names lengths texts yard ≡ not (is_in same_texts (item yard) (values_to names lengths texts yard))
  unfolding is_first values_to alike
  first_is yard = go (last_with (alike starts texts names yard) yard) refl where
    go : (n : ℕ) → last_with (alike starts texts names yard) yard ≡ n → eqb n 0 ≡ not (is_in same_texts (item yard) (map item (numbers_from 0 yard)))
    go zero e = ap not (sym (in_none same_texts item (item yard) 0 yard (λ j a b. last_none (alike starts texts names yard) yard e j (omega arith))))
    go (suc j) e = let before : j < 0 + yard = omega (arith, e, last_most (alike starts texts names yard) yard) in
        ne_eqb (suc j) 0 (λ z. omega (arith, z)) ∙ ap not (sym (in_some same_texts item (item yard) 0 yard j (omega arith) before (last_good (alike starts texts names yard) yard j e)))

  module _ (t : Text) (good : ℕ → Bool) (means : (v : ℕ) → good v ≡ (is_field names lengths texts v && same_text t (text_at starts texts v))) where
    -- how often it is found in the front of a record
    abbrev times : ℕ → ℕ → ℕ
    times yard k = times_in same_text t (item_at starts texts (yard * names) k)

    times_next : (yard k : ℕ) → times yard (suc k) ≡ times yard k + (if same_text t (text_at starts texts (yard * names + k)) then 1 else 0)
    unfolding times_in
    times_next yard k = let x : Text = text_at starts texts (yard * names + k) in let more = times_more t (item_at starts texts (yard * names) k) (x ∷ []) in
        ap (times_in same_text t) (item_more starts texts (yard * names) k) ∙ omega (arith, more)

    abbrev one : Bool → ℕ
    one b = if b then 1 else 0

    count_next : (n : ℕ) → count_with good (suc n) ≡ (if good n then 1 else 0) + count_with good n
    unfolding count_with
    count_next n = refl

    one_more : (first same : Bool) (before all : ℕ) → all ≡ before + (if same then 1 else 0) → (if (first && same) then 1 else 0) + (if first then before else 0) ≡ (if first then all else 0)
    one_more true true before all e = omega (arith, e)
    one_more true false before all e = omega (arith, e)
    one_more false same before all e = omega arith

    none_yet : (first : Bool) (yard : ℕ) → (if first then times yard 0 else 0) ≡ 0
    unfolding item_at times_in
    none_yet true yard = refl
    none_yet false yard = refl

    -- the values of one yard
    record_counted : (yard k : ℕ) → k ≤ names → count_with good (yard * names + k) ≡ count_with good (yard * names) + (if is_first names lengths texts yard then times yard k else 0)
    unfolding is_field
    record_counted yard zero h = let e : yard * names + 0 ≡ yard * names = omega arith in
        ap (count_with good) e ∙ omega (arith, none_yet (is_first names lengths texts yard) yard)
    record_counted yard (suc k) h = let n : ℕ = yard * names + k in let first : Bool = is_first names lengths texts yard in
        let same : Bool = same_text t (text_at starts texts (yard * names + k)) in let e : yard * names + suc k ≡ suc (yard * names + k) = omega arith in
        let own : (yard * names + k) / names ≡ yard = div-eq_of_lt-le names (omega arith) (omega (arith, h, suc-mul yard names, ap (λ (m : ℕ). m * names) (add-one yard))) in
        let here : good (yard * names + k) ≡ (first && same) = means n ∙ ap (λ (m : ℕ). is_first names lengths texts m && same) own in
        let now : one (good (yard * names + k)) ≡ one (first && same) = ap one here in
        ap (count_with good) e ∙ (count_next n ∙ omega (arith, now, record_counted yard k (omega arith), one_more first same (times yard k) (times yard (suc k)) (times_next yard k)))

    none_counted : count_with good (0 * names) ≡ times_in same_text t (fields_to names lengths texts 0)
    unfolding count_with values_to numbers_from firsts_after fields_of times_in
    none_counted = let e : 0 * names ≡ 0 = omega arith in ap (count_with good) e

    -- A text stands in the records' fields as often as the fields' numbers say.
    pub fields_counted : (count : ℕ) → count_with good (count * names) ≡ times_in same_text t (fields_to names lengths texts count)
    fields_counted zero = none_counted
    fields_counted (suc count) =
        ap (count_with good) (suc-mul count names) ∙ (record_counted count names (omega arith) ∙ go (is_in same_texts (item count) (values_to names lengths texts count)) refl (fields_counted count))
      where
        go : (old : Bool) → is_in same_texts (item count) (values_to names lengths texts count) ≡ old → count_with good (count * names) ≡ times_in same_text t (fields_to names lengths texts count)
            → count_with good (count * names) + (if is_first names lengths texts count then times count names else 0) ≡ times_in same_text t (fields_to names lengths texts (suc count))
        go true e k =
            let first : (if is_first names lengths texts count then times count names else 0) ≡ 0 = ap (λ (b : Bool). if b then times count names else 0) (first_is count ∙ ap not e) in
            omega (arith, first, k, ap (times_in same_text t) (fields_old names lengths texts count e))
        go false e k =
            let first : (if is_first names lengths texts count then times count names else 0) ≡ times count names = ap (λ (b : Bool). if b then times count names else 0) (first_is count ∙ ap not e) in
            omega (arith, first, k, ap (times_in same_text t) (fields_new names lengths texts count e), times_more t (fields_to names lengths texts count) (item count))
