-- The bytes of a record, value by value. Assumes nothing.
use Rattle.numbers.proofs.Prelude.{ℕ, ◌+◌, ◌-◌, ◌*◌, ◌^◌, ◌≤◌, ◌<◌, List, [], ◌∷◌, ◌++◌, append_assoc, append-nil, ◌≡◌, refl, sym, ap, subst, ◌∙◌, add-one, arith}
use Rattle.builder.{proofs.grouping.Walks.{item_among}, specs.{Grouping.Items.{text_at, item_at}, Yards.{Text}}}
use Rattle.build.specs.Metadata.Kept.{fields_to}
use Rattle.notes.proofs.weighed.{Counted.{item_more}, Weighed.{weighed_sure}}
use Rattle.std.specs.Prelude.{Option, Some, None}
use Rattle.notes.specs.inner.Weighed.Weighing.{Noted, weights_of, AtMost, WeighsOne, Weighs, WeighsAs}
use Rattle.notes.specs.inner.Weighed.Weights.{Weight as Known, Weighed, weight_of}

-- a value of a yard stands among those of the yards before it and its own
pub value_room : (names count i : ℕ) → i < names → count * names + i + 1 ≤ (count + 1) * names
value_room names count i h = omega (arith, h, item_among count (count + 1) names (omega arith))

-- ---- with one value more
weights_more : (fields : List Text) (word : ℕ) (ts : List Text) (t : Text) → weights_of fields word (ts ++ (t ∷ [])) ≡ weights_of fields word ts + weight_of fields word t
unfolding weights_of
weights_more fields word [] t = omega arith
weights_more fields word (x ∷ ts) t = omega (arith, weights_more fields word ts t)

weighed_more : (fields values seen ts : List Text) (t : Text) → Weighed fields values seen ts → Known fields values (seen ++ ts) t → Weighed fields values seen (ts ++ (t ∷ []))
unfolding Weighed
weighed_more fields values seen [] t w k = (subst (λ (l : List Text). Known fields values l t) (append-nil seen) k, tt)
weighed_more fields values seen (x ∷ ts) t w k =
    (w.0, weighed_more fields values (seen ++ (x ∷ [])) ts t w.1 (subst (λ (l : List Text). Known fields values l t) (sym (append_assoc seen (x ∷ []) ts)) k))

module _ (names count word : ℕ) (starts texts chains : List ℕ) where
  -- the first so many values
  abbrev own : ℕ → List Text
  own i = item_at starts texts (count * names) i

  pub record Adding (bytes i : ℕ) : Type 0 where
    pub index : i ≤ names
    pub small : bytes ≤ i * 2 ^ 33
    pub so : (lengths : List ℕ) → Noted names count lengths starts texts chains
        → Weighed (fields_to names lengths texts count) (fields_to names lengths texts count) [] (own i) × (bytes ≡ weights_of (fields_to names lengths texts count) word (own i))

  pub add_starts : Adding 0 0
  unfolding item_at Weighed weights_of
  add_starts = record { index = omega arith; small = omega arith; so = λ lengths n. (tt, refl) }

  pub adds_nothing : AtMost (2 ^ 41) None × ((lengths : List ℕ) → Noted names count lengths starts texts chains → WeighsAs (fields_to names lengths texts count) word (own names) None)
  unfolding WeighsAs AtMost
  adds_nothing = (tt, λ lengths n. tt)

  module _ (bytes i : ℕ) (c : Adding bytes i) where
    sure_ends : names ≤ i → (lengths : List ℕ) → Noted names count lengths starts texts chains → WeighsAs (fields_to names lengths texts count) word (own names) (Some bytes)
    unfolding WeighsAs
    sure_ends h lengths n = let fields : List Text = fields_to names lengths texts count in let e : i ≡ names = omega (arith, c.index) in
        let w = c.so lengths n in
        (weighed_sure fields fields (λ t k. k) (own names) (subst (λ (m : ℕ). Weighed fields fields [] (own m)) e w.0), w.1 ∙ ap (λ (m : ℕ). weights_of fields word (own m)) e)

    pub add_ends : names ≤ 255 → names ≤ i →
        AtMost (2 ^ 41) (Some bytes) × ((lengths : List ℕ) → Noted names count lengths starts texts chains → WeighsAs (fields_to names lengths texts count) word (own names) (Some bytes))
    unfolding AtMost
    add_ends few h = (omega (arith, few, c.index, c.small), sure_ends h)

    module _ (h : i < names) (r : Option ℕ) (w : Weighs word starts texts chains (count * names) (count * names + i) r) (taken : ℕ) (is : r ≡ Some taken) where
      pub taken_few : taken ≤ 2 ^ 33
      unfolding AtMost
      taken_few = subst (AtMost (2 ^ 33)) is w.few

      pub add_goes : Adding (bytes + taken) (i + 1)
      unfolding WeighsOne
      add_goes = record { index = omega arith; small = omega (arith, c.small, taken_few); so = on } where
        on : (lengths : List ℕ) → Noted names count lengths starts texts chains → Weighed (fields_to names lengths texts count)
            (fields_to names lengths texts count) [] (own (i + 1)) × (bytes + taken ≡ weights_of (fields_to names lengths texts count) word (own (i + 1)))
        on lengths n = let fields : List Text = fields_to names lengths texts count in let t : Text = text_at starts texts (count * names + i) in
            let before = c.so lengths n in
            let one = subst (WeighsOne fields word (item_at starts texts (count * names) (count * names + i - count * names)) t) is (w.so names count lengths n refl (omega (arith, h))) in
            let here : count * names + i - count * names ≡ i = omega arith in
            let next : own (i + 1) ≡ own i ++ (t ∷ []) = ap own (add-one i) ∙ item_more starts texts (count * names) i in
            let known : Known fields fields (own i) t = subst (λ (m : ℕ). Known fields fields (own m) t) here one.0 in (
              subst (Weighed fields fields []) (sym next) (weighed_more fields fields [] (own i) t before.0 known),
              omega (arith, before.1, one.1, weights_more fields word (own i) t, ap (weights_of fields word) next),
            )
