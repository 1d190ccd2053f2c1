-- Which yard is the first with its values: what a search among the first ones tells. Assumes nothing.
use Rattle.numbers.proofs.Prelude.{ℕ, zero, suc, ◌+◌, ◌*◌, ◌/◌, ◌≤◌, ◌<◌, eq-eqb, ne_eqb, Bool, true, false, ◌&&◌, List, ◌≡◌, refl, sym, ap, ◌∙◌, arith}
use native.Mathlib.Nat.{mul-add-div_right, div-eq_of_lt}
use Rattle.builder.{proofs.grouping.Keyed.{texts_equal}, specs.{Grouping.{Items.{starts_from, item_at}, Keys.{alike}}, Sharing.{same_texts, is_in}, Yards.{Text}}}
use Rattle.notes.proofs.chains.{Lasts.{never, below_next, last_most, last_good, last_none, none_last}, Walking.{from_meets}}
use Rattle.notes.specs.Chains.{Chains.{last_with, meets}, Entered.{is_first, is_field}}
use Rattle.build.{proofs.metadata.Shared.{in_none, in_some}, specs.Metadata.Kept.{values_to}}

module _ (names : ℕ) (lengths texts : List ℕ) where
  abbrev item : ℕ → List Text
  item yard = item_at (starts_from 0 lengths) texts (yard * names) names

  abbrev like : ℕ → ℕ → Bool
  like = alike (starts_from 0 lengths) texts names

  abbrev good : ℕ → ℕ → Bool
  good = meets (starts_from 0 lengths) texts names (is_first names lengths texts)

  -- what is like one that is like a third is like the third
  like_on : (a b c : ℕ) → like a b ≡ true → like b c ≡ true → like a c ≡ true
  unfolding alike
  like_on a b c e f = ap (λ (t : List Text). same_texts t (item c)) (texts_equal (item a) (item b) e) ∙ f

  -- a yard that is like none before it is first
  first_of : (yard : ℕ) → ((i : ℕ) → i < yard → like yard i ≡ false) → is_first names lengths texts yard ≡ true
  unfolding is_first
  first_of yard none = eq-eqb (last_with (like yard) yard) 0 (none_last (like yard) yard none)

  module _ (yard : ℕ) where
    -- where no first one is like it, none is
    none_like : ((i : ℕ) → i < yard → good yard i ≡ false) → (n : ℕ) → n ≤ yard → (i : ℕ) → i < n → like yard i ≡ false
    none_like none zero h i l = absurd (omega arith)
    none_like none (suc n) h i l = below_next (λ (i : ℕ). like yard i ≡ false) n (none_like none n (omega arith)) (here (none_like none n (omega arith))) i l where
      here : ((i : ℕ) → i < n → like yard i ≡ false) → like yard n ≡ false
      here before = go (like yard n) refl where
        other : (t : Bool) (i : ℕ) → like n i ≡ t → like yard n ≡ true → i < n → t ≡ false
        other true i e f l = never (sym (like_on yard n i f e) ∙ before i l)
        other false i e f l = refl

        go : (t : Bool) → like yard n ≡ t → t ≡ false
        go true e = let first : is_first names lengths texts n ≡ true = first_of n (λ i l. other (like n i) i refl e l) in
            never (sym (ap (λ (t : Bool). t && like yard n) first ∙ e) ∙ none n (omega (arith, h)))
        go false e = refl

    module _ (r : ℕ) (found : r ≡ last_with (meets (starts_from 0 lengths) texts names (is_first names lengths texts) yard) yard) where
      pub found_none : r ≡ 0 → (i : ℕ) → i < yard → alike (starts_from 0 lengths) texts names yard i ≡ false
      found_none e = none_like (last_none (good yard) yard (sym found ∙ e)) yard (omega arith)

      pub found_some : (other : ℕ) → r ≡ suc other → (other < yard) × (alike (starts_from 0 lengths) texts names yard other ≡ true)
      found_some other e = (
        omega (arith, e, found, last_most (good yard) yard),
        (from_meets (starts_from 0 lengths) texts names (is_first names lengths texts) yard other (last_good (good yard) yard other (sym found ∙ e))).1,
      )

      pub comes_first : r ≡ 0 → is_first names lengths texts yard ≡ true
      comes_first e = first_of yard (found_none e)

      pub not_first : 0 < r → is_first names lengths texts yard ≡ false
      unfolding is_first
      not_first h = ne_eqb (last_with (like yard) yard) 0 (λ z. go r h refl z) where
        go : (n : ℕ) → 0 < n → r ≡ n → last_with (like yard) yard ≡ 0 → ⊥
        go zero h e z = omega arith
        go (suc other) h e z = let two = found_some other e in never (sym two.1 ∙ last_none (like yard) yard z other two.0)

      -- the values of a yard that is found, and of one that is not
      pub record Grouped : Type 0 where
        pub shared : (other : ℕ) → r ≡ suc other → (is_in same_texts (item_at (starts_from 0 lengths) texts (yard * names) names)
            (values_to names lengths texts yard) ≡ true) × (item_at (starts_from 0 lengths) texts (yard * names) names ≡ item_at (starts_from 0 lengths) texts (other * names) names)
        pub own : r ≡ 0 → is_in same_texts (item_at (starts_from 0 lengths) texts (yard * names) names) (values_to names lengths texts yard) ≡ false

      pub groups_shared : Grouped
      unfolding alike values_to
      groups_shared = record {
        shared = λ other e.
            let two = found_some other e in
            (in_some same_texts item (item yard) 0 yard other (omega arith) (omega (arith, two.0)) two.1, texts_equal (item yard) (item other) two.1);
        own = λ e. in_none same_texts item (item yard) 0 yard (λ j a b. found_none e j (omega arith));
      }

  -- a value belongs to its yard
  pub field_of : (yard field : ℕ) → field < names → is_field names lengths texts (yard * names + field) ≡ is_first names lengths texts yard
  unfolding is_field
  field_of yard field h = let none : field / names ≡ 0 = div-eq_of_lt h in
      let is : (yard * names + field) / names ≡ yard = mul-add-div_right (omega (arith, h)) yard field ∙ omega (arith, none) in
      ap (is_first names lengths texts) is
