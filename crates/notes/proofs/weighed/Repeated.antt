-- Whether a value stands among those before it in its record, one after another. Assumes nothing.
use Rattle.numbers.proofs.Prelude.{ℕ, suc, ◌+◌, ◌-◌, ◌≤◌, ◌<◌, Bool, true, false, ◌||◌, List, ◌≡◌, refl, sym, ap, ◌∙◌, arith}
use Rattle.builder.{proofs.grouping.Walks.{fewer_inside}, specs.{Grouping.Items.{text_at, item_at, Inside}, Sharing.{same_text, same_texts, is_in}}}
use Rattle.notes.proofs.weighed.Counted.{one_text}

module _ (starts texts : List ℕ) (first value : ℕ) where
  -- it stands among the values from one on
  abbrev among : ℕ → Bool
  among i = is_in same_text (text_at starts texts value) (item_at starts texts i (value - i))

  pub record Repeating (i : ℕ) : Type 0 where
    pub index : i ≤ value
    pub same : Inside starts texts (value + 1) → among i ≡ among first

  pub repeat_starts : first ≤ value → Repeating first
  repeat_starts h = record { index = h; same = λ k. refl }

  module _ (i : ℕ) (c : Repeating i) where
    pub repeat_ends : value ≤ i → Inside starts texts (value + 1) → false ≡ among first
    unfolding item_at is_in
    repeat_ends h k = let none : value - i ≡ 0 = omega arith in
        sym (ap (λ (n : ℕ). is_in same_text (text_at starts texts value) (item_at starts texts i n)) none) ∙ c.same k

    module _ (h : i < value) (r : Bool) (is : Inside starts texts (value + 1) → Inside starts texts (i + 1) → r ≡ same_texts (item_at starts texts value 1) (item_at starts texts i 1)) where
      next : Inside starts texts (value + 1) → among i ≡ (r || among (i + 1))
      unfolding item_at is_in
      next k = let more : value - i ≡ suc (value - (i + 1)) = omega arith in
          let here : same_text (text_at starts texts value) (text_at starts texts i) ≡ r = sym (is k (fewer_inside starts texts (value + 1) (i + 1) (omega arith) k) ∙ one_text starts texts value i) in
          ap (λ (n : ℕ). is_in same_text (text_at starts texts value) (item_at starts texts i n)) more ∙ ap (λ (b : Bool). b || among (i + 1)) here

      pub repeat_found : r ≡ true → Inside starts texts (value + 1) → true ≡ among first
      repeat_found e k = sym (next k ∙ ap (λ (b : Bool). b || among (i + 1)) e) ∙ c.same k

      pub repeat_goes : r ≡ false → Repeating (i + 1)
      repeat_goes e = record { index = omega arith; same = λ k. sym (next k ∙ ap (λ (b : Bool). b || among (i + 1)) e) ∙ c.same k }
