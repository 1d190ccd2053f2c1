-- Hashes and comparisons, byte by byte and text by text. Assumes nothing.
use Rattle.numbers.proofs.Prelude.{ℕ, suc, ◌+◌, ◌-◌, ◌*◌, ◌≤◌, ◌<◌, Bool, true, false, ◌&&◌, List, [], ◌∷◌}
use Rattle.numbers.proofs.Prelude.{◌≡◌, refl, sym, ap, ◌∙◌, suc-mul, mul-le-mul_right, arith}
use Rattle.std.proofs.Common.{nat_eq}
use lib.Pointwise.{pointwise}
use Rattle.builder.specs.{Grouping.Items.{hash_text, hash_texts, text_at, item_at, Inside}, Sharing.{same_by, same_text, same_texts}}

-- ---- two texts
pub same_pairs : (a b : List ℕ) → pointwise nat_eq a b ≡ same_text a b
unfolding same_by
same_pairs [] [] = refl
same_pairs [] (y ∷ b) = refl
same_pairs (x ∷ a) [] = refl
same_pairs (x ∷ a) (y ∷ b) = ap (λ (t : Bool). nat_eq x y && t) (same_pairs a b)

-- ---- items
-- an item's texts are among those of so many items
pub item_among : (item count width : ℕ) → item < count → item * width + width ≤ count * width
item_among item count width h = let e : suc item * width ≡ item * width + width = suc-mul item width in
    let m : suc item * width ≤ count * width = mul-le-mul_right width h in omega (arith, e, m)

module _ (starts texts : List ℕ) where
  item_next : (at width i : ℕ) → i < width → item_at starts texts (at + i) (width - i) ≡ text_at starts texts (at + i) ∷ item_at starts texts (at + (i + 1)) (width - (i + 1))
  unfolding item_at
  item_next at width i h = let e : width - i ≡ suc (width - (i + 1)) = omega arith in let f : at + i + 1 ≡ at + (i + 1) = omega arith in
      ap (item_at starts texts (at + i)) e ∙ ap (λ (n : ℕ). text_at starts texts (at + i) ∷ item_at starts texts n (width - (i + 1))) f

  item_done : (at width i : ℕ) → width ≤ i → item_at starts texts (at + i) (width - i) ≡ []
  unfolding item_at
  item_done at width i h = let e : width - i ≡ 0 = omega arith in ap (item_at starts texts (at + i)) e

  item_all : (at width : ℕ) → item_at starts texts (at + 0) (width - 0) ≡ item_at starts texts at width
  item_all at width = let e : at + 0 ≡ at = omega arith in let f : width - 0 ≡ width = omega arith in rw (e, f)

  -- fewer of them lie inside too
  pub fewer_inside : (count few : ℕ) → few ≤ count → Inside starts texts count → Inside starts texts few
  fewer_inside count few h c = record { many = omega (arith, c.many); rise = λ i k. c.rise i (omega arith); most = λ i k. c.most i (omega arith) }

  pub record ItemHash (at width hash i : ℕ) : Type 0 where
    pub index : i ≤ width
    pub same : hash_texts hash (item_at starts texts (at + i) (width - i)) ≡ hash_texts 0 (item_at starts texts at width)

  pub item_starts : (at width : ℕ) → ItemHash at width 0 0
  item_starts at width = record { index = omega arith; same = ap (hash_texts 0) (item_all at width) }

  pub item_goes : (at width hash i : ℕ) → ItemHash at width hash i → i < width → (later : ℕ) → later ≡ hash_text hash (text_at starts texts (at + i)) → ItemHash at width later (i + 1)
  unfolding hash_texts
  item_goes at width hash i c h later e = record { index = omega arith; same = rw e (sym (ap (hash_texts hash) (item_next at width i h)) ∙ c.same) }

  pub item_ends : (at width hash i : ℕ) → ItemHash at width hash i → width ≤ i → hash ≡ hash_texts 0 (item_at starts texts at width)
  unfolding hash_texts
  item_ends at width hash i c h = sym (ap (hash_texts hash) (item_done at width i h)) ∙ c.same

  pub record ItemSame (a b width i : ℕ) : Type 0 where
    pub index : i ≤ width
    pub same : same_texts (item_at starts texts (a + i) (width - i)) (item_at starts texts (b + i) (width - i)) ≡ same_texts (item_at starts texts a width) (item_at starts texts b width)

  pub same_starts : (a b width : ℕ) → ItemSame a b width 0
  same_starts a b width = record { index = omega arith; same = rw (item_all a width, item_all b width) }

  module _ (a b width i : ℕ) (c : ItemSame a b width i) where
    module _ (h : i < width) where
      two : same_texts (item_at starts texts (a + i) (width - i)) (item_at starts texts (b + i) (width - i)) ≡ (same_text (text_at starts texts (a + i))
          (text_at starts texts (b + i)) && same_texts (item_at starts texts (a + (i + 1)) (width - (i + 1))) (item_at starts texts (b + (i + 1)) (width - (i + 1))))
      unfolding same_by
      two = rw (item_next a width i h, item_next b width i h)

      pub same_differs : (r : Bool) → r ≡ same_text (text_at starts texts (a + i)) (text_at starts texts (b + i)) → r ≡ false →
          false ≡ same_texts (item_at starts texts a width) (item_at starts texts b width)
      same_differs r e n = let f : same_text (text_at starts texts (a + i)) (text_at starts texts (b + i)) ≡ false = sym e ∙ n in
          sym (two ∙ rw f) ∙ c.same

      pub same_goes : (r : Bool) → r ≡ same_text (text_at starts texts (a + i)) (text_at starts texts (b + i)) → r ≡ true → ItemSame a b width (i + 1)
      same_goes r e n = let f : same_text (text_at starts texts (a + i)) (text_at starts texts (b + i)) ≡ true = sym e ∙ n in
          record { index = omega arith; same = sym (two ∙ rw f) ∙ c.same }

    pub same_ends : width ≤ i → true ≡ same_texts (item_at starts texts a width) (item_at starts texts b width)
    unfolding same_by
    same_ends h =
        let z : same_texts (item_at starts texts (a + i) (width - i)) (item_at starts texts (b + i) (width - i)) ≡ true = rw (item_done a width i h, item_done b width i h) in
        sym z ∙ c.same
