-- Texts that grow behind: the notes of those that were there stay right. Assumes nothing.
use Rattle.numbers.proofs.Prelude.{ℕ, zero, suc, ◌+◌, ◌*◌, ◌/◌, ◌%◌, ◌≤◌, ◌<◌, eqb, length, take, drop, length-append, length-drop, drop-drop, take-append-le, drop-append-le, List, [], ◌∷◌, ◌++◌}
use Rattle.numbers.proofs.Prelude.{◌≡◌, refl, sym, ap, ◌∙◌, div-lt_iff_lt-mul, arith}
use Rattle.builder.{proofs.{Counting.{cut_many}, grouping.{Meant.{item_part}, Walks.{item_among}}}, specs.{Grouping.{Items.{starts_from, item_at, hash_texts}, Keys.{alike}}, Sharing.{same_texts}}}
use Rattle.builder.specs.Yards.{Text, cut_by, sum_of}
use Rattle.notes.proofs.chains.{Entering.{chained_same}, Lasts.{last_agree}}
use Rattle.notes.specs.Chains.Entered.{bucket_of, is_first, is_field, Indexed}

-- ---- parts of a list that grows behind
cut_more : (ns ms xs ys : List ℕ) → sum_of ns ≤ length xs → cut_by (ns ++ ms) (xs ++ ys) ≡ cut_by ns xs ++ cut_by ms (drop (sum_of ns) (xs ++ ys))
unfolding cut_by sum_of
cut_more [] ms xs ys h = refl
cut_more (n ∷ ns) ms xs ys h = let low : n ≤ length xs = omega arith in let rest : sum_of ns ≤ length (drop n xs) = omega (arith, length-drop n xs) in
    ap (λ (t : Text). t ∷ cut_by (ns ++ ms) (drop n (xs ++ ys))) (take-append-le n xs ys low) ∙ (ap (λ (l : List ℕ). take n xs ∷ cut_by (ns ++ ms) l)
    (drop-append-le n xs ys low) ∙ ap (λ (l : List Text). take n xs ∷ l) (cut_more ns ms (drop n xs) ys rest ∙ ap (λ (l : List ℕ). cut_by ns (drop n xs) ++ cut_by ms l)
    (ap (drop (sum_of ns)) (sym (drop-append-le n xs ys low)) ∙ drop-drop (sum_of ns) n (xs ++ ys))))

-- a value has a name
some_name : (names count i : ℕ) → i < count * names → 0 < names
some_name zero count i h = absurd (omega (arith, h))
some_name (suc n) count i h = omega arith

module _ (lengths texts more bytes : List ℕ) (whole : sum_of lengths ≤ length texts) where
  -- an item of the texts that were there
  pub item_more : (at width : ℕ) → at + width ≤ length lengths → item_at (starts_from 0 (lengths ++ more)) (texts ++ bytes) at width ≡ item_at (starts_from 0 lengths) texts at width
  item_more at width h = let cuts : List Text = cut_by lengths texts in let behind : List Text = cut_by more (drop (sum_of lengths) (texts ++ bytes)) in
      let size : length cuts ≡ length lengths = cut_many lengths texts in
      item_part (lengths ++ more) (texts ++ bytes) at width (omega (arith, h, length-append lengths more)) ∙ (ap (λ (l : List Text). take width (drop at l))
      (cut_more lengths more texts bytes whole) ∙ (ap (take width) (drop-append-le at cuts behind (omega (arith, h, size)))
      ∙ (take-append-le width (drop at cuts) behind (omega (arith, h, size, length-drop at cuts)) ∙ sym (item_part lengths texts at width h))))

  module _ (width count : ℕ) (many : count * width ≤ length lengths) where
    one_more : (i : ℕ) → i < count → item_at (starts_from 0 (lengths ++ more)) (texts ++ bytes) (i * width) width ≡ item_at (starts_from 0 lengths) texts (i * width) width
    one_more i h = item_more (i * width) width (omega (arith, item_among i count width h, many))

    bucket_more : (i : ℕ) → i < count → bucket_of (starts_from 0 lengths) texts width i ≡ bucket_of (starts_from 0 (lengths ++ more)) (texts ++ bytes) width i
    unfolding bucket_of
    bucket_more i h = ap (λ (t : List Text). hash_texts 0 t % 4096) (sym (one_more i h))

    alike_more : (i j : ℕ) → i < count → j < count → alike (starts_from 0 lengths) texts width i j ≡ alike (starts_from 0 (lengths ++ more)) (texts ++ bytes) width i j
    unfolding alike
    alike_more i j h k =
        ap (λ (t : List Text). same_texts t (item_at (starts_from 0 lengths) texts (j * width) width)) (sym (one_more i h))
        ∙ ap (same_texts (item_at (starts_from 0 (lengths ++ more)) (texts ++ bytes) (i * width) width)) (sym (one_more j k))

    pub first_more : (i : ℕ) → i < count → is_first width lengths texts i ≡ is_first width (lengths ++ more) (texts ++ bytes) i
    unfolding is_first
    first_more i h =
        ap (λ (n : ℕ). eqb n 0) (last_agree (alike (starts_from 0 lengths) texts width i) (alike (starts_from 0 (lengths ++ more)) (texts ++ bytes) width i) i (λ j k. alike_more i j h (omega arith)))

  module _ (names count : ℕ) (many : count * names ≤ length lengths) where
    field_more : (i : ℕ) → i < count * names → is_field names lengths texts i ≡ is_field names (lengths ++ more) (texts ++ bytes) i
    unfolding is_field
    field_more i h = first_more names count many (i / names) ((div-lt_iff_lt-mul (some_name names count i h)).1 h)

    ones : count * names * 1 ≤ length lengths
    ones = omega arith

    pub indexed_more : (chains groups : List ℕ) → Indexed names lengths texts count chains groups → Indexed names (lengths ++ more) (texts ++ bytes) count chains groups
    indexed_more chains groups c = record {
      fields = chained_same (bucket_of (starts_from 0 lengths) texts 1) (bucket_of (starts_from 0 (lengths ++ more)) (texts ++ bytes) 1) (is_field names lengths texts)
          (is_field names (lengths ++ more) (texts ++ bytes)) (count * names) (bucket_more 1 (count * names) ones) field_more chains c.fields;
      records = chained_same (bucket_of (starts_from 0 lengths) texts names) (bucket_of (starts_from 0 (lengths ++ more)) (texts ++ bytes) names)
          (is_first names lengths texts) (is_first names (lengths ++ more) (texts ++ bytes)) count (bucket_more names count many) (first_more names count many) groups c.records;
    }
