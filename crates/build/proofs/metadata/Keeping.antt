-- The records' lengths and texts, yard by yard. Assumes nothing.
use Rattle.numbers.proofs.Prelude.{ℕ, zero, suc, ◌+◌, ◌-◌, ◌*◌, ◌^◌, ◌≤◌, ◌<◌, length, take, drop, get_or, set, length-map, length-set, length-take, true, false, List, [], ◌∷◌, ◌++◌, map}
use Rattle.numbers.proofs.Prelude.{flat_map, ◌≡◌}
use Rattle.numbers.proofs.Prelude.{refl, sym, ap, subst, ◌∙◌, suc-mul, add-one, arith}
use Rattle.writer.{proofs.Stores.{stored_then}, specs.inner.Stored.{Stored}}
use Rattle.builder.proofs.{drawing.Sections.{spread_more}, grouping.{Keyed.{texts_equal}, Listed.{numbers_many}, Meant.{First, first_means, starts_inside}, Walks.{item_among, fewer_inside}}}
use Rattle.builder.specs.{Grouping.{Items.{starts_from, item_at, Inside}, Keys.{numbers_from, alike, first_of}}, Metadata.{fields_of}, Sharing.{is_in, firsts_after, same_texts}, Yards.{Text, sum_of}}
use Rattle.builder.specs.inner.Drawing.Section.{spread}
use Rattle.build.proofs.metadata.Itemed.{item_lengths, item_bytes, starts_climb, starts_most}
use Rattle.build.proofs.metadata.Shared.{numbers_more, map_more, flat_more, fields_more, fields_one, in_none, in_some, firsts_new, firsts_old}
use Rattle.build.specs.Metadata.Kept.{values_to, fields_to, joined, Keeps}

-- the loop's invariant, at a yard
pub record Keeping (names count : ℕ) (lengths texts before kept₀ held₀ places kept held : List ℕ) (sizes bytes yard : ℕ) : Type 0 where
  pub index : yard ≤ count
  pub firsts_are : places ≡ spread 0 (map (first_of (starts_from 0 lengths) texts names count) (numbers_from 0 yard)) before
  pub places_size : length places ≡ length before
  pub lengths_are : Stored kept₀ 0 (map length (fields_to names lengths texts yard)) kept sizes
  pub texts_are : Stored held₀ 0 (joined (fields_to names lengths texts yard)) held bytes
  pub few_lengths : sizes ≤ yard * names
  pub few_bytes : bytes ≤ get_or (starts_from 0 lengths) (yard * names) 0

module _ (names count : ℕ) (lengths texts before kept₀ held₀ : List ℕ) (total : sum_of lengths ≤ length texts) (all : length lengths ≡ count * names) where
  abbrev starts : List ℕ
  starts = starts_from 0 lengths

  abbrev item : ℕ → List Text
  item yard = item_at starts texts (yard * names) names

  abbrev first : ℕ → ℕ
  first = first_of starts texts names count

  abbrev fields : ℕ → List Text
  fields = fields_to names lengths texts

  pub keep_starts : Keeping names count lengths texts before kept₀ held₀ before kept₀ held₀ 0 0 0
  unfolding spread numbers_from values_to firsts_after fields_of flat_map
  keep_starts = record {
    index = omega arith;
    firsts_are = refl;
    places_size = refl;
    lengths_are = record { place_after = refl; stored = refl };
    texts_are = record { place_after = refl; stored = refl };
    few_lengths = omega arith;
    few_bytes = omega arith;
  }

  pub inside : Inside starts texts (count * names)
  inside = subst (λ (n : ℕ). Inside starts texts n) all (starts_inside lengths texts total)

  values_more : (yard : ℕ) → values_to names lengths texts (yard + 1) ≡ values_to names lengths texts yard ++ (item yard ∷ [])
  unfolding values_to
  values_more yard = let e : 0 + yard ≡ yard = omega arith in
      ap (λ (n : ℕ). map item (numbers_from 0 n)) (add-one yard)
      ∙ (ap (map item) (numbers_more 0 yard) ∙ (map_more item (numbers_from 0 yard) ((0 + yard) ∷ []) ∙ ap (λ (n : ℕ). map item (numbers_from 0 yard) ++ (item n ∷ [])) e))

  module _ (places kept held : List ℕ) (sizes bytes yard : ℕ) (c : Keeping names count lengths texts before kept₀ held₀ places kept held sizes bytes yard) (h : yard < count) where
    among : yard * names + names ≤ count * names
    among = item_among yard count names h

    next_at : (yard + 1) * names ≡ yard * names + names
    next_at = ap (λ (n : ℕ). n * names) (add-one yard) ∙ suc-mul yard names

    here : Inside starts texts (yard * names + names)
    here = fewer_inside starts texts (count * names) (yard * names + names) among inside

    pub keep_inside : Inside starts texts (yard * names + names)
    keep_inside = here

    pub keep_climb : get_or starts (yard * names) 0 ≤ get_or starts (yard * names + names) 0
    keep_climb = starts_climb starts texts (yard * names) names here

    pub keep_to : yard * names + names ≤ length lengths
    keep_to = omega (arith, among, all)

    module _ (r : ℕ) (is : r ≡ first yard) where
      means : First (alike starts texts names yard) 0 yard r
      means = first_means starts texts names count yard h r is

      pub first_small : r < count
      first_small = omega (arith, means.most, h)

      spread_on : set places (2 * yard) r ≡ spread 0 (map first (numbers_from 0 (yard + 1))) before
      spread_on = let e : 0 + yard ≡ yard = omega arith in
          let many : length (map first (numbers_from 0 yard)) ≡ yard = length-map (numbers_from 0 yard) first ∙ numbers_many 0 yard in
          let at : 2 * yard ≡ 0 + 2 * length (map first (numbers_from 0 yard)) = omega (arith, many) in
          let list : map first (numbers_from 0 (yard + 1)) ≡ map first (numbers_from 0 yard) ++ (first yard ∷ []) = ap (λ (n : ℕ). map first (numbers_from 0 n))
          (add-one yard) ∙ (ap (map first) (numbers_more 0 yard) ∙ (map_more first (numbers_from 0 yard) ((0 + yard) ∷ []) ∙ ap (λ (n : ℕ). map first (numbers_from 0 yard) ++ (first n ∷ [])) e)) in
          ap (λ (l : List ℕ). set l (2 * yard) r) c.firsts_are ∙ (ap (λ (n : ℕ). set (spread 0 (map first (numbers_from 0 yard)) before) n r) at
          ∙ (ap (λ (n : ℕ). set (spread 0 (map first (numbers_from 0 yard)) before) (0 + 2 * length (map first (numbers_from 0 yard))) n) is
          ∙ (sym (spread_more 0 (map first (numbers_from 0 yard)) (first yard) before) ∙ ap (λ (l : List ℕ). spread 0 l before) (sym list))))

      size_on : length (set places (2 * yard) r) ≡ length before
      size_on = length-set places (2 * yard) r ∙ c.places_size

      -- a yard whose values came before
      pub keep_old : (r ≡ yard → ⊥) → Keeping names count lengths texts before kept₀ held₀ (set places (2 * yard) r) kept held sizes bytes (yard + 1)
      unfolding alike values_to
      keep_old not =
          let found : is_in same_texts (item yard) (values_to names lengths texts yard) ≡ true =
          in_some same_texts item (item yard) 0 yard r (omega arith) (omega (arith, means.most, not)) means.same in
          let same : fields (yard + 1) ≡ fields yard =
          ap (λ (l : List (List Text)). fields_of (firsts_after same_texts [] l)) (values_more yard) ∙
          ap fields_of (firsts_old same_texts texts_equal (values_to names lengths texts yard) (item yard) found) in
          record {
            index = omega arith;
            firsts_are = spread_on;
            places_size = size_on;
            lengths_are = subst (λ (ts : List Text). Stored kept₀ 0 (map length ts) kept sizes) (sym same) c.lengths_are;
            texts_are = subst (λ (ts : List Text). Stored held₀ 0 (joined ts) held bytes) (sym same) c.texts_are;
            few_lengths = omega (arith, c.few_lengths, next_at);
            few_bytes = rw next_at (omega (arith, c.few_bytes, keep_climb));
          }

      -- a yard with a record of its own
      pub keep_new : r ≡ yard → (kept' : List ℕ) (sizes' : ℕ) → Stored kept sizes (take (yard * names + names - yard * names) (drop (yard * names) lengths)) kept' sizes'
          → (held' : List ℕ) (bytes' : ℕ) → Stored held bytes (take (get_or starts (yard * names + names) 0 - get_or starts (yard * names) 0) (drop (get_or starts (yard * names) 0) texts))
          held' bytes'
          → Keeping names count lengths texts before kept₀ held₀ (set places (2 * yard) r) kept' held' sizes' bytes' (yard + 1)
      unfolding alike values_to
      keep_new own kept' sizes' s held' bytes' t =
          let none : is_in same_texts (item yard) (values_to names lengths texts yard) ≡ false = in_none same_texts item (item yard) 0 yard (λ j a b. means.none j a (omega (arith, b, own))) in
          let more : fields (yard + 1) ≡ fields yard ++ item yard =
          ap (λ (l : List (List Text)). fields_of (firsts_after same_texts [] l)) (values_more yard)
          ∙ (ap fields_of (firsts_new same_texts texts_equal (values_to names lengths texts yard) (item yard) none)
          ∙ (fields_more (firsts_after same_texts [] (values_to names lengths texts yard)) (item yard ∷ []) ∙ ap (λ (l : List Text). fields yard ++ l) (fields_one (item yard)))) in
          let width : yard * names + names - yard * names ≡ names = omega arith in
          let ls : map length (fields (yard + 1)) ≡ map length (fields yard) ++ take (yard * names + names - yard * names) (drop (yard * names) lengths) =
          ap (map length) more ∙
          (map_more length (fields yard) (item yard) ∙
          ap (λ (l : List ℕ). map length (fields yard) ++ l)
          (item_lengths lengths texts total (yard * names) names keep_to ∙ ap (λ (n : ℕ). take n (drop (yard * names) lengths)) (sym width))) in
          let bs : joined (fields (yard + 1)) ≡ joined (fields yard) ++ take (get_or starts (yard * names + names) 0 - get_or starts (yard * names) 0) (drop (get_or starts (yard * names) 0) texts) =
          ap joined more ∙ (flat_more (λ (x : Text). x) (fields yard) (item yard) ∙ ap (λ (l : List ℕ). joined (fields yard) ++ l) (item_bytes starts texts (yard * names) names here)) in
          let long : length (take (yard * names + names - yard * names) (drop (yard * names) lengths)) ≤ names =
          omega (arith, length-take (yard * names + names - yard * names) (drop (yard * names) lengths), width) in
          let deep : length (take (get_or starts (yard * names + names) 0 - get_or starts (yard * names) 0) (drop (get_or starts (yard * names) 0) texts)) ≤ get_or starts (yard * names + names) 0 -
          get_or starts (yard * names) 0 = omega (arith, length-take (get_or starts (yard * names + names) 0 - get_or starts (yard * names) 0) (drop (get_or starts (yard * names) 0) texts)) in
          record {
            index = omega arith;
            firsts_are = spread_on;
            places_size = size_on;
            lengths_are = subst (λ (l : List ℕ). Stored kept₀ 0 l kept' sizes') (sym ls)
                (stored_then (map length (fields yard)) (take (yard * names + names - yard * names) (drop (yard * names) lengths)) c.lengths_are s);
            texts_are = subst (λ (l : List ℕ). Stored held₀ 0 l held' bytes') (sym bs)
                (stored_then (joined (fields yard)) (take (get_or starts (yard * names + names) 0 - get_or starts (yard * names) 0) (drop (get_or starts (yard * names) 0) texts)) c.texts_are
                t);
            few_lengths = omega (arith, c.few_lengths, next_at, s.place_after, long);
            few_bytes = rw next_at (omega (arith, c.few_bytes, t.place_after, deep, keep_climb));
          }

  pub keep_ends : (places kept held : List ℕ) (sizes bytes yard : ℕ) → Keeping names count lengths texts before kept₀ held₀ places kept held sizes bytes yard → count ≤ yard →
      Keeps names count lengths texts before places kept₀ kept held₀ held sizes bytes
  keep_ends places kept held sizes bytes yard c h = let e : yard ≡ count = omega (arith, c.index) in record {
    first = c.firsts_are ∙ ap (λ (n : ℕ). spread 0 (map first (numbers_from 0 n)) before) e;
    lengths_are = subst (λ (n : ℕ). Stored kept₀ 0 (map length (fields n)) kept sizes) e c.lengths_are;
    texts_are = subst (λ (n : ℕ). Stored held₀ 0 (joined (fields n)) held bytes) e c.texts_are;
  }

-- ---- over what the function is lent
starts_begin : (ns : List ℕ) → get_or (starts_from 0 ns) 0 0 ≡ 0
unfolding starts_from
starts_begin [] = refl
starts_begin (n ∷ ns) = refl

pub starts_within : (lengths texts : List ℕ) (j : ℕ) → Inside (starts_from 0 lengths) texts j → get_or (starts_from 0 lengths) j 0 ≤ length texts
starts_within lengths texts zero c = omega (arith, starts_begin lengths)
starts_within lengths texts (suc j) c = starts_most (starts_from 0 lengths) texts (suc j) c (omega arith)

module _ (names : ℕ) (lengths texts starts keys before kept₀ held₀ : List ℕ) (begin : starts ≡ starts_from 0 lengths) (total : sum_of lengths ≤ length texts)
    (all : length lengths ≡ length keys * names) where
  pub lent_inside : Inside starts texts (length keys * names)
  lent_inside = subst (λ (s : List ℕ). Inside s texts (length keys * names)) (sym begin) (inside names (length keys) lengths texts before kept₀ held₀ total all)

  module _ (places kept held : List ℕ) (sizes bytes yard : ℕ) (c : Keeping names (length keys) lengths texts before kept₀ held₀ places kept held sizes bytes yard) (h : yard < length keys) where
    own : Inside (starts_from 0 lengths) texts (yard * names + names)
    own = keep_inside names (length keys) lengths texts before kept₀ held₀ total all places kept held sizes bytes yard c h

    pub lent_here : Inside starts texts (yard * names + names)
    lent_here = subst (λ (s : List ℕ). Inside s texts (yard * names + names)) (sym begin) own

    pub lent_climb : get_or starts (yard * names) 0 ≤ get_or starts (yard * names + names) 0
    lent_climb = subst (λ (s : List ℕ). get_or s (yard * names) 0 ≤ get_or s (yard * names + names) 0) (sym begin)
        (keep_climb names (length keys) lengths texts before kept₀ held₀ total all places kept held sizes bytes yard c h)

    pub lent_most : get_or starts (yard * names + names) 0 ≤ length texts
    lent_most = subst (λ (s : List ℕ). get_or s (yard * names + names) 0 ≤ length texts) (sym begin) (starts_within lengths texts (yard * names + names) own)

    pub lent_to : yard * names + names ≤ length lengths
    lent_to = keep_to names (length keys) lengths texts before kept₀ held₀ total all places kept held sizes bytes yard c h

    pub lent_put_words : length lengths < 2 ^ 32 → sizes + length (take (yard * names + names - yard * names) (drop (yard * names) lengths)) < 2 ^ 62
    lent_put_words few = omega (arith, c.few_lengths, lent_to, few, length-take (yard * names + names - yard * names) (drop (yard * names) lengths))

    pub lent_put_bytes : length texts < 2 ^ 32 → bytes + length (take (get_or starts (yard * names + names) 0 - get_or starts (yard * names) 0) (drop (get_or starts (yard * names) 0) texts)) < 2 ^ 62
    lent_put_bytes few = let b : bytes ≤ get_or starts (yard * names) 0 = subst (λ (s : List ℕ). bytes ≤ get_or s (yard * names) 0) (sym begin) c.few_bytes in
        omega (arith, b, lent_climb, lent_most, few, length-take (get_or starts (yard * names + names) 0 - get_or starts (yard * names) 0) (drop (get_or starts (yard * names) 0) texts))

    module _ (r : ℕ) (is : r ≡ first_of starts texts names (length keys) yard) where
      is' : r ≡ first_of (starts_from 0 lengths) texts names (length keys) yard
      is' = is ∙ ap (λ (s : List ℕ). first_of s texts names (length keys) yard) begin

      pub lent_first : r < length keys
      lent_first = first_small names (length keys) lengths texts before kept₀ held₀ total all places kept held sizes bytes yard c h r is'

      pub lent_old : (r ≡ yard → ⊥) → Keeping names (length keys) lengths texts before kept₀ held₀ (set places (2 * yard) r) kept held sizes bytes (yard + 1)
      lent_old = keep_old names (length keys) lengths texts before kept₀ held₀ total all places kept held sizes bytes yard c h r is'

      pub lent_new : r ≡ yard → (kept' : List ℕ) (sizes' : ℕ) → Stored kept sizes (take (yard * names + names - yard * names) (drop (yard * names) lengths)) kept' sizes'
          → (held' : List ℕ) (bytes' : ℕ) → Stored held bytes (take (get_or starts (yard * names + names) 0 - get_or starts (yard * names) 0) (drop (get_or starts (yard * names) 0) texts))
          held' bytes'
          → Keeping names (length keys) lengths texts before kept₀ held₀ (set places (2 * yard) r) kept' held' sizes' bytes' (yard + 1)
      lent_new mine kept' sizes' s held' bytes' t =
          keep_new names (length keys) lengths texts before kept₀ held₀ total all places kept held sizes bytes yard c h r is' mine kept' sizes' s held' bytes'
          (subst (λ (x : List ℕ). Stored held bytes (take (get_or x (yard * names + names) 0 - get_or x (yard * names) 0) (drop (get_or x (yard * names) 0) texts)) held' bytes') begin t)
