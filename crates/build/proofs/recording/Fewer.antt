-- The fields of the records are no more, and no longer, than the values of all yards. Assumes nothing.
use Rattle.numbers.proofs.Prelude.{ℕ, zero, suc, ◌+◌, ◌*◌, ◌≤◌, ◌<◌, length, take, drop, length-append, drop-drop, take_all, take-add, Bool, true, false, List, [], ◌∷◌, ◌++◌, map, flat_map, ◌≡◌, refl}
use Rattle.numbers.{proofs.Prelude.{sym, ap, ◌∙◌, suc-mul, arith}, specs.Answer.{if◌then◌else◌}}
use Rattle.builder.proofs.{Counting.{cut_many}, Inlines.{word_few}, Shortest.{records_size, layout_least}, grouping.{Meant.{item_part}, Walks.{item_among}}}
use Rattle.builder.specs.{Grouping.{Items.{starts_from, item_at}, Keys.{numbers_from}}, Metadata.{fields_of, written, layout_of}, Sharing.{is_in, firsts_after, same_texts}}
use Rattle.builder.specs.Yards.{Text, cut_by, sum_of}
use Rattle.layout.specs.inner.Layout.{Fits}
use Rattle.build.proofs.metadata.{Begun.{field_written}, Itemed.{cut_lengths}}
use Rattle.build.specs.{Metadata.Kept.{values_to, fields_to, joined}, inner.Metadata.Words.{word_in}}

-- ---- lists by their numbers
pub map_same : {A : Type 0} (f g : ℕ → A) (i n : ℕ) → ((k : ℕ) → i ≤ k → k < i + n → f k ≡ g k) → map f (numbers_from i n) ≡ map g (numbers_from i n)
unfolding numbers_from
map_same f g i zero e = refl
map_same {A} f g i (suc n) e =
    ap (λ (x : A). x ∷ map f (numbers_from (suc i) n)) (e i (omega arith) (omega arith)) ∙ ap (λ (l : List A). g i ∷ l) (map_same f g (suc i) n (λ k a b. e k (omega arith) (omega arith)))

-- ---- the first of each are among all
module _ (weight : List Text → ℕ) (sum : (xs ys : List Text) → weight (xs ++ ys) ≡ weight xs + weight ys) where
  pub firsts_light : (seen rs : List (List Text)) → weight (fields_of (firsts_after same_texts seen rs)) ≤ weight (fields_of rs)
  unfolding firsts_after fields_of
  firsts_light seen [] = omega arith
  firsts_light seen (r ∷ rs) = go (is_in same_texts r seen) (firsts_light seen rs) (firsts_light (r ∷ seen) rs) where
    go : (t : Bool) → weight (fields_of (firsts_after same_texts seen rs)) ≤ weight (fields_of rs) → weight (fields_of (firsts_after same_texts (r ∷ seen) rs)) ≤ weight (fields_of rs)
        → weight (fields_of (if t then firsts_after same_texts seen rs else (r ∷ firsts_after same_texts (r ∷ seen) rs))) ≤ weight (r ++ fields_of rs)
    go true a b = omega (arith, a, sum r (fields_of rs))
    go false a b = omega (arith, b, sum r (fields_of rs), sum r (fields_of (firsts_after same_texts (r ∷ seen) rs)))

-- ---- the values of all yards are all texts
parts_join : (names : ℕ) (l : List Text) (i n : ℕ) → fields_of (map (λ (k : ℕ). take names (drop (k * names) l)) (numbers_from i n)) ≡ take (n * names) (drop (i * names) l)
unfolding fields_of numbers_from
parts_join names l i zero = let e : 0 ≡ 0 * names = omega arith in ap (λ (k : ℕ). take k (drop (i * names) l)) e
parts_join names l i (suc n) = let e : suc n * names ≡ names + n * names = suc-mul n names ∙ omega arith in
    let d : suc i * names ≡ i * names + names = suc-mul i names in
    ap (λ (x : List Text). take names (drop (i * names) l) ++ x) (parts_join names l (suc i) n ∙ ap (λ (k : ℕ). take (n * names) (drop k l)) d
    ∙ ap (take (n * names)) (sym (drop-drop names (i * names) l))) ∙ (sym (take-add names (n * names) (drop (i * names) l)) ∙ ap (λ (k : ℕ). take k (drop (i * names) l)) (sym e))

joined_more : (xs ys : List Text) → length (joined (xs ++ ys)) ≡ length (joined xs) + length (joined ys)
unfolding flat_map
joined_more [] ys = omega arith
joined_more (x ∷ xs) ys = length-append x (joined (xs ++ ys)) ∙ omega (arith, joined_more xs ys, length-append x (joined xs))

pub joined_sum : (ts : List Text) → length (joined ts) ≡ sum_of (map length ts)
unfolding flat_map sum_of
joined_sum [] = refl
joined_sum (t ∷ ts) = length-append t (joined ts) ∙ ap (λ (n : ℕ). length t + n) (joined_sum ts)

module _ (names count : ℕ) (lengths texts : List ℕ) (all : length lengths ≡ count * names) where
  values_join : fields_of (values_to names lengths texts count) ≡ cut_by lengths texts
  unfolding values_to
  values_join = let many : length (cut_by lengths texts) ≡ length lengths = cut_many lengths texts in let none : 0 * names ≡ 0 = omega arith in
      ap fields_of (map_same (λ (k : ℕ). item_at (starts_from 0 lengths) texts (k * names) names) (λ (k : ℕ). take names (drop (k * names) (cut_by lengths texts))) 0 count
      (λ k a b. item_part lengths texts (k * names) names (omega (arith, all, item_among k count names (omega arith)))))
      ∙ (parts_join names (cut_by lengths texts) 0 count ∙ ap (λ (k : ℕ). take (count * names) (drop k (cut_by lengths texts))) none ∙
      take_all (count * names) (cut_by lengths texts) (omega (arith, many, all)))

  pub fields_few : length (fields_to names lengths texts count) ≤ length lengths
  fields_few = omega (arith, firsts_light length (λ xs ys. length-append xs ys) [] (values_to names lengths texts count), ap length values_join, cut_many lengths texts)

  pub fields_short : sum_of lengths ≤ length texts → length (joined (fields_to names lengths texts count)) ≤ sum_of lengths
  fields_short whole =
      omega (
        arith,
        firsts_light (λ ts. length (joined ts)) joined_more [] (values_to names lengths texts count),
        ap (λ (l : List Text). length (joined l)) values_join,
        joined_sum (cut_by lengths texts),
        ap sum_of (cut_lengths lengths texts whole),
      )

-- ---- a layout takes no more than the texts and ten bytes a field
pub written_few : (fields : List Text) (records : ℕ) (ts : List Text) → length (flat_map (written fields records) ts) ≤ length (joined ts) + 10 * length ts
unfolding flat_map
written_few fields records [] = omega arith
written_few fields records (t ∷ ts) =
    omega (
      arith,
      length-append (written fields records t) (flat_map (written fields records) ts),
      length-append t (joined ts),
      ap length (field_written fields records t),
      word_few records (word_in fields t) t,
      written_few fields records ts,
    )

pub layout_few : (fields : List Text) → layout_of fields ≤ length (joined fields) + 10 * length fields
unfolding Fits
layout_few fields = omega (arith, (layout_least fields).fits, records_size fields (layout_of fields) fields, written_few fields (layout_of fields) fields)
