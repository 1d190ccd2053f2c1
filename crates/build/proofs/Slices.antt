-- The lengths and texts of a plan's values, as parts of what is lent. Assumes nothing.
use Rattle.numbers.proofs.Prelude.{ℕ, ◌+◌, ◌-◌, ◌*◌, ◌/◌, ◌^◌, ◌≤◌, ◌<◌, leb-true, eqb, ltb, leb, ℤ, length, take, drop, length-drop, length-take-le, take-add, Bool, true, ◌&&◌, List, [], ◌∷◌, ◌++◌}
use Rattle.numbers.proofs.{Prelude.{map, ◌≡◌, sym, ap, ◌∙◌, mul_comm, arith}, Tests.{both}}
use Rattle.writer.specs.Writer.{every}
use Rattle.builder.{proofs.Counting.{values_many, lengths_room}, specs.{File.{is_text, are_texts}, Yards.{Yard, plan_of, cut_by, sum_of, values_from, counts_good, lengths_good}}}
use Rattle.header.specs.Utf8.{is_utf8}
use Rattle.build.specs.{Checked.{lent_as}, Metadata.Kept.{values_to}}
use Rattle.build.proofs.{Planned.{few_names, few_yards, all_lengths}, Valued.{values_are}}

sum_more : (xs ys : List ℕ) → sum_of (xs ++ ys) ≡ sum_of xs + sum_of ys
unfolding sum_of
sum_more [] ys = omega arith
sum_more (x ∷ xs) ys = omega (arith, sum_more xs ys)

-- texts have at most 255 bytes each
pub texts_few : (lengths texts : List ℕ) → sum_of lengths ≤ length texts → every is_text (cut_by lengths texts) ≡ true → sum_of lengths ≤ 255 * length lengths
unfolding sum_of cut_by every is_text
texts_few [] texts h e = omega arith
texts_few (n ∷ ns) texts h e = let t : List ℕ = take n texts in let two = both (leb (length t) 255 && is_utf8 t) (every is_text (cut_by ns (drop n texts))) e in
    let small : length (take n texts) ≤ 255 = leb-true (length t) 255 (both (leb (length t) 255) (is_utf8 t) two.0).0 in
    let size : length (take n texts) ≡ n = length-take-le n texts (omega arith) in
    omega (arith, small, size, texts_few ns (drop n texts) (omega (arith, length-drop n texts)) two.1)

module _ (names : ℕ) (yards lengths texts : List ℕ) (good : counts_good names yards (length lengths) ≡ true)
    (fine : are_texts (take (names + 1 + names * (length yards / 4)) lengths) texts ≡ true) where
  abbrev count : ℕ
  count = length yards / 4

  abbrev front : ℕ
  front = names + 1

  -- the values' lengths
  abbrev pub value_lengths : List ℕ
  value_lengths = take (names + 1 + names * (length yards / 4) - (names + 1)) (drop (names + 1) lengths)

  all_there : names + 1 + names * (length yards / 4) ≤ length lengths
  all_there = all_lengths names yards (length lengths) good

  as_fields : take (count * names) (drop front lengths) ≡ value_lengths
  as_fields = let e : count * names ≡ names + 1 + names * (length yards / 4) - (names + 1) = mul_comm count names ∙ omega arith in
      ap (λ (n : ℕ). take n (drop front lengths)) e

  valued : every (eqb names) (values_from yards) ≡ true
  unfolding counts_good lengths_good
  valued = let v : Bool = every (eqb names) (values_from yards) in let reach : Bool = leb (names + 1 + names * (length yards / 4)) (length lengths) in
      let one = both (ltb 0 (length yards / 4)) (leb (length yards / 4) 4096 && (leb names 255 && (v && reach))) good in
      (both v reach (both (leb names 255) (v && reach) (both (leb (length yards / 4) 4096) (leb names 255 && (v && reach)) one.1).1).1).0

  pub told : (sum_of (take (names + 1 + names * (length yards / 4)) lengths) ≤ length texts) × (every is_text (cut_by (take (names + 1 + names * (length yards / 4)) lengths) texts) ≡ true)
  unfolding are_texts
  told = let ls : List ℕ = take (names + 1 + names * (length yards / 4)) lengths in
      let two = both (leb (sum_of ls) (length texts)) (every is_text (cut_by ls texts)) fine in (leb-true (sum_of ls) (length texts) two.0, two.1)

  pub value_few : length yards / 4 ≤ 4096
  value_few = few_yards names yards (length lengths) good

  -- a value for each name of each yard
  pub value_all : length value_lengths ≡ length yards / 4 * names
  value_all =
      ap length (sym as_fields) ∙ length-take-le (count * names) (drop front lengths) (omega (arith, length-drop front lengths, all_there, mul_comm count names))

  pub sums : sum_of (take (names + 1 + names * (length yards / 4)) lengths) ≡ sum_of (take (names + 1) lengths) + sum_of value_lengths
  sums = let e : names * (length yards / 4) ≡ names + 1 + names * (length yards / 4) - (names + 1) = omega arith in
      ap sum_of (take-add (names + 1) (names * (length yards / 4)) lengths ∙ ap (λ (n : ℕ). take (names + 1) lengths ++ take n (drop (names + 1) lengths)) e)
      ∙ sum_more (take (names + 1) lengths) value_lengths

  pub value_bound : sum_of value_lengths + 10 * length value_lengths < 2 ^ 32
  value_bound = let ls : List ℕ = take (names + 1 + names * (length yards / 4)) lengths in let few = texts_few ls texts told.0 told.1 in
      let size : length ls ≡ names + 1 + names * (length yards / 4) = length-take-le (names + 1 + names * (length yards / 4)) lengths all_there in
      let room : names * (length yards / 4) ≤ 1044480 = lengths_room names (length yards / 4) (few_names names yards (length lengths) good) value_few in
      omega (arith, few, size, room, few_names names yards (length lengths) good, sums, value_all, mul_comm count names)

  module _ (behind sum : ℕ) (eb : behind ≡ sum_of (take (names + 1) lengths)) (es : sum ≡ sum_of (take (names + 1 + names * (length yards / 4)) lengths)) where
    -- the values' texts
    abbrev pub value_texts : List ℕ
    value_texts = take (sum - behind) (drop behind texts)

    pub value_end : sum ≤ length texts
    value_end = omega (arith, es, told.0)

    pub value_whole : length value_texts ≡ sum_of value_lengths
    value_whole = length-take-le (sum - behind) (drop behind texts) (omega (arith, value_end, length-drop behind texts)) ∙ omega (arith, eb, es, sums)

    -- the values of the plan's yards
    pub plan_values : (kind version precision : ℕ) (lats lons : List ℤ) (pieces : List ℕ)
        → map (λ (y : Yard). y.values) (plan_of (lent_as kind version precision names yards lats lons pieces lengths texts)).yards ≡ values_to names value_lengths value_texts (length yards / 4)
    unfolding plan_of
    plan_values kind version precision lats lons pieces =
        values_are names yards lats lons pieces lengths texts count valued (values_many yards) behind eb (ap length as_fields ∙ value_all) (sum - behind)
        (omega (arith, ap sum_of as_fields, eb, es, sums)) ∙ ap (λ (ls : List ℕ). values_to names ls value_texts count) as_fields
