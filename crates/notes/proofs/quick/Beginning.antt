-- A yard more as it lies in a builder's lists: its values, and the notes beside them. Assumes nothing.
use Rattle.numbers.proofs.Prelude.{ℕ, ◌+◌, ◌-◌, ◌*◌, ℤ, length, take, get_or, length-map, take_at, take-append_seam, get_or_at, List, [], ◌∷◌, ◌++◌, map, flat_map, ◌≡◌, sym, ap, subst, ◌∙◌, add-one}
use Rattle.numbers.proofs.Prelude.{arith}
use lib.Seq.{get_or-append_seam}
use Rattle.builder.{proofs.grouping.Listed.{numbers_many}, specs.{Borders.{Drawn}, Grouping.{Items.{item_at, starts_from}, Keys.{numbers_from}}, Metadata.{inlined, records_of, remotes}}}
use Rattle.builder.specs.Yards.{Text, Yard}
use Rattle.notes.specs.{Chains.{Chains.{Chained}, Entered.{bucket_of, is_field, is_first}}, Noted.Records.{fields_in}, declared.quick.step.Numbers.{Numbers}, inner.Quick.Placed.{Beside}}
use Rattle.notes.specs.inner.Quick.Steps.{Stepping}
use Rattle.draft.{proofs.held.{Begins.{section_size}, Valued.{held_all, held_values, held_whole}}, specs.Held.Totals.{totals_for}}
use Rattle.build.{proofs.metadata.{Begun.{values_on}, Shared.{map_more}}, specs.Metadata.Kept.{values_to}}

-- two lists that are equal with an item more
last_same : {A : Type 0} (xs ys : List A) (x y : A) → length xs ≡ length ys → xs ++ (x ∷ []) ≡ ys ++ (y ∷ []) → (xs ≡ ys) × (x ≡ y)
last_same {A} xs ys x y many e = (
  sym (take-append_seam xs (x ∷ [])) ∙ (ap (take (length xs)) e ∙ take_at ys (y ∷ []) (length xs) (sym many)),
  sym (get_or-append_seam xs x [] x) ∙ (ap (λ (l : List A). get_or l (length xs) x) e ∙ get_or_at ys y [] x (length xs) (sym many)),
)

module _ (yards : List Yard) (y : Yard) (drawn drawn' : Drawn) (names count : ℕ) (numbers : Numbers) (boxes : List ℤ) (borders lengths starts texts chains groups begins : List ℕ)
    (s : Stepping yards y drawn drawn' names count numbers boxes borders lengths starts texts chains groups begins) where
  two_values : (map (λ (x : Yard). x.values) yards ≡ values_to names lengths texts count) × (y.values ≡ item_at (starts_from 0 lengths) texts (count * names) names)
  unfolding values_to
  two_values =
      let item : ℕ → List Text = λ yard. item_at (starts_from 0 lengths) texts (yard * names) names in
      let many : length (map (λ (x : Yard). x.values) yards) ≡ length (values_to names lengths texts count) =
      omega (arith, length-map yards (λ (x : Yard). x.values), length-map (numbers_from 0 count) item, numbers_many 0 count, s.many) in
      last_same (map (λ (x : Yard). x.values) yards) (values_to names lengths texts count) y.values (item count) many
      (sym (map_more (λ (x : Yard). x.values) yards (y ∷ []))
      ∙ (held_values (yards ++ (y ∷ [])) drawn' names (count + 1) boxes borders lengths texts s.stands ∙ (ap (values_to names lengths texts) (add-one count) ∙ values_on names lengths texts count)))

  remote_is : numbers.metadata - numbers.records ≡ length (flat_map inlined (remotes (fields_in yards)))
  unfolding totals_for
  remote_is = omega (arith, s.metadata_is, section_size (records_of yards), s.records_is)

  -- The notes are what a search and a weighing ask for.
  pub beside : Beside yards y names count numbers.records (numbers.metadata - numbers.records) lengths starts texts chains groups begins
  beside = let begun : starts_from 0 lengths ≡ starts = sym s.starts_are in record {
    behind = record {
      values_are = two_values.0;
      own = two_values.1 ∙ ap (λ (l : List ℕ). item_at l texts (count * names) names) begun;
      noted = record {
        begin = s.starts_are;
        all = held_all (yards ++ (y ∷ [])) drawn' names (count + 1) boxes borders lengths texts s.stands;
        whole = omega (arith, held_whole (yards ++ (y ∷ [])) drawn' names (count + 1) boxes borders lengths texts s.stands);
        fields = subst (λ (l : List ℕ). Chained (bucket_of l texts 1) (is_field names lengths texts) (count * names) chains) begun s.indexed.fields;
      };
      records_is = s.records_is;
      remote_is = remote_is;
    };
    grouped = subst (λ (l : List ℕ). Chained (bucket_of l texts names) (is_first names lengths texts) count groups) begun s.indexed.records;
    begins_are = s.begins_are;
  }
