-- Yards with one more of them: what it does to records, begins and entries, where its values are shared or its step is sure. Assumes nothing.
use Rattle.numbers.proofs.Prelude.{ℕ, ◌+◌, length, Bool, true, false, ◌||◌, List, [], ◌∷◌, ◌++◌, map, flat_map, zip_with, ◌≡◌, refl, sym, ap, ◌∙◌, arith}
use Rattle.numbers.{proofs.Tests.{differ}, specs.{Answer.{if◌then◌else◌}, Spelling.{varint_of}}}
use Rattle.builder.{proofs.grouping.{Keyed.{texts_equal}, Meant.{texts_itself}}, specs.{Entries.{Entry, box_of}, File.{entry_of}}}
use Rattle.builder.specs.{Metadata.{fields_of, inlined, layout_of, metadata_of, records_of, remotes, start_of, written}, Sharing.{same_texts, is_in, firsts_after}, Yards.{Text, Yard}}
use Rattle.draft.proofs.held.{Begins.{sure_metadata, sure_begin, sure_new, layout_on, fields_on}, Sure.{Sure}}
use Rattle.layout.proofs.Everyone.{Every}
use Rattle.build.proofs.metadata.Shared.{map_more, firsts_new, firsts_old}
use Rattle.notes.specs.{Noted.Records.{fields_in, begin_in}, inner.Noted.OneMore.{OneMore}}

-- ---- the first of each are just those that there are
in_firsts : (x : List Text) (seen xs : List (List Text)) → is_in same_texts x xs ≡ true → (is_in same_texts x seen || is_in same_texts x (firsts_after same_texts seen xs)) ≡ true
unfolding is_in firsts_after
in_firsts x seen [] e = differ e
in_firsts x seen (y ∷ xs) e = go (same_texts x y) refl (is_in same_texts y seen) refl e (in_firsts x seen xs) (in_firsts x (y ∷ seen) xs) where
  right : (a : Bool) → (a || true) ≡ true
  right true = refl
  right false = refl

  middle : (a b c : Bool) → ((b || a) || c) ≡ true → b ≡ false → (a || (b || c)) ≡ true
  middle true b c e z = refl
  middle false true c e z = refl
  middle false false c e z = e

  go : (a : Bool) → same_texts x y ≡ a → (b : Bool) → is_in same_texts y seen ≡ b → (a || is_in same_texts x xs) ≡ true
      → (is_in same_texts x xs ≡ true → (is_in same_texts x seen || is_in same_texts x (firsts_after same_texts seen xs)) ≡ true)
      → (is_in same_texts x xs ≡ true → ((same_texts x y || is_in same_texts x seen) || is_in same_texts x (firsts_after same_texts (y ∷ seen) xs)) ≡ true)
      → (is_in same_texts x seen || is_in same_texts x (if b then firsts_after same_texts seen xs else (y ∷ firsts_after same_texts (y ∷ seen) xs))) ≡ true
  go true ea true eb e k l = ap (λ (t : Bool). t || is_in same_texts x (firsts_after same_texts seen xs)) (ap (λ (z : List Text). is_in same_texts z seen) (texts_equal x y ea) ∙ eb)
  go true ea false eb e k l = ap (λ (t : Bool). is_in same_texts x seen || (t || is_in same_texts x (firsts_after same_texts (y ∷ seen) xs))) ea ∙ right (is_in same_texts x seen)
  go false ea true eb e k l = k e
  go false ea false eb e k l = middle (is_in same_texts x seen) (same_texts x y) (is_in same_texts x (firsts_after same_texts (y ∷ seen) xs)) (l e) ea

not_in_firsts : (x : List Text) (seen xs : List (List Text)) → is_in same_texts x xs ≡ false → is_in same_texts x (firsts_after same_texts seen xs) ≡ false
unfolding is_in firsts_after
not_in_firsts x seen [] e = refl
not_in_firsts x seen (y ∷ xs) e = go (same_texts x y) refl (is_in same_texts y seen) e (not_in_firsts x seen xs) (not_in_firsts x (y ∷ seen) xs) where
  go : (a : Bool) → same_texts x y ≡ a → (b : Bool) → (a || is_in same_texts x xs) ≡ false → (is_in same_texts x xs ≡ false → is_in same_texts x (firsts_after same_texts seen xs) ≡ false)
      → (is_in same_texts x xs ≡ false → is_in same_texts x (firsts_after same_texts (y ∷ seen) xs) ≡ false)
      → is_in same_texts x (if b then firsts_after same_texts seen xs else (y ∷ firsts_after same_texts (y ∷ seen) xs)) ≡ false
  go true ea b e k l = differ (sym e)
  go false ea true e k l = k e
  go false ea false e k l = ap (λ (t : Bool). t || is_in same_texts x (firsts_after same_texts (y ∷ seen) xs)) ea ∙ l e

abbrev values_in : List Yard → List (List Text)
values_in yards = map (λ y. y.values) yards

module _ (yards : List Yard) (y : Yard) where
  -- ---- with values that another yard has
  module _ (shared : is_in same_texts y.values (map (λ y. y.values) yards) ≡ true) where
    same_records : records_of (yards ++ (y ∷ [])) ≡ records_of yards
    same_records = ap (firsts_after same_texts []) (map_more (λ (y : Yard). y.values) yards (y ∷ [])) ∙ firsts_old same_texts texts_equal (values_in yards) y.values shared

    pub shared_more : OneMore yards y 0 (start_of (records_of yards) y.values)
    shared_more = let plain : length (metadata_of (records_of yards)) ≡ length (metadata_of (records_of yards)) + 0 = omega arith in
        let least : layout_of (fields_in yards) ≡ layout_of (fields_in yards) + 0 = omega arith in record {
          metadata_on = ap (λ (rs : List (List Text)). length (metadata_of rs)) same_records ∙ plain;
          layout_is = ap (λ (rs : List (List Text)). layout_of (fields_of rs)) same_records ∙ least;
          begins_on = λ x e. ap (λ (rs : List (List Text)). start_of rs x.values) same_records;
          begin_is = ap (λ (rs : List (List Text)). start_of rs y.values) same_records;
        }

  -- ---- with values of its own
  module _ (new : is_in same_texts y.values (map (λ y. y.values) yards) ≡ false) (sure : Every (Sure (fields_in yards) y.values) y.values) (by : ℕ)
      (size : by ≡ length (flat_map (written (fields_in yards) (layout_of (fields_in yards))) y.values))
      (kept : length (varint_of (256 + layout_of (fields_in yards))) ≡ length (varint_of (255 + layout_of (fields_in yards) + by + length (flat_map inlined (remotes (fields_in yards)))))) where
    one_record : records_of (yards ++ (y ∷ [])) ≡ records_of yards ++ (y.values ∷ [])
    one_record = ap (firsts_after same_texts []) (map_more (λ (y : Yard). y.values) yards (y ∷ [])) ∙ firsts_new same_texts texts_equal (values_in yards) y.values new

    pub own_more : OneMore yards y by (layout_of (fields_in yards))
    unfolding is_in
    own_more = let rs : List (List Text) = records_of yards in
        let fields : fields_in (yards ++ (y ∷ [])) ≡ fields_in yards ++ y.values = ap fields_of one_record ∙ fields_on (records_of yards) y.values sure by size kept in record {
          metadata_on = ap (λ (rs : List (List Text)). length (metadata_of rs)) one_record ∙ sure_metadata rs y.values sure by size kept;
          layout_is = ap layout_of fields ∙ layout_on rs y.values sure by size kept;
          begins_on = λ x e. ap (λ (rs : List (List Text)). start_of rs x.values) one_record ∙ sure_begin rs y.values sure by size kept x.values (in_firsts x.values [] (values_in yards) e);
          begin_is = ap (λ (rs : List (List Text)). start_of rs y.values) one_record ∙ sure_new rs y.values sure by size kept (not_in_firsts y.values [] (values_in yards) new);
        }

-- ---- what follows for the lists
values_found : (all rest : List Yard) → ((x : Yard) → is_in same_texts x.values (map (λ y. y.values) rest) ≡ true → is_in same_texts x.values (map (λ y. y.values) all) ≡ true)
    → (x : Yard) (xs : List Yard) → rest ≡ x ∷ xs → is_in same_texts x.values (map (λ y. y.values) all) ≡ true
unfolding is_in
values_found all rest h x xs e =
    h x (ap (λ (l : List Yard). is_in same_texts x.values (map (λ y. y.values) l)) e ∙ ap (λ (b : Bool). b || is_in same_texts x.values (map (λ y. y.values) xs)) (texts_itself x.values))

later_in : (all : List Yard) (x : Yard) (xs : List Yard) → ((z : Yard) → is_in same_texts z.values (map (λ y. y.values) (x ∷ xs)) ≡ true → is_in same_texts z.values
    (map (λ y. y.values) all) ≡ true) → (z : Yard) → is_in same_texts z.values (map (λ y. y.values) xs) ≡ true → is_in same_texts z.values (map (λ y. y.values) all) ≡ true
unfolding is_in
later_in all x xs h z e = h z (ap (λ (b : Bool). same_texts z.values x.values || b) e ∙ right (same_texts z.values x.values)) where
  right : (a : Bool) → (a || true) ≡ true
  right true = refl
  right false = refl

module _ (yards : List Yard) (y : Yard) (by begin : ℕ) (m : OneMore yards y by begin) where
  abbrev grown : List Yard
  grown = yards ++ (y ∷ [])

  begins_from : (xs : List Yard) → ((z : Yard) → is_in same_texts z.values (map (λ y. y.values) xs) ≡ true → is_in same_texts z.values (map (λ y. y.values) yards) ≡ true)
      → map (begin_in (yards ++ (y ∷ []))) (xs ++ (y ∷ [])) ≡ map (begin_in yards) xs ++ (begin ∷ [])
  begins_from [] h = ap (λ (n : ℕ). n ∷ []) m.begin_is
  begins_from (x ∷ xs) h =
      ap (λ (n : ℕ). n ∷ map (begin_in grown) (xs ++ (y ∷ []))) (m.begins_on x (values_found yards (x ∷ xs) h x xs refl))
      ∙ ap (λ (l : List ℕ). begin_in yards x ∷ l) (begins_from xs (later_in yards x xs h))

  -- where the records begin
  pub begins_more : map (begin_in (yards ++ (y ∷ []))) (yards ++ (y ∷ [])) ≡ map (begin_in yards) yards ++ (begin ∷ [])
  begins_more = begins_from yards (λ z e. e)

  -- the new entry
  abbrev pub entry_new : ℕ → Entry
  entry_new place = record { bounds = box_of y.lats y.lons; record' = begin; border = place }

  entries_from : (place : ℕ) (xs : List Yard) (ps : List ℕ) → length ps ≡ length xs →
      ((z : Yard) → is_in same_texts z.values (map (λ y. y.values) xs) ≡ true → is_in same_texts z.values (map (λ y. y.values) yards) ≡ true)
      → zip_with (entry_of (yards ++ (y ∷ []))) (xs ++ (y ∷ [])) (ps ++ (place ∷ [])) ≡ zip_with (entry_of yards) xs ps ++ (entry_new place ∷ [])
  unfolding zip_with
  entries_from place [] [] e h = ap (λ (n : ℕ). record { bounds = box_of y.lats y.lons; record' = n; border = place } ∷ []) m.begin_is
  entries_from place [] (p ∷ ps) e h = absurd (omega (arith, e))
  entries_from place (x ∷ xs) [] e h = absurd (omega (arith, e))
  entries_from place (x ∷ xs) (p ∷ ps) e h =
      ap (λ (n : ℕ). record { bounds = box_of x.lats x.lons; record' = n; border = p } ∷ zip_with (entry_of grown) (xs ++ (y ∷ [])) (ps ++ (place ∷ [])))
      (m.begins_on x (values_found yards (x ∷ xs) h x xs refl)) ∙ ap (λ (l : List Entry). entry_of yards x p ∷ l) (entries_from place xs ps (omega (arith, e)) (later_in yards x xs h))

  -- the entries, as the yards came
  pub entries_more : (place : ℕ) (ps : List ℕ) → length ps ≡ length yards →
      zip_with (entry_of (yards ++ (y ∷ []))) (yards ++ (y ∷ [])) (ps ++ (place ∷ [])) ≡ zip_with (entry_of yards) yards ps ++ (entry_new place ∷ [])
  entries_more place ps e = entries_from place yards ps e (λ z i. i)
