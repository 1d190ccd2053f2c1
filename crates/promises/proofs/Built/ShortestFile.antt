-- Of the layouts that fit, the definition's gives the shortest file: any other gives a longer one. Assumes nothing.
use Rattle.numbers.proofs.Prelude.{ℕ, ◌+◌, ◌-◌, ◌%◌, ◌^◌, ◌≤◌, ◌<◌, leb-true, eqb-true, leb-false, leb, pos, ◌-ℤ◌, length, length-append, Bool, true, false, List, [], ◌∷◌, ◌++◌, map, flat_map}
use Rattle.numbers.{proofs.Prelude.{zip_with, ◌≡◌, refl, sym, ap, ◌∙◌, le_refl, arith}, specs.{Answer.{if◌then◌else◌}, Spelling.{varint_of, signed_form}}}
use Rattle.builder.{proofs.{Shortest.{records_size, layout_least, shortest_section}, Steps.{step_down, step_up}}, specs.{Borders.{Drawn}, Entries.{Entry, box_of, lowest_of, box_bytes, entry_bytes}}}
use Rattle.builder.specs.{Entries.{table_from, from_south, table_of}, File.{head_of, assembled, file_of}}
use Rattle.builder.specs.Metadata.{inlined, records_of, fields_of, is_remote, remotes, offset_of, written, fits, layout_of}
use Rattle.builder.specs.{Metadata.{start_of, metadata_of}, Sharing.{same_texts, size_before}, Yards.{Text, Yard, Plan}}
use Rattle.promises.specs.Built.Laid.{start_for, metadata_for, entry_for, file_for}
use Rattle.layout.{proofs.{Orders.{sorted_map}, Sizes.{size_rises}}, specs.{Order.{sorted_by}, inner.Layout.{Fits}}}

-- ---- two places of one layout and the same two of another: in the same order, and no nearer to each other
pub data Apart (a a' b b' : ℕ) : Type 0 where
  up : a ≤ b → a' ≤ b' → b - a ≤ b' - a' → Apart a a' b b'
  down : b ≤ a → b' ≤ a' → a - b ≤ a' - b' → Apart a a' b b'

form_rises : (a a' b b' : ℕ) → Apart a a' b b' → signed_form (pos b -ℤ pos a) ≤ signed_form (pos b' -ℤ pos a')
form_rises a a' b b' (up h k l) = rw (← step_up a b h, ← step_up a' b' k) (omega arith)
form_rises a a' b b' (down h k l) = go (leb a b) refl (leb a' b') refl where
  go : (s : Bool) → leb a b ≡ s → (t : Bool) → leb a' b' ≡ t → signed_form (pos b -ℤ pos a) ≤ signed_form (pos b' -ℤ pos a')
  go true s true t = rw (← step_up a b (leb-true a b s), ← step_up a' b' (leb-true a' b' t)) (omega (arith, leb-true a b s, leb-true a' b' t))
  go true s false t = rw (← step_up a b (leb-true a b s), ← step_down a' b' (leb-false a' b' t)) (omega (arith, leb-true a b s, leb-false a' b' t))
  go false s true t = absurd (omega (arith, leb-false a b s, leb-true a' b' t))
  go false s false t = rw (← step_down a b (leb-false a b s), ← step_down a' b' (leb-false a' b' t)) (omega (arith, leb-false a b s, leb-false a' b' t))

-- ---- the sizes of those before one
module _ {A : Type 0} (same : A → A → Bool) (f g : A → ℕ) (rises : (x : A) → f x ≤ g x) where
  before_rises : (x : A) (xs : List A) → size_before same f x xs ≤ size_before same g x xs
  unfolding size_before
  before_rises x [] = le_refl 0
  before_rises x (y ∷ ys) = go (same x y) (before_rises x ys) where
    go : (t : Bool) → size_before same f x ys ≤ size_before same g x ys → (if t then 0 else (f y + size_before same f x ys)) ≤ (if t then 0 else (g y + size_before same g x ys))
    go true h = le_refl 0
    go false h = omega (arith, rises y)

  pub before_apart : (x y : A) (zs : List A) → Apart (size_before same f x zs) (size_before same g x zs) (size_before same f y zs) (size_before same g y zs)
  unfolding size_before
  before_apart x y [] = up (le_refl 0) (le_refl 0) (le_refl 0)
  before_apart x y (z ∷ zs) = go (same x z) (same y z) (before_rises x zs) (before_rises y zs) (before_apart x y zs) where
    go : (s t : Bool) → size_before same f x zs ≤ size_before same g x zs → size_before same f y zs ≤ size_before same g y zs → Apart (size_before same f x zs)
        (size_before same g x zs) (size_before same f y zs) (size_before same g y zs) → Apart (if s then 0 else (f z + size_before same f x zs))
        (if s then 0 else (g z + size_before same g x zs)) (if t then 0 else (f z + size_before same f y zs)) (if t then 0 else (g z + size_before same g y zs))
    go true true h k a = up (le_refl 0) (le_refl 0) (le_refl 0)
    go true false h k a = up (omega arith) (omega arith) (omega (arith, rises z))
    go false true h k a = down (omega arith) (omega arith) (omega (arith, rises z))
    go false false h k (up p q r) = up (omega arith) (omega arith) (omega arith)
    go false false h k (down p q r) = down (omega arith) (omega arith) (omega arith)

-- the entry of a yard, with where its border begins
abbrev entry_with : List (List Text) → ℕ → Yard × ℕ → Entry
entry_with records layout y = record { bounds = box_of y.0.lats y.0.lons; record' = start_for layout records y.0.values; border = y.1 }

-- ---- two layouts, one no longer than the other
module _ (records : List (List Text)) (shorter longer : ℕ) (less : shorter ≤ longer) where
  abbrev fields : List Text
  fields = fields_of records

  word_rises : (t : Text) → length (written fields shorter t) ≤ length (written fields longer t)
  unfolding written
  word_rises t = go (is_remote fields t) where
    go : (far : Bool) → length (if far then varint_of (256 + shorter + offset_of fields t) else inlined t) ≤ length (if far then varint_of (256 + longer + offset_of fields t) else inlined t)
    go true = size_rises (256 + shorter + offset_of fields t) (256 + longer + offset_of fields t) (omega arith)
    go false = le_refl (length (inlined t))

  words_rise : (ts : List Text) → length (flat_map (written fields shorter) ts) ≤ length (flat_map (written fields longer) ts)
  unfolding flat_map
  words_rise [] = le_refl 0
  words_rise (t ∷ ts) =
      omega (
        arith,
        word_rises t,
        words_rise ts,
        length-append (written fields shorter t) (flat_map (written fields shorter) ts),
        length-append (written fields longer t) (flat_map (written fields longer) ts),
      )

  starts_apart : (v w : List Text) → Apart (start_for shorter records v) (start_for longer records v) (start_for shorter records w) (start_for longer records w)
  unfolding start_for
  starts_apart v w = before_apart same_texts (λ r. length (flat_map (written fields shorter) r)) (λ r. length (flat_map (written fields longer) r)) words_rise v w records

  first_apart : (v : List Text) → Apart 0 0 (start_for shorter records v) (start_for longer records v)
  unfolding start_for
  first_apart v =
      up (omega arith) (omega arith)
      (omega (arith, before_rises same_texts (λ r. length (flat_map (written fields shorter) r)) (λ r. length (flat_map (written fields longer) r)) words_rise v records))

  entry_rises : (r r' b : ℕ) (y : Yard × ℕ) → Apart r r' (start_for shorter records y.0.values) (start_for longer records y.0.values)
      → length (entry_bytes r b (entry_with records shorter y)) ≤ length (entry_bytes r' b (entry_with records longer y))
  unfolding entry_bytes
  entry_rises r r' b y apart = let box = box_bytes (box_of y.0.lats y.0.lons) in let border = varint_of ((y.1 + 2 ^ 32 - b) % 2 ^ 32) in
      let one = varint_of (signed_form (pos (start_for shorter records y.0.values) -ℤ pos r)) in
      let other = varint_of (signed_form (pos (start_for longer records y.0.values) -ℤ pos r')) in
      omega (
        arith,
        length-append box (one ++ border),
        length-append one border,
        length-append box (other ++ border),
        length-append other border,
        size_rises _ _
            (form_rises r r' (start_for shorter records y.0.values) (start_for longer records y.0.values) apart),
      )

  table_rises : (ys : List (Yard × ℕ)) (r r' b : ℕ) → ((v : List Text) → Apart r r' (start_for shorter records v) (start_for longer records v))
      → length (table_from r b (map (entry_with records shorter) ys)) ≤ length (table_from r' b (map (entry_with records longer) ys))
  unfolding table_from
  table_rises [] r r' b apart = le_refl 0
  table_rises (y ∷ ys) r r' b apart = let start = start_for shorter records y.0.values in let start' = start_for longer records y.0.values in
      omega (
        arith,
        entry_rises r r' b y (apart y.0.values),
        table_rises ys start start' y.1 (starts_apart y.0.values),
        length-append (entry_bytes r b
            (entry_with records shorter y)) (table_from start y.1 (map (entry_with records shorter) ys)),
        length-append (entry_bytes r' b (entry_with records longer y))
            (table_from start' y.1 (map (entry_with records longer) ys)),
      )

-- ---- the table of a layout, over the yards in order
abbrev pairs : List Yard → List ℕ → List (Yard × ℕ)
pairs ys places = zip_with {C = Yard × ℕ} (λ y p. (y, p)) ys places

module _ (yards : List Yard) (layout : ℕ) where
  entries_of : (ys : List Yard) (places : List ℕ) → zip_with (entry_for layout yards) ys places ≡ map (entry_with (records_of yards) layout) (pairs ys places)
  unfolding zip_with
  entries_of [] places = refl
  entries_of (y ∷ ys) [] = refl
  entries_of (y ∷ ys) (p ∷ places) = ap (λ (es : List Entry). entry_for layout yards y p ∷ es) (entries_of ys places)

  abbrev south : Yard × ℕ → ℕ
  south y = from_south (lowest_of y.0.lats)

  table_of_lem : (places : List ℕ) → table_of (zip_with (entry_for layout yards) yards places) ≡ table_from 0 0 (map (entry_with (records_of yards) layout) (sorted_by south (pairs yards places)))
  unfolding table_of
  table_of_lem places =
      ap (table_from 0 0) (ap (sorted_by (λ (e : Entry). from_south e.bounds.south)) (entries_of yards places)
      ∙ sym (sorted_map south (λ (e : Entry). from_south e.bounds.south) (entry_with (records_of yards) layout) (λ y. refl) (pairs yards places)))

-- ---- files
assembled_length : (h t m d : List ℕ) → length (assembled h t m d)
    ≡ length h + (length (varint_of (length t)) + (length (varint_of (length m)) + (length (varint_of (length d)) + (length t + (length m + length d)))))
unfolding assembled
assembled_length h t m d = simp length-append

module _ (plan : Plan) (drawn : Drawn) where
  abbrev all : List Text
  all = fields_of (records_of plan.yards)

  -- the definition's file is that of the definition's layout
  pub own_layout : file_of plan drawn ≡ file_for (layout_of all) plan drawn
  unfolding file_of file_for metadata_of metadata_for start_of start_for
  own_layout = refl

  -- Any other layout that fits gives a longer file.
  pub shortest_layout : (other : ℕ) → fits all other ≡ true → (layout_of all ≡ other → ⊥) → length (file_of plan drawn) < length (file_for other plan drawn)
  unfolding file_for metadata_for fits Fits
  shortest_layout other good differs =
      let yards = plan.yards in
      let records = records_of yards in
      let own = layout_of all in
      let texts = flat_map inlined (remotes all) in
      let less : own ≤ other = omega (arith, (shortest_section all other good).section 0) in
      let own_size : length (flat_map (written all own) all) ≡ own = records_size all own all ∙ (layout_least all).fits in
      let other_size : length (flat_map (written all other) all) ≡ other = eqb-true (length (flat_map (written all other) all)) other good in
      let table = table_of (zip_with (entry_for own yards) yards drawn.places) in
      let table' = table_of (zip_with (entry_for other yards) yards drawn.places) in
      let metadata = flat_map (written all own) all ++ texts in
      let metadata' = flat_map (written all other) all ++ texts in
      let meta_less : length metadata < length metadata' = omega (arith, length-append (flat_map (written all own) all) texts, length-append (flat_map (written all other) all) texts) in
      let table_less : length table ≤ length table' =
      rw (table_of_lem yards own drawn.places, table_of_lem yards other drawn.places) (table_rises records own other less (sorted_by (south yards own)
      (pairs yards drawn.places)) 0 0 0 (first_apart records own other less)) in
      omega (
        arith,
        ap length own_layout ∙ assembled_length (head_of plan) table metadata drawn.bytes,
        assembled_length (head_of plan) table' metadata'
            drawn.bytes,
        size_rises (length table) (length table') table_less,
        size_rises (length metadata) (length metadata') (omega arith),
      )
