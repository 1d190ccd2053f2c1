-- Where the records begin with one more of them, and how long the section is, where the step is sure. Assumes nothing.
use Rattle.numbers.proofs.Prelude.{ℕ, suc, ◌+◌, ◌≤◌, eqb-false, eqb, length, length-append, Bool, true, false, ◌||◌, List, [], ◌∷◌, ◌++◌, map, append-nil, flat_map, ◌≡◌, refl, sym, ap, ◌∙◌, arith}
use Rattle.numbers.specs.{Answer.{if◌then◌else◌}, Spelling.{varint_of}}
use Rattle.builder.proofs.{Shortest.{word_of, inline_of, records_size, layout_least}, grouping.{Keyed.{text_equal}, Meant.{text_itself, texts_itself}}}
use Rattle.builder.specs.Metadata.{fields_of, inlined, is_remote}
use Rattle.builder.specs.{Metadata.{remotes, offset_of, written, layout_of, start_of, metadata_of}, Sharing.{same_text, same_texts, is_in, firsts_after, good_ones, size_before}, Yards.{Text}}
use Rattle.layout.{proofs.{Everyone.{Every}, Sizes.{size_rises, size_least}}, specs.inner.Layout.{word_size, words_size, next, Fits}}
use Rattle.build.proofs.metadata.{Offsets.{total, old_place}, Shared.{fields_more, fields_one, flat_more, map_more}}
use Rattle.header.specs.Utf8.{unmasked}
use Rattle.draft.proofs.held.Sure.{Sure, sure_layout, same_remotes, words_same, inline_same, in_fields}

-- ---- sizes before one
module _ {A : Type 0} (same : A → A → Bool) where
  unfoldable sum_by : (A → ℕ) → List A → ℕ
  sum_by size [] = 0
  sum_by size (x ∷ xs) = size x + sum_by size xs

  before_old : (size : A → ℕ) (x : A) (ys zs : List A) → is_in same x ys ≡ true → size_before same size x (ys ++ zs) ≡ size_before same size x ys
  unfolding size_before is_in
  before_old size x [] zs e = let z : ◌≡◌ {A = ℕ} 0 1 = cc in absurd (omega arith)
  before_old size x (y ∷ ys) zs e = go (same x y) e (before_old size x ys zs) where
    go : (b : Bool) → (b || is_in same x ys) ≡ true → (is_in same x ys ≡ true → size_before same size x (ys ++ zs) ≡ size_before same size x ys)
        → (if b then 0 else (size y + size_before same size x (ys ++ zs))) ≡ (if b then 0 else (size y + size_before same size x ys))
    go true e k = refl
    go false e k = ap (λ (n : ℕ). size y + n) (k e)

  before_new : (size : A → ℕ) (x : A) (ys : List A) → is_in same x ys ≡ false → same x x ≡ true → size_before same size x (ys ++ (x ∷ [])) ≡ sum_by size ys
  unfolding size_before is_in sum_by
  before_new size x [] e own = ap (λ (b : Bool). if b then 0 else (size x + 0)) own
  before_new size x (y ∷ ys) e own = go (same x y) e (before_new size x ys) where
    go : (b : Bool) → (b || is_in same x ys) ≡ false → (is_in same x ys ≡ false → same x x ≡ true → size_before same size x (ys ++ (x ∷ [])) ≡ sum_by size ys)
        → (if b then 0 else (size y + size_before same size x (ys ++ (x ∷ [])))) ≡ size y + sum_by size ys
    go true e k = let z : ◌≡◌ {A = ℕ} 0 1 = cc in absurd (omega arith)
    go false e k = ap (λ (n : ℕ). size y + n) (k e own)

  before_same : (size other : A → ℕ) (x : A) (ys : List A) → ((y : A) → size y ≡ other y) → size_before same size x ys ≡ size_before same other x ys
  unfolding size_before
  before_same size other x [] h = refl
  before_same size other x (y ∷ ys) h = rw (h y, before_same size other x ys h) refl

-- ---- words that keep their length
word_kept : (records by remote : ℕ) → length (varint_of (256 + records)) ≡ length (varint_of (255 + records + by + remote)) → (w : ℕ) → w ≤ remote → word_size w (records + by) ≡ word_size w records
unfolding word_size
word_kept records by remote e w h = go (eqb w 0) refl where
  go : (none : Bool) → eqb w 0 ≡ none → (if none then 0 else length (varint_of (255 + (records + by) + w))) ≡ (if none then 0 else length (varint_of (255 + records + w)))
  go true z = refl
  go false z =
      omega (
        arith,
        e,
        size_rises (256 + records) (255 + records + w) (omega (arith, eqb-false w 0 z)),
        size_rises (255 + records + w) (255 + (records + by) + w) (omega arith),
        size_rises (255 + (records + by) + w) (255 + records + by + remote) (omega (arith, h)),
      )

module _ (fields : List Text) where
  total_flat : (ts : List Text) → total same_text text_equal text_itself (is_remote fields) (λ t. length (inlined t)) ts ≡ length (flat_map inlined ts)
  unfolding total flat_map
  total_flat [] = refl
  total_flat (t ∷ ts) = ap (λ (n : ℕ). length (inlined t) + n) (total_flat ts) ∙ sym (length-append (inlined t) (flat_map inlined ts))

  abbrev remote : ℕ
  remote = length (flat_map inlined (remotes fields))

  inlined_some : (t : Text) → 1 ≤ length (inlined t)
  unfolding inlined
  inlined_some t = omega (arith, size_least (length t), length-append (varint_of (length t)) (map unmasked t))

  -- no word points behind the last text
  pub word_inside : (t : Text) → is_remote fields t ≡ true → suc (offset_of fields t) ≤ remote
  unfolding offset_of remotes is_in
  word_inside t e =
      let far = old_place same_text text_equal text_itself (is_remote fields) (λ t. length (inlined t)) [] fields t [] e refl (in_fields fields t e) in
      omega (
        arith,
        far,
        inlined_some t,
        total_flat (firsts_after same_text [] (good_ones (is_remote fields) fields)),
        ap (λ (l : List Text). size_before same_text (λ t. length (inlined t)) t (firsts_after same_text [] (good_ones (is_remote fields) l))) (append-nil fields),
      )

  word_most : (t : Text) → word_of fields t ≤ remote
  word_most t = go (is_remote fields t) refl where
    go : (far : Bool) → is_remote fields t ≡ far → (if far then suc (offset_of fields t) else 0) ≤ length (flat_map inlined (remotes fields))
    go true e = word_inside t e
    go false e = omega arith

-- The section is the records and the texts behind them.
pub section_size : (rs : List (List Text)) → length (metadata_of rs) ≡ layout_of (fields_of rs) + length (flat_map inlined (remotes (fields_of rs)))
unfolding metadata_of Fits
section_size rs = let fs : List Text = fields_of rs in
    let whole : length (flat_map (written fs (layout_of fs)) fs) ≡ layout_of fs = records_size fs (layout_of fs) fs ∙ (layout_least fs).fits in
    length-append (flat_map (written fs (layout_of fs)) fs) (flat_map inlined (remotes fs)) ∙ ap (λ (n : ℕ). n + length (flat_map inlined (remotes fs))) whole

-- ---- with one record more
module _ (records : List (List Text)) (r : List Text) where
  abbrev fields : List Text
  fields = fields_of records

  abbrev layout : ℕ
  layout = layout_of (fields_of records)

  module _ (sure : Every (Sure (fields_of records) r) r) (by : ℕ) (size : by ≡ length (flat_map (written (fields_of records) (layout_of (fields_of records))) r))
      (kept : length (varint_of (256 + layout_of (fields_of records))) ≡ length (varint_of (255 + layout_of (fields_of records) + by + length (flat_map inlined (remotes (fields_of records)))))) where
    all_kept : (ts : List Text) → words_size (map (word_of (fields_of records)) ts) (layout_of (fields_of records) + by) ≡ words_size (map (word_of (fields_of records)) ts) (layout_of
        (fields_of records))
    unfolding words_size
    all_kept [] = refl
    all_kept (t ∷ ts) = omega (arith, word_kept layout by (remote fields) kept (word_of fields t) (word_most fields t), all_kept ts)

    by_words : by ≡ inline_of (fields_of records) r + words_size (map (word_of (fields_of records)) r) (layout_of (fields_of records))
    unfolding next
    by_words = size ∙ records_size fields layout r

    pub layout_on : layout_of (fields_of records ++ r) ≡ layout_of (fields_of records) + by
    layout_on =
        sure_layout fields r sure by by_words (ap (λ (ws : List ℕ). words_size ws (layout + by)) (sym (map_more (word_of fields) fields r))
        ∙ (all_kept (fields ++ r) ∙ ap (λ (ws : List ℕ). words_size ws layout) (map_more (word_of fields) fields r)))

    pub fields_on : fields_of (records ++ (r ∷ [])) ≡ fields_of records ++ r
    fields_on = fields_more records (r ∷ []) ∙ ap (λ (l : List Text). fields ++ l) (fields_one r)

    -- a record keeps its length
    record_kept : (ts : List Text) →
        length (flat_map (written (fields_of records ++ r) (layout_of (fields_of records ++ r))) ts) ≡ length (flat_map (written (fields_of records) (layout_of (fields_of records))) ts)
    unfolding next
    record_kept ts =
        records_size (fields ++ r) (layout_of (fields ++ r)) ts ∙ (ap (λ (n : ℕ). inline_of (fields ++ r) ts + words_size (map (word_of (fields ++ r)) ts) n) layout_on
        ∙ (ap (λ (n : ℕ). n + words_size (map (word_of (fields ++ r)) ts) (layout + by)) (inline_same fields r sure ts)
        ∙ (ap (λ (ws : List ℕ). inline_of fields ts + words_size ws (layout + by)) (words_same fields r sure ts) ∙ (ap (λ (n : ℕ). inline_of fields ts + n) (all_kept ts)
        ∙ sym (records_size fields layout ts)))))

    abbrev size_now : List Text → ℕ
    size_now ts = length (flat_map (written (fields_of records) (layout_of (fields_of records))) ts)

    -- The metadata section grows by the record's bytes.
    pub sure_metadata : length (metadata_of (records ++ (r ∷ []))) ≡ length (metadata_of records) + by
    sure_metadata =
        section_size (records ++ (r ∷ [])) ∙ (ap (λ (fs : List Text). layout_of fs + length (flat_map inlined (remotes fs))) fields_on
        ∙ (ap (λ (ts : List Text). layout_of (fields ++ r) + length (flat_map inlined ts)) (same_remotes fields r sure) ∙ omega (arith, layout_on, section_size records)))

    begin_on : (values : List Text) → start_of (records ++ (r ∷ [])) values ≡ size_before same_texts size_now values (records ++ (r ∷ []))
    unfolding start_of
    begin_on values =
        ap (λ (fs : List Text). size_before same_texts (λ ts. length (flat_map (written fs (layout_of fs)) ts)) values (records ++ (r ∷ []))) fields_on
        ∙ before_same same_texts (λ ts. length (flat_map (written (fields ++ r) (layout_of (fields ++ r))) ts)) size_now values (records ++ (r ∷ [])) record_kept

    -- Every earlier record begins where it began.
    pub sure_begin : (values : List Text) → is_in same_texts values records ≡ true → start_of (records ++ (r ∷ [])) values ≡ start_of records values
    unfolding start_of
    sure_begin values e = begin_on values ∙ before_old same_texts size_now values records (r ∷ []) e

    sum_flat : (rs : List (List Text)) → sum_by same_texts size_now rs ≡ size_now (fields_of rs)
    unfolding sum_by fields_of flat_map
    sum_flat [] = refl
    sum_flat (x ∷ rs) =
        ap (λ (n : ℕ). size_now x + n) (sum_flat rs)
        ∙ sym (ap length (flat_more (written fields layout) x (fields_of rs)) ∙ length-append (flat_map (written fields layout) x) (flat_map (written fields layout) (fields_of rs)))

    -- The new one begins where they ended.
    pub sure_new : is_in same_texts r records ≡ false → start_of (records ++ (r ∷ [])) r ≡ layout_of (fields_of records)
    unfolding Fits
    sure_new e = begin_on r ∙ (before_new same_texts size_now r records e (texts_itself r) ∙ (sum_flat records ∙ (records_size fields layout fields ∙ (layout_least fields).fits)))
