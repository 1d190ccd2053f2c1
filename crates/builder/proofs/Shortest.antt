-- The layout of the definition is the least that fits; it is that of the plain numbers of crate `layout`, so its section is the shortest. Assumes nothing.
use Rattle.numbers.proofs.Prelude.{ℕ, zero, suc, ◌+◌, ◌*◌, ◌≤◌, eq-eqb, ne_eqb, eqb-true, eqb-false, eqb, length, length-append, Bool, true, false, List, [], ◌∷◌, map, flat_map, ◌≡◌, refl, sym, ap}
use Rattle.numbers.{proofs.{Prelude.{subst, ◌∙◌, arith}, Spelling.{varint_few}}, specs.{Answer.{if◌then◌else◌}, Spelling.{varint_of}}}
use Rattle.layout.{proofs.Steps.{Shorter, shortest, least_layout}, specs.inner.Layout.{word_size, words_size, next, Fits, Least, after}}
use Rattle.builder.specs.{Metadata.{inlined, is_remote, offset_of, written, fits, first_from, layout_of}, Yards.{Text}}

-- ---- the fields as plain numbers
module _ (all : List Text) where
  -- a field's word: none, or one more than how far behind the records its text lies
  abbrev pub word_of : Text → ℕ
  word_of text = if is_remote all text then suc (offset_of all text) else 0

  -- the bytes of the fields that are inline
  unfoldable pub inline_of : List Text → ℕ
  inline_of [] = 0
  inline_of (t ∷ ts) = (if is_remote all t then 0 else length (inlined t)) + inline_of ts

  field_size : (records : ℕ) (t : Text) → length (written all records t) ≡ (if is_remote all t then 0 else length (inlined t)) + word_size (word_of t) records
  unfolding written word_size
  field_size records t = go (is_remote all t) where
    go : (far : Bool) → length (if far then varint_of (256 + records + offset_of all t) else inlined t)
        ≡ (if far then 0 else length (inlined t)) + (if eqb (if far then suc (offset_of all t) else 0) 0 then 0 else length (varint_of (255 + records + (if far then suc (offset_of all t) else 0))))
    go true = let e : 256 + records + offset_of all t ≡ 255 + records + suc (offset_of all t) = omega arith in
        rw (ne_eqb (suc (offset_of all t)) 0 (λ z. omega arith), e) (omega arith)
    go false = omega arith

  -- the records' length is that of the plain numbers
  pub records_size : (records : ℕ) (ts : List Text) → length (flat_map (written all records) ts) ≡ next (inline_of ts) (map word_of ts) records
  unfolding next inline_of words_size flat_map
  records_size records [] = refl
  records_size records (t ∷ ts) =
      let more : length (flat_map (written all records) ts) ≡ inline_of ts + words_size (map word_of ts) records = records_size records ts in
      length-append (written all records t) (flat_map (written all records) ts) ∙ omega (arith, field_size records t, more)

  -- no word has more than ten bytes
  field_most : (records : ℕ) (t : Text) → length (written all records t) ≤ length (inlined t) + 10
  unfolding written
  field_most records t = go (is_remote all t) where
    go : (far : Bool) → length (if far then varint_of (256 + records + offset_of all t) else inlined t) ≤ length (inlined t) + 10
    go true = omega (arith, varint_few (256 + records + offset_of all t))
    go false = omega arith

  records_most : (records : ℕ) (ts : List Text) → length (flat_map (written all records) ts) ≤ length (flat_map inlined ts) + 10 * length ts
  unfolding flat_map
  records_most records [] = omega arith
  records_most records (t ∷ ts) =
      omega (arith, length-append (written all records t) (flat_map (written all records) ts), length-append (inlined t) (flat_map inlined ts), field_most records t, records_most records ts)

-- ---- the first number that is good
first_good : (good : ℕ → Bool) (least n more : ℕ) → good least ≡ true → ((k : ℕ) → good k ≡ true → least ≤ k) → n ≤ least → least ≤ n + more → first_from more good n ≡ least
unfolding first_from
first_good good least n zero is none h k = omega arith
first_good good least n (suc more) is none h k = go (good n) refl (first_good good least (suc n) more is none) where
  go : (t : Bool) → good n ≡ t → (suc n ≤ least → least ≤ suc n + more → first_from more good (suc n) ≡ least) → (if t then n else first_from more good (suc n)) ≡ least
  go true e later = omega (arith, none n e)
  go false e later = by_size (eqb n least) refl where
    by_size : (s : Bool) → eqb n least ≡ s → first_from more good (suc n) ≡ least
    by_size true s = let same : n ≡ least = eqb-true n least s in let bad : good least ≡ false = ap good (sym same) ∙ e in
        let z : ◌≡◌ {A = Bool} true false = sym is ∙ bad in let w : ◌≡◌ {A = ℕ} 0 1 = cc in absurd (omega arith)
    by_size false s = later (omega (arith, eqb-false n least s)) (omega arith)

-- ---- the definition's layout
module _ (fields : List Text) where
  abbrev numbers : ℕ
  numbers = inline_of fields fields

  abbrev words : List ℕ
  words = map (word_of fields) fields

  fits_then : (records : ℕ) → fits fields records ≡ true → Fits numbers words records
  unfolding fits Fits
  fits_then records e = sym (records_size fields records fields) ∙ eqb-true (length (flat_map (written fields records) fields)) records e

  then_fits : (records : ℕ) → Fits numbers words records → fits fields records ≡ true
  unfolding fits Fits
  then_fits records e = eq-eqb (length (flat_map (written fields records) fields)) records (records_size fields records fields ∙ e)

  -- a least length that fits is the definition's
  pub layout_is : (records : ℕ) → Least numbers words records → layout_of fields ≡ records
  unfolding layout_of Fits
  layout_is records l =
      first_good (fits fields) records 0 (length (flat_map inlined fields) + 10 * length fields) (then_fits records l.fits) (λ k e. l.least k (fits_then k e)) (omega arith)
      (omega (arith, records_most fields records fields, records_size fields records fields, l.fits))

  -- and there is one
  pub layout_least : Least numbers words (layout_of fields)
  layout_least = let l = least_layout numbers words in subst (Least numbers words) (sym (layout_is (after numbers words (10 * length words)) l)) l

  -- any other layout that fits makes no word longer and a longer section
  pub shortest_section : (other : ℕ) → fits fields other ≡ true → Shorter words (layout_of fields) other
  shortest_section other e = shortest numbers words (layout_of fields) other layout_least (fits_then other e)
