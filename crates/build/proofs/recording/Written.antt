-- What is written by what was laid out is the metadata section of the definition. Assumes nothing.
use Rattle.numbers.proofs.Prelude.{ℕ, ◌+◌, ◌*◌, ◌≤◌, length, take, length-append, length-map, length-take-le, take-length, List, ◌++◌, map, flat_map, ◌≡◌, sym, ap, ◌∙◌, arith}
use Rattle.builder.{proofs.Shortest.{records_size, layout_least}, specs.{Metadata.{inlined, remotes, layout_of, written, metadata_of, joined_from, field_bytes}, Sharing.{firsts, same_texts}}}
use Rattle.builder.specs.Yards.{Text, cut_by, sum_of}
use Rattle.layout.specs.inner.Layout.{Fits}
use Rattle.build.proofs.{metadata.Begun.{cut_join, record_written}, recording.Fewer.{fields_few, fields_short, joined_sum}}
use Rattle.build.specs.{Metadata.Kept.{values_to, fields_to}, inner.{Metadata.Words.{word_in}, Recording.Recorded.{Recorded}}}

module _ (names count : ℕ) (lengths texts before kept held words places : List ℕ) (records remote sizes bytes : ℕ)
    (r : Recorded names count lengths texts before kept held words places records remote sizes bytes) where
  abbrev fields : List Text
  fields = fields_to names lengths texts count

  abbrev section : List ℕ
  section = metadata_of (firsts same_texts (values_to names lengths texts count))

  pub recorded_cut : cut_by (take sizes kept) (take bytes held) ≡ fields
  recorded_cut = ap (λ (x : List ℕ). cut_by x (take bytes held)) r.lengths_are ∙ (ap (cut_by (map length fields)) r.texts_are ∙ cut_join fields)

  -- ---- what `put_records` and `put_remotes` ask for
  pub recorded_lengths : length (take sizes kept) ≤ length (take sizes words)
  recorded_lengths = omega (arith, length-take-le sizes kept r.kept_in, length-take-le sizes words r.words_in)

  pub recorded_texts : sum_of (take sizes kept) ≤ length (take bytes held)
  recorded_texts = omega (arith, ap sum_of r.lengths_are, joined_sum fields, ap length r.texts_are)

  pub recorded_words : take (length (take sizes kept)) (take sizes words) ≡ map (word_in (cut_by (take sizes kept) (take bytes held))) (cut_by (take sizes kept) (take bytes held))
  recorded_words =
      let same : length (take sizes kept) ≡ length (take sizes words) = length-take-le sizes kept r.kept_in ∙ sym (length-take-le sizes words r.words_in) in
      ap (λ (n : ℕ). take n (take sizes words)) same ∙ (take-length (take sizes words) ∙ (r.words_are ∙ sym (ap (λ (ts : List Text). map (word_in ts) ts) recorded_cut)))

  module _ (all : length lengths ≡ count * names) (whole : sum_of lengths ≤ length texts) where
    pub recorded_few : sum_of (take sizes kept) + 10 * length (take sizes kept) ≤ sum_of lengths + 10 * length lengths
    recorded_few = omega (
      arith,
      ap sum_of r.lengths_are,
      joined_sum fields,
      ap length r.lengths_are,
      length-map fields length,
      fields_few names count lengths texts all,
      fields_short names count lengths texts all whole,
    )

  -- ---- the section
  pub recorded_records : joined_from (field_bytes records (take sizes words)) 0 (cut_by (take sizes kept) (take bytes held)) ≡ flat_map (written fields (layout_of fields)) fields
  recorded_records =
      ap (λ (ts : List Text). joined_from (field_bytes records (take sizes words)) 0 ts) recorded_cut ∙ (ap (λ (ws : List ℕ). joined_from (field_bytes records ws) 0 fields)
      r.words_are ∙ (ap (λ (n : ℕ). joined_from (field_bytes n (map (word_in fields) fields)) 0 fields) r.records_are ∙ record_written fields (layout_of fields) fields))

  pub recorded_section : joined_from (field_bytes records (take sizes words)) 0 (cut_by (take sizes kept) (take bytes held)) ++ flat_map inlined
      (remotes (cut_by (take sizes kept) (take bytes held))) ≡ section
  unfolding metadata_of
  recorded_section =
      ap (λ (bs : List ℕ). bs ++ flat_map inlined (remotes (cut_by (take sizes kept) (take bytes held)))) recorded_records
      ∙ ap (λ (ts : List Text). flat_map (written fields (layout_of fields)) fields ++ flat_map inlined (remotes ts)) recorded_cut

  pub recorded_size : length section ≡ records + remote
  unfolding metadata_of Fits
  recorded_size =
      let fits : length (flat_map (written fields (layout_of fields)) fields) ≡ layout_of fields = records_size fields (layout_of fields) fields ∙ (layout_least fields).fits in
      length-append (flat_map (written fields (layout_of fields)) fields) (flat_map inlined (remotes fields)) ∙ omega (arith, fits, r.records_are, r.remote_is)
