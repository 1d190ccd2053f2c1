-- The weights of a record are its bytes, where each word has one length. Assumes nothing.
use Rattle.numbers.{proofs.Prelude.{ℕ, ◌+◌, length, length-append, Bool, true, false, List, [], ◌∷◌, flat_map, ◌≡◌, refl, sym, arith}, specs.{Answer.{if◌then◌else◌}, Spelling.{varint_of}}}
use Rattle.builder.specs.{Metadata.{inlined, is_remote, remotes, offset_of, written}, Yards.{Text}}
use Rattle.draft.proofs.held.Begins.{word_inside}
use Rattle.layout.proofs.Sizes.{size_rises}
use Rattle.notes.specs.inner.Weighed.{Weighing.{weights_of}, Weights.{weight_of}}

module _ (fields : List Text) (records word : ℕ) where
  -- each text behind the records is met by a word of this length
  abbrev pub OneWord : Type 0
  OneWord = (t : Text) → is_remote fields t ≡ true → length (varint_of (256 + records + offset_of fields t)) ≡ word

  module _ (each : OneWord) where
    weight_written : (t : Text) → weight_of fields word t ≡ length (written fields records t)
    unfolding weight_of written
    weight_written t = go (is_remote fields t) refl where
      go : (far : Bool) → is_remote fields t ≡ far → (if far then word else length (inlined t)) ≡ length (if far then varint_of (256 + records + offset_of fields t) else inlined t)
      go true e = sym (each t e)
      go false e = refl

    -- The weights are the record's bytes.
    pub weights_written : (own : List Text) → weights_of fields word own ≡ length (flat_map (written fields records) own)
    unfolding weights_of flat_map
    weights_written [] = refl
    weights_written (t ∷ own) = omega (arith, weight_written t, weights_written own, length-append (written fields records t) (flat_map (written fields records) own))

  -- The shortest word and the longest one have the same length, and so has each between them.
  pub one_word : (by : ℕ) → length (varint_of (256 + records)) ≡ word → length (varint_of (255 + records + by + length (flat_map inlined (remotes fields)))) ≡ word → OneWord
  one_word by least most t e =
      omega (
        arith,
        least,
        most,
        size_rises (256 + records) (256 + records + offset_of fields t) (omega arith),
        size_rises (256 + records + offset_of fields t) (255 + records + by + length (flat_map inlined (remotes fields))) (omega (arith, word_inside fields t e)),
      )
