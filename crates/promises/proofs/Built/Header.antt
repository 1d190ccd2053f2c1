-- The header of a built file is read back, plainly and strictly. Assumes nothing.
use Rattle.numbers.proofs.Prelude.{ℕ, ◌+◌, ◌^◌, ◌≤◌, leb-true, leb, length, length-append, Bool, true, ◌&&◌, List, [], ◌∷◌, ◌++◌, flat_map, ◌≡◌, refl, sym, ap, ◌∙◌, add-zero, arith}
use Rattle.numbers.{proofs.Tests.{both}, specs.{Reply.{given}, Spelling.{varint_of}}}
use Rattle.border.proofs.{AtPlace.{number_at}, OnWay.{At, at_first, at_next}}
use Rattle.writer.specs.Writer.{every}
use Rattle.builder.specs.{File.{is_text}, Metadata.{inlined}}
use Rattle.header.{proofs.ReadBack.{no_texts, says_texts, sections_are}, specs.{Field.{entry}, Header.{texts_from, sections_at}, Utf8.{is_utf8}}}
use Rattle.promises.proofs.Built.Strings.{inline_says}

-- ---- names and notice
pub texts_read : (strict : Bool) (file : List ℕ) (names : ℕ) (ts : List (List ℕ)) → every is_text ts ≡ true → (index place : ℕ) → At file place (flat_map inlined ts)
    → texts_from strict file names (length ts) index place ≡ given (record { bytes = flat_map entry ts; place = place + length (flat_map inlined ts) })
unfolding flat_map every is_text
texts_read strict file names [] good index place here = no_texts strict file names index place ∙ ap (λ (n : ℕ). given (record { bytes = []; place = n })) (sym (add-zero place))
texts_read strict file names (t ∷ ts) good index place here = let now = both (leb (length t) 255 && is_utf8 t) (every is_text ts) good in
    let text = both (leb (length t) 255) (is_utf8 t) now.0 in
    let says = inline_says strict file t (leb-true (length t) 255 text.0) place (at_first file place (inlined t) (flat_map inlined ts) here) 0 in
    let more = texts_read strict file names ts now.1 (index + 1) (place + length (inlined t)) (at_next file place (inlined t) (flat_map inlined ts) here) in
    let size : place + length (inlined t) + length (flat_map inlined ts) ≡ place + length (inlined t ++ flat_map inlined ts) = omega (arith, length-append (inlined t) (flat_map inlined ts)) in
    says_texts says text.1 names (length ts) index _ more refl ∙ ap (λ (n : ℕ). given (record { bytes = entry t ++ flat_map entry ts; place = n })) size

-- ---- the sizes
module _ (strict : Bool) (file : List ℕ) (place : ℕ) (t m d : ℕ) (small : length file ≤ 2 ^ 30) where
  abbrev after : ℕ
  after = place + length (varint_of t) + length (varint_of m) + length (varint_of d)

  module _ (here : At file place (varint_of t ++ (varint_of m ++ varint_of d))) (whole : after + (t + (m + d)) ≡ length file) where
    pub sections_read : sections_at strict file place ≡ given (record { table = after; metadata = after + t; «data» = after + (t + m) })
    sections_read = let two = at_next file place (varint_of t) (varint_of m ++ varint_of d) here in
        let three = at_next file (place + length (varint_of t)) (varint_of m) (varint_of d) two in
        sections_are strict file place (place + length (varint_of t)) (place + length (varint_of t) + length (varint_of m)) after t m d small
        (number_at strict file place t (omega arith) (at_first file place (varint_of t) (varint_of m ++ varint_of d) here)) (number_at strict file (place + length
        (varint_of t)) m (omega arith) (at_first file (place + length (varint_of t)) (varint_of m) (varint_of d) two)) (number_at strict file (place + length
        (varint_of t) + length (varint_of m)) d (omega arith) three) whole
