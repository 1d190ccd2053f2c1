-- Parts of a map and of a bundle as they are lent: a name, a file, an abbreviation; and an offset by its bits. Assumes nothing.
use Rattle.numbers.proofs.Prelude.{ℕ, zero, suc, ◌+◌, ◌-◌, ◌^◌, ℤ, pos, take, drop, lt_z, true, false, List, [], ◌∷◌, ◌++◌, map, ◌≡◌, refl, sym, ap, ◌∙◌, w32, SFits, of_z, to_z, arith}
use lib.Bits.{bit_xor}
use mathlib.Core.List.{map-append, map-map}
use Rattle.bundle.specs.Bundle.{xored}
use Rattle.header.{proofs.Strings.{part, part_is}, specs.{Text.{bytes_of}, Utf8.{unmasked}, declared.text.Text.{Text}}}
use Rattle.line.{proofs.Signs.{is_negative, not_negative}, specs.Clock.{span_text, offset_text, shown}}
use Rattle.slip.specs.{Line.{between, shown_text}, Told.{name_in}}
use Rattle.tzif.specs.Text.{slice}
use Rattle.zones.specs.declared.simple.Parts.{Parts}

-- from a start to an end is so many from the start on
pub part_slice : (xs : List ℕ) (start size : ℕ) → take (start + size - start) (drop start xs) ≡ slice xs start size
part_slice xs start size = ap (λ (k : ℕ). take k (drop start xs)) (let e : start + size - start ≡ size = omega arith in e)

module _ (file : List ℕ) (name : Parts) where
  -- both parts, unmasked, are the name
  pub parts_name : map (xored 0x80) (part file name.one ++ part file name.two) ≡ name_in file name
  parts_name = map-append unmasked (part file name.one) (part file name.two) ∙ (λ i. part_is file name.one i ++ part_is file name.two i)

  part_shown : (text : Text) → map (λ byte. shown (bit_xor byte 0x80)) (part file text) ≡ shown_text (bytes_of file text)
  part_shown text = sym (map-map shown unmasked (part file text)) ∙ ap (map shown) (part_is file text)

  -- and as they are printed
  pub parts_shown : map (λ byte. shown (bit_xor byte 0x80)) (part file name.one) ++ map (λ byte. shown (bit_xor byte 0x80)) (part file name.two) ≡ shown_text (name_in file name)
  parts_shown = (λ i. part_shown name.one i ++ part_shown name.two i) ∙ sym (map-append shown (bytes_of file name.one) (bytes_of file name.two))

-- a comma before one that is not the first
pub between_more : (i : ℕ) → (i ≡ 0 → ⊥) → 44 ∷ 32 ∷ [] ≡ between i
unfolding between
between_more zero h = absurd (h refl)
between_more (suc i) h = refl

-- ---- the text of an offset, by its bits
module _ (z : ℤ) (fits : SFits w32 z) {bits : ℕ} (e : bits ≡ of_z w32 z) where
  pub below_zero : lt_z (to_z w32 (of_z w32 z)) (pos 0) ≡ true → 45 ∷ span_text (2 ^ 32 - bits) ≡ offset_text z
  unfolding offset_text
  below_zero t = let n = is_negative z fits e t in ap (λ (k : ℕ). 45 ∷ span_text k) n.size ∙ ap offset_text n.is

  pub from_zero : lt_z (to_z w32 (of_z w32 z)) (pos 0) ≡ false → 43 ∷ span_text bits ≡ offset_text z
  unfolding offset_text
  from_zero t = ap offset_text (not_negative z fits e t)
