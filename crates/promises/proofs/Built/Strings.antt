-- Texts that stand at a place of a file, inline or elsewhere, are read back, plainly and strictly. Assumes nothing.
use Rattle.numbers.proofs.Prelude.{ℕ, ◌+◌, ◌^◌, ◌≤◌, ◌<◌, length, take, drop, length-append, length-map, Bool, List, map, ◌≡◌, sym, ap, ◌∙◌, arith}
use Rattle.numbers.specs.{Spelling.{varint_of}, Varint.{numeral, reading_of}}
use Rattle.border.proofs.{AtPlace.{at_inside, at_take, number_at}, OnWay.{At, at_first, at_next}}
use Rattle.builder.{proofs.Masks.{unmask_twice}, specs.Metadata.{inlined}}
use Rattle.header.{proofs.ReadBack.{Says, Masked}, specs.Utf8.{unmasked}}
use Rattle.header.proofs.ReadBack as R

module _ (strict : Bool) (file t : List ℕ) (short : length t ≤ 255) (place : ℕ) (here : At file place (inlined t)) where
  abbrev behind : ℕ
  behind = place + length (varint_of (length t))

  length_read : reading_of strict file place ≡ numeral (length t) behind
  unfolding inlined
  length_read = number_at strict file place (length t) (omega arith) (at_first file place (varint_of (length t)) (map unmasked t) here)

  bytes_at : At file behind (map unmasked t)
  unfolding inlined
  bytes_at = at_next file place (varint_of (length t)) (map unmasked t) here

  masked : Masked file behind t
  masked = let size : length (map unmasked t) ≡ length t = length-map t unmasked in record {
    there = ap (map unmasked) (ap (λ (n : ℕ). take n (drop behind file)) (sym size) ∙ at_take bytes_at) ∙ unmask_twice t;
    inside = λ some. omega (arith, size, at_inside bytes_at (omega (arith, size)));
  }

  inlined_size : length (inlined t) ≡ length (varint_of (length t)) + length t
  unfolding inlined
  inlined_size = length-append (varint_of (length t)) (map unmasked t) ∙ ap (λ (n : ℕ). length (varint_of (length t)) + n) (length-map t unmasked)

  -- a text inline
  pub inline_says : (metadata : ℕ) → Says strict file metadata place t (place + length (inlined t))
  inline_says metadata = let says = R.inline_says strict file t short metadata place behind length_read masked in
      record { text = says.text; reads = says.reads; bytes = says.bytes; after = says.after ∙ omega (arith, inlined_size) }

-- a text elsewhere: the word says how far behind the metadata's begin it lies, and 256
pub remote_says : (strict : Bool) (file t : List ℕ) → length t ≤ 255 → (metadata place offset : ℕ) → metadata + offset < 2 ^ 32
    → At file place (varint_of (256 + offset)) → At file (metadata + offset) (inlined t) → Says strict file metadata place t (place + length (varint_of (256 + offset)))
remote_says strict file t short metadata place offset small word here =
    R.remote_says strict file t short metadata place (place + length (varint_of (256 + offset))) offset (behind strict file t short (metadata + offset) here) small
    (number_at strict file place (256 + offset) (omega arith) word) (length_read strict file t short (metadata + offset) here) (masked strict file t short (metadata + offset) here)
