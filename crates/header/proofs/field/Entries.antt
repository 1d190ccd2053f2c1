-- How a string goes out into a lent text. Assumes nothing.
use Rattle.numbers.{proofs.Prelude.{ℕ, ◌+◌, ◌-◌, ◌/◌, ◌%◌, ◌≤◌, ◌<◌, length, take, drop, get_or, set, length-map, length-set, List, ◌∷◌, ◌++◌, map, ◌≡◌, sym, ap, ◌∙◌, arith}, specs.Lists.{over}}
use lib.Bits.{bit_xor}
use Rattle.header.specs.{Field.{entry, field}, Utf8.{unmasked}}
use Rattle.header.proofs.Buffers.{map_at, copied_suc, copied_length, copied_all, lent_length, over_length, put_one, put_two}

-- i bytes are out
abbrev pub unmasked_to : ℕ → List ℕ → List ℕ → List ℕ
unmasked_to i stored text = take i (map unmasked stored) ++ drop i text

module _ (stored text : List ℕ) (i : ℕ) where
  pub unmask_suc : i < length stored → i < length text → set (unmasked_to i stored text) i (bit_xor (get_or stored i 0) 0x80) ≡ unmasked_to (i + 1) stored text
  unmask_suc hs ht = ap (set (unmasked_to i stored text) i) (sym (map_at unmasked stored i hs)) ∙ copied_suc (map unmasked stored) text i (rw length-map hs) ht

  pub unmask_length : i ≤ length stored → i ≤ length text → length (unmasked_to i stored text) ≡ length text
  unmask_length hs ht = copied_length (map unmasked stored) text i (rw length-map hs) ht

  pub unmask_all : i ≤ length stored → length stored ≤ i → unmasked_to i stored text ≡ over (map unmasked stored) text
  unmask_all le ge = copied_all (map unmasked stored) text i (rw length-map le) (rw length-map ge)

-- ---- into a lent text
module _ (text stored last : List ℕ) where
  abbrev size_stored : List ℕ
  size_stored = set (set text 0 (length stored / 256)) 1 (length stored % 256)

  pub entry_fits : length stored + 2 ≤ length text → length stored ≤ length (take (length size_stored - 2) (drop 2 size_stored))
  entry_fits h = rw (lent_length 2 size_stored) (simp length-set (omega arith))

  pub entry_put : length stored + 2 ≤ length text → last ≡ over (map unmasked stored) (take (length size_stored - 2) (drop 2 size_stored))
      → take 2 size_stored ++ (last ++ drop (length size_stored - 2) (drop 2 size_stored)) ≡ over (entry (map unmasked stored)) text
  entry_put h e =
      put_two text (map unmasked stored) (length stored / 256) (length stored % 256) (rw length-map h) last e
      ∙ ap (λ (n : ℕ). over ((n / 256) ∷ (n % 256) ∷ map unmasked stored) text) (sym (length-map stored unmasked))

  pub entry_length : length stored + 2 ≤ length text → length (over (entry (map unmasked stored)) text) ≡ length text
  entry_length h = over_length (entry (map unmasked stored)) text (rw length-map (omega arith))

  module _ (tag : ℕ) where
    abbrev tag_stored : List ℕ
    tag_stored = set text 0 tag

    pub field_fits : length stored + 3 ≤ length text → length stored + 2 ≤ length (take (length tag_stored - 1) (drop 1 tag_stored))
    field_fits h = rw (lent_length 1 tag_stored) (simp length-set (omega arith))

    pub field_put : length stored + 3 ≤ length text → last ≡ over (entry (map unmasked stored)) (take (length tag_stored - 1) (drop 1 tag_stored))
        → take 1 tag_stored ++ (last ++ drop (length tag_stored - 1) (drop 1 tag_stored)) ≡ over (field tag (map unmasked stored)) text
    field_put h e = put_one text (entry (map unmasked stored)) tag (rw length-map (omega arith)) last e

    pub field_length : length stored + 3 ≤ length text → length (over (field tag (map unmasked stored)) text) ≡ length text
    field_length h = over_length (field tag (map unmasked stored)) text (rw length-map (omega arith))
