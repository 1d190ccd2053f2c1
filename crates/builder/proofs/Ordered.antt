-- Entries in the order of their words: the table over sorted words is the definition's. Assumes nothing.
use Rattle.numbers.proofs.Prelude.{ℕ, ◌+◌, ◌*◌, ◌/◌, ◌%◌, ◌^◌, ℤ, List, [], ◌∷◌, map, ◌≡◌, refl, sym, ap, ◌∙◌, arith}
use Rattle.layout.{proofs.Orders.{sorted_map}, specs.Order.{sorted_by, key_of}}
use Rattle.builder.specs.Entries.{Entry, entry_at, bounds_at, places_at, from_south, entry_of_word, word_of_yard, table_from, table_of}

pub upper : (k j : ℕ) → (k * 2 ^ 32 + j % 2 ^ 32) / 2 ^ 32 ≡ k
upper k j = omega arith

pub lower : (k j : ℕ) → (k * 2 ^ 32 + j % 2 ^ 32) % 2 ^ 32 ≡ j % 2 ^ 32
lower k j = omega arith

module _ (boxes : List ℤ) (places : List ℕ) where
  abbrev south_of : ℕ → ℕ
  south_of yard = from_south (bounds_at boxes (yard % 2 ^ 32)).south

  word_key : (yard : ℕ) → key_of (word_of_yard boxes yard) ≡ south_of yard
  unfolding word_of_yard
  word_key yard = upper (south_of yard) yard

  entry_key : (yard : ℕ) → from_south (entry_of_word boxes places yard).bounds.south ≡ south_of yard
  unfolding entry_of_word
  entry_key yard = refl

  word_entry : (yard : ℕ) → entry_of_word boxes places (word_of_yard boxes yard) ≡ entry_of_word boxes places yard
  unfolding entry_of_word word_of_yard
  word_entry yard = ap (λ (n : ℕ). entry_at (bounds_at boxes n) (places_at places n)) (lower (south_of yard) yard)

  words_entries : (yards : List ℕ) → map (entry_of_word boxes places) (map (word_of_yard boxes) yards) ≡ map (entry_of_word boxes places) yards
  words_entries [] = refl
  words_entries (yard ∷ yards) =
      ap (λ (e : Entry). e ∷ map (entry_of_word boxes places) (map (word_of_yard boxes) yards)) (word_entry yard) ∙ ap (λ (es : List Entry). entry_of_word boxes places yard ∷ es) (words_entries yards)

  -- the words sorted by their keys give the entries sorted by their lower latitudes
  pub table_is : (yards : List ℕ) → table_from 0 0 (map (entry_of_word boxes places) (sorted_by key_of (map (word_of_yard boxes) yards))) ≡ table_of (map (entry_of_word boxes places) yards)
  unfolding table_of
  table_is yards =
      ap (table_from 0 0) (ap (map (entry_of_word boxes places)) (sym (sorted_map south_of key_of (word_of_yard boxes) word_key yards))
      ∙ (words_entries (sorted_by south_of yards) ∙ sorted_map south_of (λ (e : Entry). from_south e.bounds.south) (entry_of_word boxes places) entry_key yards))
