-- Items in the order of their hashes, and the first of those that are the same.
use Rattle.std.specs.Prelude.{◌+◌, ◌*◌, ◌%◌, ◌^◌, ◌≤◌, ◌<◌, ◌∷◌, ◌≡◌}
use Rattle.numbers.specs.{Lists.{zeros}, Prelude.{ℕ, zero, suc, length, get_or, Bool, List, [], map}}
use Rattle.builder.specs.{Grouping.Items.{item_at, hash_texts, Inside}, Sharing.{same_texts, first_with}}
use Rattle.layout.specs.Order.{key_of, sorted_by}

-- so many numbers from one on
unfoldable pub numbers_from : ℕ → ℕ → List ℕ
numbers_from i zero = []
numbers_from i (suc count) = i ∷ numbers_from (suc i) count

-- the item that a word stands for
abbrev pub item_of : ℕ → ℕ
item_of word = word % 2 ^ 32

module _ (starts texts : List ℕ) (width : ℕ) where
  -- the hash of an item, by its number
  abbrev pub hash_of : ℕ → ℕ
  hash_of item = hash_texts 0 (item_at starts texts (item * width) width)

  -- an item's word: its hash and its number
  unfoldable pub key_word : ℕ → ℕ
  key_word item = hash_of item * 2 ^ 32 + item % 2 ^ 32

  -- two items are the same
  unfoldable pub alike : ℕ → ℕ → Bool
  alike a b = same_texts (item_at starts texts (a * width) width) (item_at starts texts (b * width) width)

  -- the words of so many items, in order
  unfoldable pub keys_of : ℕ → List ℕ
  keys_of count = sorted_by key_of (map key_word (numbers_from 0 count))

  -- the first of so many items that is the same as this one
  unfoldable pub first_of : ℕ → ℕ → ℕ
  first_of count item = first_with (alike item) item (numbers_from 0 count)

-- ---- what the functions say
-- the words stand in order, and the second list is zero
pub record Sorting (starts texts : List ℕ) (width count : ℕ) (spare keys other : List ℕ) : Type 0 where
  pub order : keys ≡ keys_of starts texts width count
  pub rest : other ≡ zeros (length spare)

-- the place from which on no key is lower than this one, and before which every one is
pub record Lower (keys : List ℕ) (key place : ℕ) : Type 0 where
  pub inside : place ≤ length keys
  pub lower : (i : ℕ) → i < place → key_of (get_or keys i 0) < key
  pub upper : (i : ℕ) → place ≤ i → i < length keys → key ≤ key_of (get_or keys i 0)

-- each word stands for an item, and its key is that item's hash
pub record Members (starts texts : List ℕ) (width : ℕ) (keys : List ℕ) : Type 0 where
  pub inside : Inside starts texts (length keys * width)
  pub member : (i : ℕ) → i < length keys → item_of (get_or keys i 0) < length keys
  pub keyed : (i : ℕ) → i < length keys → key_of (get_or keys i 0) ≡ hash_of starts texts width (item_of (get_or keys i 0))
