-- What is entered in the chains of a builder: the records of its yards, and the values of these records.
use Rattle.std.specs.Prelude.{◌*◌, ◌/◌, ◌%◌, ◌≤◌, ◌≡◌}
use Rattle.numbers.specs.Prelude.{ℕ, eqb, Bool, List}
use Rattle.builder.specs.Grouping.{Items.{starts_from}, Keys.{alike, hash_of}}
use Rattle.notes.specs.Chains.Chains.{last_with, in_bucket, Chained, meets, ItemsInside}

-- the bucket of an item
unfoldable pub bucket_of : List ℕ → List ℕ → ℕ → ℕ → ℕ
bucket_of starts texts width item = hash_of starts texts width item % 4096

module _ (names : ℕ) (lengths texts : List ℕ) where
  -- a yard whose values no yard before it has: it has a record of its own
  unfoldable pub is_first : ℕ → Bool
  is_first yard = eqb (last_with (alike (starts_from 0 lengths) texts names yard) yard) 0

  -- a value of such a yard
  unfoldable pub is_field : ℕ → Bool
  is_field value = is_first (value / names)

  -- the records and the fields of so many yards, of so many names and these values
  pub record Indexed (count : ℕ) (chains groups : List ℕ) : Type 0 where
    pub fields : Chained (bucket_of (starts_from 0 lengths) texts 1) is_field (count * names) chains
    pub records : Chained (bucket_of (starts_from 0 lengths) texts names) is_first count groups

-- ---- what the functions say
-- a walk along the chain of an item, from the last of its bucket before some item on, comes to the last before it that is the same
pub record Walked (starts texts : List ℕ) (width : ℕ) (chain : List ℕ) (item from r : ℕ) : Type 0 where
  pub within : r ≤ item
  pub last : (entered : ℕ → Bool) (count before : ℕ) → ItemsInside starts texts width item → Chained (bucket_of starts texts width) entered count chain → before ≤ count → count ≤ item
      → from ≡ last_with (in_bucket (bucket_of starts texts width) entered (bucket_of starts texts width item)) before → r ≡ last_with (meets starts texts width entered item) before
