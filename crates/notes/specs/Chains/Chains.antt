-- Items in chains: for each of 4,096 buckets the last item that was entered, and for each entered item the one before it in its bucket.
use Rattle.std.specs.Prelude.{Option, Some, None, if◌then◌else◌, ◌+◌, ◌*◌, ◌≤◌, ◌<◌, ◌&&◌, ◌≡◌}
use Rattle.numbers.specs.Prelude.{ℕ, zero, suc, eqb, length, get_or, Bool, true, false, List}
use Rattle.builder.specs.Grouping.{Items.{Inside}, Keys.{alike}}

-- of the first so many numbers the last that is good, and one more; 0 if none is
unfoldable pub last_with : (ℕ → Bool) → ℕ → ℕ
last_with good zero = 0
last_with good (suc n) = if good n then suc n else last_with good n

module _ (bucket : ℕ → ℕ) (entered : ℕ → Bool) where
  -- an item is entered, in this bucket
  unfoldable pub in_bucket : ℕ → ℕ → Bool
  in_bucket k item = entered item && eqb (bucket item) k

  -- the chains of the first so many items: a word a bucket, then a word an item, each one more than the item it means; 0 means none
  pub record Chained (count : ℕ) (chain : List ℕ) : Type 0 where
    pub room : 4096 + count ≤ length chain
    pub heads : (k : ℕ) → k < 4096 → get_or chain k 0 ≡ last_with (in_bucket k) count
    pub links : (item : ℕ) → item < count → entered item ≡ true → get_or chain (4096 + item) 0 ≡ last_with (in_bucket (bucket item)) item
    pub left_out : (item : ℕ) → item < count → entered item ≡ false → get_or chain (4096 + item) 0 ≡ 0
    pub rest : (item : ℕ) → count ≤ item → get_or chain (4096 + item) 0 ≡ 0

-- ---- what the functions say
-- an item as a word of a chain: one more, 0 for none
abbrev pub word_of : Option ℕ → ℕ
word_of None = 0
word_of (Some item) = item + 1

-- an entered item that is the same as this one
abbrev pub meets : List ℕ → List ℕ → ℕ → (ℕ → Bool) → ℕ → ℕ → Bool
meets starts texts width entered item other = entered other && alike starts texts width item other

-- an item and all before it lie inside the texts
abbrev pub ItemsInside : List ℕ → List ℕ → ℕ → ℕ → Type 0
ItemsInside starts texts width item = Inside starts texts ((item + 1) * width)
