-- The words of the records' fields: 0 for one that is inline, else one more than how far behind the records its text lies.
use Rattle.std.specs.Prelude.{if◌then◌else◌, ◌+◌, ◌*◌, ◌^◌, ◌≤◌, ◌<◌, ◌∷◌, ◌≡◌}
use Rattle.numbers.specs.Prelude.{ℕ, suc, eqb, length, take, List, [], map, flat_map}
use Rattle.builder.specs.{Grouping.{Items.{starts_from}, Keys.{keys_of}}, Metadata.{inlined, is_remote, remotes, offset_of}, Sharing.{same_text, firsts, good_ones}, Yards.{Text, cut_by, sum_of}}

module _ (fields : List Text) where
  unfoldable pub word_in : Text → ℕ
  word_in text = if is_remote fields text then suc (offset_of fields text) else 0

  -- the bytes of some fields that are inline
  unfoldable pub inline_in : List Text → ℕ
  inline_in [] = 0
  inline_in (t ∷ ts) = (if is_remote fields t then 0 else length (inlined t)) + inline_in ts

  -- the bytes of the texts behind the records that some fields use
  unfoldable pub remote_in : List Text → ℕ
  remote_in ts = length (flat_map inlined (firsts same_text (good_ones (is_remote fields) ts)))

-- where the fields begin, and their words in the order of their hashes
pub record Marked (lengths texts starts keys : List ℕ) : Type 0 where
  pub begin : starts ≡ starts_from 0 lengths
  pub whole : sum_of lengths ≤ length texts
  pub many : length keys ≡ length lengths
  pub bound : sum_of lengths + 10 * length lengths < 2 ^ 32
  pub order : keys ≡ keys_of starts texts 1 (length keys)

-- the first so many words are written
pub record WordsTo (fields : List Text) (words : List ℕ) (i : ℕ) : Type 0 where
  pub inside : i ≤ length words
  pub front : take i words ≡ map (word_in fields) (take i fields)

-- all words, and how many bytes stand in the records beside them and behind the records
pub record Wording (lengths texts words : List ℕ) (inline remote : ℕ) : Type 0 where
  pub words_are : take (length lengths) words ≡ map (word_in (cut_by lengths texts)) (cut_by lengths texts)
  pub inline_is : inline ≡ inline_in (cut_by lengths texts) (cut_by lengths texts)
  pub remote_is : remote ≡ length (flat_map inlined (remotes (cut_by lengths texts)))

-- the sums with one field more, by its word
pub record Added (inline remote word size inline' remote' : ℕ) : Type 0 where
  pub inline_on : inline' ≡ inline + (if eqb word 0 then size else 0)
  pub remote_on : remote' ≡ remote + (if eqb word (remote + 1) then size else 0)
