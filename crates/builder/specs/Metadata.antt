-- The metadata section: "Yards with equal field values share one metadata record, others have their own. Records lie in order of arrival; a nonempty value
-- found twice in the records is stored once, remotely, after them, by first use; of several layouts that fit, the shortest."
use Rattle.std.specs.Prelude.{if◌then◌else◌, ◌+◌, ◌*◌, ◌&&◌, ◌∷◌, ◌++◌}
use Rattle.numbers.specs.{Prelude.{ℕ, zero, suc, eqb, leb, length, get_or, Bool, not, List, [], map, flat_map}, Spelling.{varint_of}}
use Rattle.header.specs.Utf8.{unmasked}
use Rattle.builder.specs.{Sharing.{same_text, same_texts, times_in, firsts, size_before, good_ones}, Yards.{Text, Yard}}

-- a text inline: its length, and its bytes XOR 0x80
unfoldable pub inlined : Text → List ℕ
inlined text = varint_of (length text) ++ map unmasked text

-- the records of the yards, and all their fields
abbrev pub records_of : List Yard → List (List Text)
records_of yards = firsts same_texts (map (λ y. y.values) yards)

unfoldable pub fields_of : List (List Text) → List Text
fields_of [] = []
fields_of (record' ∷ records) = record' ++ fields_of records

-- over the fields of all records
module _ (fields : List Text) where
  -- "a nonempty value found twice in the records"
  unfoldable pub is_remote : Text → Bool
  is_remote text = not (eqb (length text) 0) && leb 2 (times_in same_text text fields)

  -- the texts behind the records, by first use
  unfoldable pub remotes : List Text
  remotes = firsts same_text (good_ones is_remote fields)

  -- how far behind the records a text lies
  unfoldable pub offset_of : Text → ℕ
  offset_of text = size_before same_text (λ t. length (inlined t)) text remotes

  -- a field, if the records take this length: inline, or 256 and the place of its text in the section
  unfoldable pub written : ℕ → Text → List ℕ
  written records text = if is_remote text then varint_of (256 + records + offset_of text) else inlined text

  -- the layout fits: the records take the length that they are laid out for
  unfoldable pub fits : ℕ → Bool
  fits records = eqb (length (flat_map (written records) fields)) records

-- the first number from this one on that is good, of so many
unfoldable pub first_from : ℕ → (ℕ → Bool) → ℕ → ℕ
first_from zero good n = n
first_from (suc more) good n = if good n then n else first_from more good (suc n)

-- the shortest layout that fits; no word has more than ten bytes
unfoldable pub layout_of : List Text → ℕ
layout_of fields = first_from (length (flat_map inlined fields) + 10 * length fields) (fits fields) 0

-- the place of a yard's record in the section
unfoldable pub start_of : List (List Text) → List Text → ℕ
start_of records values =
    let fields = fields_of records in
    size_before same_texts (λ r. length (flat_map (written fields (layout_of fields)) r)) values records

unfoldable pub metadata_of : List (List Text) → List ℕ
metadata_of records =
    let fields = fields_of records in
    flat_map (written fields (layout_of fields)) fields ++ flat_map inlined (remotes fields)

-- ---- what the inner functions say of each other
-- texts one after another, each as the bytes of its index and itself
unfoldable pub joined_from : (ℕ → Text → List ℕ) → ℕ → List Text → List ℕ
joined_from bytes i [] = []
joined_from bytes i (t ∷ ts) = bytes i t ++ joined_from bytes (suc i) ts

-- a field by its word, which is 0 if it is inline, else one more than how far behind the records its text lies
unfoldable pub word_bytes : ℕ → ℕ → Text → List ℕ
word_bytes records word text = if eqb word 0 then inlined text else varint_of (255 + records + word)

abbrev pub field_bytes : ℕ → List ℕ → ℕ → Text → List ℕ
field_bytes records words i text = word_bytes records (get_or words i 0) text
