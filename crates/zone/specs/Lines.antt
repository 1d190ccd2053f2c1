-- The lines that are printed: "lookup 1 1 3C070000", "match 0 0 1 16", "field 0 41", "refused 3".
use Rattle.std.specs.Prelude.{◌+◌, ◌*◌, ◌/◌, ◌%◌, ◌≤◌, ◌∷◌, ◌++◌, ◌≡◌, if◌then◌else◌}
use Rattle.numbers.specs.Prelude.{ℕ, zero, suc, ltb, length, take, drop, get_or, List, []}
use Rattle.numbers.specs.{Reply.{Reply, given, refused}, declared.refusal.Refusal.{Refusal}}
use Rattle.line.specs.Put.{decimal}
use Rattle.table.specs.{Hits.{slots}, declared.hits.Hit.{Hit}}
use Rattle.zones.specs.declared.lookup.Zones.{Zones}

-- the ASCII code of the last hexadecimal digit
unfoldable pub hex_digit : ℕ → ℕ
hex_digit n = if ltb (n % 16) 10 then 48 + n % 16 else 55 + n % 16

-- a byte's two digits
abbrev pub hex_byte : ℕ → List ℕ
hex_byte byte = hex_digit (byte / 16) ∷ hex_digit byte ∷ []

-- a space and 32 bits, highest first
unfoldable pub bits_text : ℕ → List ℕ
bits_text bits = (32 ∷ []) ++ (hex_byte (bits / 16777216 % 256) ++ (hex_byte (bits / 65536 % 256) ++ (hex_byte (bits / 256 % 256) ++ hex_byte (bits % 256))))

-- the digits of each byte
unfoldable pub digits_text : List ℕ → List ℕ
digits_text [] = []
digits_text (byte ∷ bytes) = hex_byte byte ++ digits_text bytes

-- after a space if there are any
unfoldable pub bytes_text : List ℕ → List ℕ
bytes_text [] = []
bytes_text (byte ∷ bytes) = 32 ∷ digits_text (byte ∷ bytes)

-- a field in the lent text is a tag, a length in two bytes, the high one first, and so many bytes
abbrev pub size_of : List ℕ → ℕ
size_of text = 256 * get_or text 1 0 + get_or text 2 0

-- "field", the tag and the bytes of a text's first field
unfoldable pub field_line : List ℕ → List ℕ
field_line text = (102 ∷ 105 ∷ 101 ∷ 108 ∷ 100 ∷ []) ++ ((32 ∷ decimal (get_or text 0 0)) ++ (bytes_text (take (size_of text) (drop 3 text)) ++ (10 ∷ [])))

-- the lines of so many fields, and the text behind them
unfoldable pub field_lines : ℕ → List ℕ → List ℕ
field_lines zero text = []
field_lines (suc more) text = field_line text ++ field_lines more (drop (3 + size_of text) text)

unfoldable pub behind_fields : ℕ → List ℕ → List ℕ
behind_fields zero text = text
behind_fields (suc more) text = behind_fields more (drop (3 + size_of text) text)

-- a place of a text is the one behind so many fields, or the text's end
pub record Behind (count : ℕ) (text : List ℕ) (place : ℕ) : Type 0 where
  pub inside : place ≤ length text
  pub rest : drop place text ≡ behind_fields count text

-- "match", polygon id, metadata id, kind, the place of the entry
unfoldable pub match_line : Hit → List ℕ
match_line hit =
    (109 ∷ 97 ∷ 116 ∷ 99 ∷ 104 ∷ [])
    ++ ((32 ∷ decimal hit.polygon) ++ ((32 ∷ decimal hit.metadata) ++ ((32 ∷ decimal hit.kind) ++ ((32 ∷ decimal hit.place) ++ (10 ∷ [])))))

-- each match, and behind it its fields, so many
unfoldable pub match_lines : ℕ → List Hit → List ℕ → List ℕ
match_lines count [] text = []
match_lines count (hit ∷ hits) text = match_line hit ++ (field_lines count text ++ match_lines count hits (behind_fields count text))

-- "lookup", matches, end mark, the safezone's bits
unfoldable pub lookup_line : Zones → List ℕ
lookup_line zones = (108 ∷ 111 ∷ 111 ∷ 107 ∷ 117 ∷ 112 ∷ []) ++ ((32 ∷ decimal zones.matches) ++ ((32 ∷ decimal zones.mark) ++ (bits_text zones.safezone ++ (10 ∷ []))))

-- "refused", number
unfoldable pub refused_line : Refusal → List ℕ
refused_line why = (114 ∷ 101 ∷ 102 ∷ 117 ∷ 115 ∷ 101 ∷ 100 ∷ []) ++ ((32 ∷ decimal why.number) ++ (10 ∷ []))

-- all lines for a reply and both lent buffers, with so many fields for each match
unfoldable pub lines_of : ℕ → Reply Zones → List ℕ → List ℕ → List ℕ
lines_of count (given zones) hits text = lookup_line zones ++ match_lines count (take zones.matches (slots hits)) text
lines_of count (refused why) hits text = refused_line why
