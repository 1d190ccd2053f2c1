-- The new file: document 02, Q-7, "version and metadata section stay, names and notice go inline".
use Rattle.std.specs.Prelude.{◌+◌, ◌-◌, ◌%◌, ◌^◌, ◌≤◌, ◌<◌, ◌&&◌, ◌∷◌, ◌++◌, ◌≡◌}
use Rattle.numbers.specs.Prelude.{ℕ, zero, suc, ltb, leb, ℤ, length, take, drop, Bool, true, false, List, [], flat_map}
use Rattle.numbers.specs.{Point.{read_i32}, Reply.{Reply, given, refused, plain, demand, ◌or_else◌, ◌>>=◌, ◌>>◌}, Spelling.{varint_of, signed_form}}
use Rattle.header.specs.{Text.{string_at}, declared.header.Head.{Head}}
use Rattle.salvage.specs.{Kept.{encoding_in, border_place}, Moves.Moves.{moves_at, moves_bytes}, inner.Moves.Laid.{cap, Capped}}
use Rattle.border.specs.Encoding.{version_of}
use Rattle.table.specs.declared.{rows.Row.{Row}, table.Bounds.{Bounds}}

-- ---- header
-- so many texts from a place on, inline: 26 "for a 256-byte name or notice". The bytes are stored as they stand.
unfoldable pub texts_inline : List ℕ → Head → ℕ → ℕ → Reply (List ℕ)
texts_inline file head zero place = given []
texts_inline file head (suc more) place = do
  text ← string_at head.strict file 0 place or_else plain 26
  demand (leb text.size 255) (plain 26)
  rest ← texts_inline file head more text.next
  given (varint_of text.size ++ (take text.size (drop text.start file) ++ rest))

-- the names, then the notice
abbrev pub head_texts : List ℕ → Head → Reply (List ℕ)
head_texts file head = texts_inline file head (head.preamble.count + 1) 7

-- ---- sections
-- "kept borders are written without borrowed runs; every move stays"
unfoldable pub border_bytes : List ℕ → Head → Row → List ℕ
border_bytes file head r = moves_bytes (version_of head.preamble.version) (moves_at file (encoding_in file head) (border_place file head r))

-- its old box as four signed numbers
unfoldable pub box_bytes : Bounds → List ℕ
box_bytes b = varint_of (signed_form b.min_lat.0) ++ (varint_of (signed_form b.min_lon.0) ++ (varint_of (signed_form b.max_lat.0) ++ varint_of (signed_form b.max_lon.0)))

-- the step of the metadata id from that of the entry kept before: the difference modulo 2 ^ 32, as an i32
abbrev pub id_step : ℕ → ℕ → ℤ
id_step from to = read_i32 ((to + 2 ^ 32 - from) % 2 ^ 32)

-- an entry behind one with this id, whose border has so many bytes
unfoldable pub entry_bytes : ℕ → ℕ → Row → List ℕ
entry_bytes id size r = box_bytes r.bounds ++ (varint_of (signed_form (id_step id r.metadata)) ++ varint_of size)

unfoldable pub table_from : List ℕ → Head → ℕ → ℕ → List Row → List ℕ
table_from file head id size [] = []
table_from file head id size (r ∷ rows) = entry_bytes id size r ++ table_from file head r.metadata (length (border_bytes file head r)) rows

-- the old metadata section, byte for byte
abbrev pub metadata_of : List ℕ → Head → List ℕ
metadata_of file head = take (head.sections.«data» - head.sections.metadata) (drop head.sections.metadata file)

-- ---- header, the sizes of the three sections, the sections
unfoldable pub assembled : List ℕ → List ℕ → List ℕ → List ℕ → List ℕ
assembled head table metadata bytes =
    head ++ (varint_of (length table) ++ (varint_of (length metadata) ++ (varint_of (length bytes) ++ (table ++ (metadata ++ bytes)))))

-- the first seven bytes stay: type, version, precision and the number of names
unfoldable pub new_file : List ℕ → Head → List ℕ → List Row → List ℕ
new_file file head texts kept = assembled (take 7 file ++ texts) (table_from file head 0 0 kept) (metadata_of file head) (flat_map (border_bytes file head) kept)

-- ---- sizes, counted with a cap
-- the length of some bytes, or that they reach the cap, and so does the count
pub record Sized (bytes : List ℕ) (size : ℕ) : Type 0 where
  pub exact : size < cap → size ≡ length bytes
  pub over : cap ≤ size → cap ≤ length bytes

-- of the border of a row that is kept
abbrev pub Measured : Reply (Unit {0}) → List ℕ → ℕ → Type 0
Measured (given good) bytes size = Sized bytes size
Measured (refused why) bytes size = Unit {0}

-- each border is shorter than the cap
unfoldable pub all_short : List ℕ → Head → List Row → Bool
all_short file head [] = true
all_short file head (r ∷ rows) = ltb (length (border_bytes file head r)) cap && all_short file head rows

-- the table is written where they are
abbrev pub Tabled : Bool → List ℕ → ℕ → List ℕ → List ℕ → ℕ → Type 0
Tabled true before place bytes after next = Capped before place bytes after next
Tabled false before place bytes after next = Unit {0}
