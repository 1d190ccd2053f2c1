-- A built file, and when building is refused: document 02, Q-4.
use Rattle.std.specs.Prelude.{◌^◌, ◌&&◌, ◌∷◌, ◌++◌}
use Rattle.numbers.specs.Prelude.{ℕ, min, ltb, leb, length, Bool, List, [], flat_map, zip_with}
use Rattle.numbers.specs.{Lists.{zeros, padded}, Reply.{Reply, given, refused, plain, demand, ◌>>=◌, ◌>>◌}, Spelling.{varint_of}}
use Rattle.writer.specs.Writer.{every, checks}
use Rattle.header.specs.{Header.{is_kind}, Utf8.{is_utf8}}
use Rattle.builder.specs.{Borders.{Drawn, drawn_of}, Entries.{Entry, box_of, table_of}, Metadata.{inlined, records_of, start_of, metadata_of}, Yards.{Text, Yard, Plan, cut_by, sum_of}}

-- `PLB`, type, version, precision, number of names, the names and the notice
unfoldable pub head_from : ℕ → ℕ → ℕ → ℕ → List Text → List ℕ
head_from kind version precision names texts = 0x50 ∷ 0x4C ∷ 0x42 ∷ kind ∷ version ∷ precision ∷ names ∷ flat_map inlined texts

unfoldable pub head_of : Plan → List ℕ
head_of plan = head_from plan.kind plan.version plan.precision (length plan.names) (plan.names ++ (plan.notice ∷ []))

-- header, the sizes of the three sections, the sections
unfoldable pub assembled : List ℕ → List ℕ → List ℕ → List ℕ → List ℕ
assembled head table metadata bytes =
    head ++ (varint_of (length table) ++ (varint_of (length metadata) ++ (varint_of (length bytes) ++ (table ++ (metadata ++ bytes)))))

-- a yard's entry, given where its border begins
abbrev pub entry_of : List Yard → Yard → ℕ → Entry
entry_of yards yard place = record { bounds = box_of yard.lats yard.lons; record' = start_of (records_of yards) yard.values; border = place }

unfoldable pub file_of : Plan → Drawn → List ℕ
file_of plan drawn =
    let yards = plan.yards in
    assembled (head_of plan) (table_of (zip_with (entry_of yards) yards drawn.places)) (metadata_of (records_of yards)) drawn.bytes

-- ---- refusals
-- 19 to 22 for each yard in turn
unfoldable pub borders_good : List Yard → Reply (Unit {0})
borders_good [] = given tt
borders_good (yard ∷ yards) = checks 0 yard.lats yard.lons [] >> borders_good yards

-- 25: "no yards, over 4,096 yards, over 255 names, or a yard with more or fewer values than names"
unfoldable pub counted : Plan → Bool
counted plan = ltb 0 (length plan.yards) && (leb (length plan.yards) 4096 && (leb (length plan.names) 255 && plan.numbered))

-- 26: "a text over 255 bytes or not UTF-8"
unfoldable pub is_text : Text → Bool
is_text text = leb (length text) 255 && is_utf8 text

-- the texts of these lengths are there, one after another, and each is a text
unfoldable pub are_texts : List ℕ → List ℕ → Bool
are_texts lengths texts = leb (sum_of lengths) (length texts) && every is_text (cut_by lengths texts)

unfoldable pub readable : Plan → Bool
readable plan = plan.whole && (every is_text plan.names && (is_text plan.notice && every (λ y. every is_text y.values) plan.yards))

-- 27: "precision outside 1 to 31, a version above 1 or a type other than T or C"
unfoldable pub known : Plan → Bool
known plan = (leb 1 plan.precision && leb plan.precision 31) && (ltb plan.version 2 && is_kind plan.kind)

-- how much room was lent: bytes for the file and for its data, and whether the working lists are long enough
pub record Room : Type 0 where
  pub file : ℕ
  pub bytes : ℕ
  pub work : Bool

-- no more than 1 GiB
abbrev pub up_to : ℕ → ℕ
up_to room = min room (2 ^ 30)

unfoldable pub built_of : Plan → Room → Reply (List ℕ)
built_of plan room = do
  borders_good plan.yards
  demand (counted plan) (plain 25)
  demand (readable plan) (plain 26)
  demand (known plan) (plain 27)
  drawn ← drawn_of plan.version (up_to (min room.file room.bytes)) plan.yards
  demand (room.work && leb (length (file_of plan drawn)) (up_to room.file)) (plain 28)
  given (file_of plan drawn)

-- ---- the reply, and the whole lent output: the file and zeros behind it, zeros alone on a refusal
pub record Replied : Type 0 where
  pub reply : Reply ℕ
  pub out : List ℕ

unfoldable pub fitted : ℕ → Reply (List ℕ) → Replied
fitted room (given file) = record { reply = given (length file); out = padded room file }
fitted room (refused why) = record { reply = refused why; out = zeros room }
