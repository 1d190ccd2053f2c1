-- Two files whose atlas is built, of which `is_atlas` says 0, and through which a lookup is the plain one. Document 01's printed file: its border is too short for marks, so that its
-- atlas has the words of the index, the length, and a 0 for the one entry; no words are no atlas. And the same file with a border of 260 edges, which has the marks of three stretches
-- and of their one group. Assumes nothing.
use Rattle.numbers.proofs.Prelude.{ℕ, ◌+◌, pos, length, replicate, length-append, Bool, true, false, List, [], ◌∷◌, ◌++◌, ◌≡◌, refl, sym, ap, ◌∙◌}
use Rattle.numbers.specs.{Answer.{checked}, Point.{signed_of, even_bits, point_of}, Reply.{given, refused, plain, demand}, Varint.{reading_of, forward_at, value_of, size_of, too_long}}
use Rattle.border.specs.{Box.{min_z, max_z}, Place.{moved_by}, Reader.{advanced, marker, packed_turn, turn_of}, Trace.{round_again, next_within, next_point}}
use Rattle.index.proofs.{Whole.{index_length}, WorkedIndex.{printed, head, only, printed_opens, printed_table, printed_lists}}
use Rattle.index.specs.Index.{list_from, lists_from, joined, index_of, has_room, Indexed}
use Rattle.index.specs.{Table.{table_from, table_of}, Tiles.{span_of, meets}}
use Rattle.header.specs.{Header.{preamble_of, texts_from, sections_from, sections_at, contents_by, head_by, head_of}, Text.{within, remote_at, string_at, bytes_of, text_at}}
use Rattle.header.specs.{Utf8.{characters, started_by, begun_by, followed, goes_on, is_utf8}, declared.header.Head.{Head}}
use Rattle.marks.specs.Marks.{next_or, span_over, kind_of, next_of, end_of, marks_from, is_markable, edges_then, edges_from, most_points, few_edges, stretch_edges, stretches_of, group_edges}
use Rattle.marks.specs.Marks.{groups_of}
use Rattle.marks.specs.Marks.{stretches_from, counted, marks_at}
use Rattle.table.specs.{Find.{is_precision}, Rows.{rows_then, row_by, rows_within, rows_from, rows_in}, Table.{steps_by, entry_by}, declared.{location.Location.{Location}, rows.Row.{Row}}}
use Rattle.verdict.specs.Edge.{same_point}
use Rattle.zones.specs.{Lookup.{looked_up}, Simple.{simply_looked}}
use Rattle.atlas.proofs.{AtlasIsPlain.{atlas_is_plain}, Behind.{made, not_made, with_room, without_room}, BesideIsPlain.{simple_atlas_is_plain}, Theorems.{built_is_atlas}}
use Rattle.atlas.specs.{Atlas.{marks_for, marks_in, entry_of, entries_from, beside_of, whole_of, atlas_of, atlas_made, is_made, is_atlas_of}, Beside.{simply_beside}, Looked.{looked_atlas}}

-- where a file opens and has a table, the atlas that just fits its words is one
pub fits_exactly : (file : List ℕ) (n : ℕ) {head : Head} {rows : List Row} → given head ≡ head_of file → is_precision head.preamble.precision ≡ true → given rows ≡ table_of file head
    → length (atlas_of file head rows) ≡ n → has_room n n ≡ true → is_atlas_of file (atlas_made file n).words ≡ given tt
fits_exactly file n opens precise table long room =
    built_is_atlas file n (ap (λ (i : Indexed). i.reply) (sym (made file n (with_room file n opens precise table (ap (has_room n) long ∙ room)) (sym long) refl)))

pub printed_marks : marks_for printed head 0 ≡ []
unfolding reading_of next_point next_within round_again turn_of packed_turn marker advanced moved_by checked forward_at value_of size_of too_long signed_of even_bits point_of
    marks_at next_or edges_from edges_then is_markable most_points few_edges stretches_from counted same_point
printed_marks = refl

-- 2,066 words of the index, and two more
long : length (atlas_of printed head (only ∷ [])) ≡ 2068
unfolding atlas_of marks_in entries_from entry_of joined
long = let index = index_of printed head (only ∷ []) in
    let size : length index ≡ 2066 = index_length printed head 0 refl printed_table ∙ ap (λ (l : List ℕ). 2065 + length l) printed_lists in
    ap (λ (marks : List ℕ). length (whole_of index (beside_of (marks ∷ [])))) printed_marks ∙ length-append index _ ∙ ap (λ (k : ℕ). k + 2) size

pub printed_is_atlas : is_atlas_of printed (atlas_made printed 2068).words ≡ given tt
printed_is_atlas = fits_exactly printed 2068 printed_opens refl printed_table long refl

pub printed_through : (location : Location) (asked : Bool) (n room : ℕ) → looked_atlas printed (atlas_made printed 2068).words location asked n room ≡ looked_up printed location asked n room
printed_through = atlas_is_plain printed (atlas_made printed 2068).words printed_is_atlas

pub printed_no_words : is_atlas_of printed [] ≡ refused (plain 36)
unfolding is_atlas_of is_made
printed_no_words =
    ap (λ (i : Indexed). demand (is_made [] i.reply i.words) (plain 36)) (sym (not_made printed 0 (without_room printed 0 printed_opens refl printed_table (ap (has_room 0) long)) refl))

-- ---- a border with marks: north, east, south and west around a square from (2,2) to (67,67), one step a move
abbrev pub square : List ℕ
square = 0x30 ∷ (replicate 65 4 ++ (replicate 65 8 ++ (replicate 65 5 ++ (replicate 64 10 ++ (0 ∷ 0 ∷ [])))))

abbrev pub walked : List ℕ
walked =
    0x50 ∷ 0x4C ∷ 0x42 ∷ 0x43 ∷ 0x01 ∷ 0x10 ∷ 0x01 ∷ 0x04 ∷ 0xCE ∷ 0xE1 ∷ 0xED ∷ 0xE5 ∷ 0x00 ∷ 0x08 ∷ 0x02 ∷ 0x86 ∷ 0x02 ∷ 0x04 ∷ 0x04 ∷ 0x86 ∷ 0x01 ∷ 0x86 ∷ 0x01 ∷ 0x00 ∷ 0x00 ∷ 0x01 ∷ 0xC1 ∷ square

abbrev pub front : Head
front = record { preamble = record { kind = 0x43; version = 1; precision = 16; count = 1 }; sections = record { table = 17; metadata = 25; «data» = 27 }; strict = false }

abbrev pub yard : Row
yard = record {
  place = 17;
  id = 0;
  metadata = 0;
  polygon = 0;
  bounds = record { min_lat = record { 0 = pos 2 }; min_lon = record { 0 = pos 2 }; max_lat = record { 0 = pos 67 }; max_lon = record { 0 = pos 67 } };
  next = 25;
}

-- three stretches: up the west side and along most of the north; the rest of it, the east side and most of the south; the last four edges. Behind them their group: the whole border.
-- Each has its box, its first point, and the place where its reading goes on; no run, and no moves left
pub walked_marks : marks_for walked front 0 ≡ 3 ∷ 2 ∷ 2 ∷ 67 ∷ 65 ∷ 2 ∷ 2 ∷ 28 ∷ 0 ∷ 0 ∷ 0 ∷ 0 ∷ 2 ∷ 6 ∷ 67 ∷ 67 ∷ 67 ∷ 65 ∷ 156 ∷ 0 ∷ 0 ∷ 0 ∷ 0 ∷ 2 ∷ 2 ∷ 2 ∷ 6
    ∷ 2 ∷ 6 ∷ 284 ∷ 0 ∷ 0 ∷ 0 ∷ 0 ∷ 2 ∷ 2 ∷ 67 ∷ 67 ∷ 2 ∷ 2 ∷ 28 ∷ 0 ∷ 0 ∷ 0 ∷ 0 ∷ []
unfolding reading_of next_point next_within round_again turn_of packed_turn marker advanced moved_by checked forward_at value_of size_of too_long signed_of even_bits point_of
    min_z max_z next_or span_over kind_of next_of end_of marks_from is_markable edges_then edges_from most_points few_edges stretch_edges stretches_of group_edges groups_of
    stretches_from counted marks_at same_point
walked_marks = refl

walked_opens : given front ≡ head_of walked
unfolding reading_of forward_at value_of size_of too_long signed_of preamble_of texts_from sections_from sections_at contents_by head_by within remote_at string_at bytes_of
    text_at characters started_by begun_by followed goes_on is_utf8
walked_opens = refl

walked_table : given (yard ∷ []) ≡ table_of walked front
unfolding reading_of forward_at value_of size_of too_long signed_of steps_by entry_by rows_then row_by rows_within rows_from rows_in table_from table_of
walked_table = refl

walked_lists : joined (lists_from 16 (yard ∷ []) 2048 0) ≡ 0 ∷ []
unfolding lists_from list_from joined meets span_of
walked_lists = refl

-- 2,067 words of the index, the length, the entry, and 45 of the marks
walked_long : length (atlas_of walked front (yard ∷ [])) ≡ 2114
unfolding atlas_of marks_in entries_from entry_of joined
walked_long = let index = index_of walked front (yard ∷ []) in
    let size : length index ≡ 2067 = index_length walked front 0 refl walked_table ∙ ap (λ (l : List ℕ). 2066 + length l) walked_lists in
    ap (λ (marks : List ℕ). length (whole_of index (beside_of (marks ∷ [])))) walked_marks ∙ length-append index _ ∙ ap (λ (k : ℕ). k + 47) size

pub walked_is_atlas : is_atlas_of walked (atlas_made walked 2114).words ≡ given tt
walked_is_atlas = fits_exactly walked 2114 walked_opens refl walked_table walked_long refl

pub walked_through : (location : Location) (asked : Bool) (n room : ℕ) → looked_atlas walked (atlas_made walked 2114).words location asked n room ≡ looked_up walked location asked n room
walked_through = atlas_is_plain walked (atlas_made walked 2114).words walked_is_atlas

pub walked_simply : (location : Location) (n room : ℕ) → simply_beside walked (atlas_made walked 2114).words location n room ≡ simply_looked walked location n room
walked_simply = simple_atlas_is_plain walked (atlas_made walked 2114).words walked_is_atlas
