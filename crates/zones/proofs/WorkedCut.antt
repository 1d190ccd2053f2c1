-- Files that end inside a number, and one that does not, so that the theorems on strict reading speak of something. Assumes nothing.
use Rattle.numbers.proofs.Prelude.{ℕ, lit<, fin, of_int, to_signed, add, sub, mul, div, negsuc, Bool, true, false, List, [], ◌∷◌, ◌≡◌, refl}
use Rattle.numbers.specs.{Answer.{checked}, Float.{fixed_point, one_shifted}, Point.{signed_of, even_bits, point_of}, Reply.{refused, plain}, Varint.{reading_of, forward_at, value_of, size_of, too_long}}
use Rattle.border.specs.{Place.{moved_by}, Reader.{advanced, marker, packed_turn, turn_of}, Trace.{round_again, next_within, next_point, trace_then, trace_within, trace_of}}
use Rattle.verdict.specs.{Distance.{measured}, Edge.{same_point, between, in_box, quadrant_of, slope_of, edge_of, straight, closest_on}, Verdict.{along, passing, closed_at, then_on, judge, judged_at}}
use Rattle.verdict.specs.Winding.{turned, quarter_by, half_turn, turn_at, crossing_of, across_by, clear_of, wound_by}
use Rattle.header.specs.{Field.{field_at}, Header.{preamble_of, texts_from, sections_from, sections_at, contents_by, head_by}, Opening.{opened_strictly}, Text.{within, remote_at, string_at, bytes_of, text_at}}
use Rattle.header.specs.Utf8.{characters, started_by, begun_by, followed, goes_on, is_utf8}
use Rattle.table.specs.{Find.{fix_of, matched_with}, Hits.{words}, Merge.{summary, seen, merged_after, merged}, Rows.{rows_then, row_by, rows_within, rows_from, rows_in}}
use Rattle.table.specs.{Search.{judged_turn, row_turn, seek, searched}, Table.{steps_by, entry_by}, declared.location.Location.{Location}}
use Rattle.zones.proofs.StrictExactly.{strict_open_exactly, strict_lookup_exactly, whole_lookup}
use Rattle.zones.specs.Cut.{cut_at, cut_in, string_cut, texts_cut, sections_cut, opening_cut, marker_cut, packed_cut, turn_cut, next_cut, judge_cut, seek_cut, zones_cut, lookup_cut}
use Rattle.zones.specs.{Fields.{fields_from, fields_of}, Lookup.{zones_with, looked_up, looked_strictly}}
use Rattle.verdict.specs.Step as S

-- its one name is remote, and the second length, the file's last byte, is cut: read plainly it is 0, and the name empty
abbrev cut : List ℕ
cut = 0x50 ∷ 0x4C ∷ 0x42 ∷ 0x43 ∷ 0x01 ∷ 0x10 ∷ 0x01 ∷ 0x8D ∷ 0x02 ∷ 0x00 ∷ 0x00 ∷ 0x00 ∷ 0x01 ∷ 0x80 ∷ []

pub cut_met : opening_cut cut ≡ true
unfolding opening_cut texts_cut string_cut cut_at reading_of forward_at value_of size_of too_long preamble_of
cut_met = refl

pub cut_refused : (room : ℕ) → (opened_strictly cut room).reply ≡ refused (plain 31)
cut_refused room = (strict_open_exactly cut room).1 cut_met

pub cut_lookup : (location : Location) (asked : Bool) (n room : ℕ) → (looked_strictly cut location asked n room).reply ≡ refused (plain 31)
unfolding lookup_cut
cut_lookup location asked n room = (strict_lookup_exactly cut location asked n room).1 (rw cut_met refl)

-- ---- document 01's printed file, asked at (5, 5) on its grid
abbrev in_the_zone : Location
in_the_zone = record { lat = fin false 225 (negsuc 13); lon = fin false 225 (negsuc 12) }

-- with its last byte, the second of the two zeros that close the border, as 80: plainly it still closes, and the cut number is met there
abbrev cut_border : List ℕ
cut_border =
    0x50 ∷ 0x4C ∷ 0x42 ∷ 0x43 ∷ 0x01 ∷ 0x10 ∷ 0x01 ∷ 0x04 ∷ 0xCE ∷ 0xE1 ∷ 0xED ∷ 0xE5 ∷ 0x00 ∷ 0x06 ∷ 0x02 ∷ 0x09 ∷ 0x04 ∷ 0x04 ∷ 0x14
    ∷ 0x14 ∷ 0x00 ∷ 0x00 ∷ 0x01 ∷ 0xC1 ∷ 0x30 ∷ 0x80 ∷ 0x02 ∷ 0x80 ∷ 0x04 ∷ 0x81 ∷ 0x02 ∷ 0x00 ∷ 0x80 ∷ []

pub border_met : lookup_cut cut_border in_the_zone false 4 4 ≡ true
unfolding reading_of forward_at value_of size_of too_long signed_of even_bits point_of fixed_point one_shifted checked moved_by advanced marker packed_turn turn_of
    round_again next_within next_point trace_then trace_within trace_of along passing closed_at then_on judge judged_at field_at fields_from fields_of fix_of matched_with
    preamble_of texts_from sections_from sections_at contents_by head_by words zones_with summary seen merged_after merged rows_then row_by rows_within rows_from rows_in
    judged_turn row_turn seek searched steps_by entry_by within remote_at string_at bytes_of text_at characters started_by begun_by followed goes_on is_utf8 same_point
    between in_box quadrant_of slope_of edge_of straight closest_on turned quarter_by half_turn turn_at crossing_of across_by clear_of wound_by measured S.checked of_int add
    sub mul div to_signed cut_at cut_in string_cut texts_cut sections_cut opening_cut marker_cut packed_cut turn_cut next_cut judge_cut seek_cut zones_cut lookup_cut
border_met = refl

pub border_refused : (looked_strictly cut_border in_the_zone false 4 4).reply ≡ refused (plain 31)
border_refused = (strict_lookup_exactly cut_border in_the_zone false 4 4).1 border_met

-- as it is printed its last byte is 0: strict is plain, everywhere
abbrev printed : List ℕ
printed =
    0x50 ∷ 0x4C ∷ 0x42 ∷ 0x43 ∷ 0x01 ∷ 0x10 ∷ 0x01 ∷ 0x04 ∷ 0xCE ∷ 0xE1 ∷ 0xED ∷ 0xE5 ∷ 0x00 ∷ 0x06 ∷ 0x02 ∷ 0x09 ∷ 0x04 ∷ 0x04 ∷ 0x14
    ∷ 0x14 ∷ 0x00 ∷ 0x00 ∷ 0x01 ∷ 0xC1 ∷ 0x30 ∷ 0x80 ∷ 0x02 ∷ 0x80 ∷ 0x04 ∷ 0x81 ∷ 0x02 ∷ 0x00 ∷ 0x00 ∷ []

pub printed_whole : (location : Location) (asked : Bool) (n room : ℕ) → looked_strictly printed location asked n room ≡ looked_up printed location asked n room
printed_whole location asked n room = whole_lookup printed location asked n room (lit< tt)
