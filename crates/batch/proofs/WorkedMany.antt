-- A call with two fixes in document 01's printed file, by computation: both are answered, one behind the other. Assumes nothing.
use Rattle.numbers.proofs.Prelude.{ℕ, ◌*◌, Float, fin, of_int, to_signed, add, sub, mul, div, negsuc, Bool, false, List, [], ◌∷◌, ◌≡◌, refl}
use Rattle.numbers.specs.{Answer.{checked}, Float.{fixed_point, one_shifted}, Point.{signed_of, even_bits, point_of}, Varint.{reading_of, forward_at, value_of, size_of, too_long}}
use Rattle.border.specs.{Place.{moved_by}, Reader.{advanced, marker, packed_turn, turn_of}, Trace.{round_again, next_within, next_point, trace_then, trace_within, trace_of}}
use Rattle.verdict.specs.{Distance.{measured}, Edge.{same_point, between, in_box, quadrant_of, slope_of, edge_of, straight, closest_on}, Verdict.{along, passing, closed_at, then_on, judge, judged_at}}
use Rattle.verdict.specs.Winding.{turned, quarter_by, half_turn, turn_at, crossing_of, across_by, clear_of, wound_by}
use Rattle.atlas.{proofs.WorkedAtlas.{walked, walked_is_atlas}, specs.{Atlas.{atlas_made}, Beside.{matched_beside, zones_beside}}}
use Rattle.header.specs.{Field.{field_at}, Header.{preamble_of, texts_from, sections_from, sections_at, contents_by, head_by}, Text.{within, remote_at, string_at, bytes_of, text_at}}
use Rattle.header.specs.Utf8.{characters, started_by, begun_by, followed, goes_on, is_utf8}
use Rattle.zones.specs.{Fields.{fields_from, fields_of}, Lookup.{safezone_bits}}
use Rattle.table.specs.{Find.{fix_of, matched_with}, Hits.{words, width}, Merge.{summary, seen, merged_after, merged}, Rows.{rows_then, row_by, rows_within, rows_from, rows_in}}
use Rattle.table.specs.{Search.{judged_turn, row_turn, seek, searched}, Table.{steps_by, entry_by}}
use Rattle.batch.proofs.ManyIsPlain.{many_atlas_is_plain}
use Rattle.batch.specs.Many.{given, fixes_of, Left, each_of, stamped_many, answer_words, left_of, many_beside, looked_up_many}
use Rattle.verdict.specs.Step as S

abbrev printed : List ℕ
printed =
    0x50 ∷ 0x4C ∷ 0x42 ∷ 0x43 ∷ 0x01 ∷ 0x10 ∷ 0x01 ∷ 0x04 ∷ 0xCE ∷ 0xE1 ∷ 0xED ∷ 0xE5 ∷ 0x00 ∷ 0x06 ∷ 0x02 ∷ 0x09 ∷ 0x04 ∷ 0x04 ∷ 0x14
    ∷ 0x14 ∷ 0x00 ∷ 0x00 ∷ 0x01 ∷ 0xC1 ∷ 0x30 ∷ 0x80 ∷ 0x02 ∷ 0x80 ∷ 0x04 ∷ 0x81 ∷ 0x02 ∷ 0x00 ∷ 0x00 ∷ []

abbrev lats : List Float
lats = fin false 225 (negsuc 13) ∷ fin false 225 (negsuc 13) ∷ []

abbrev lons : List Float
lons = fin false 225 (negsuc 12) ∷ fin false 225 (negsuc 12) ∷ []

-- the reply, the text and the third list, apart from how a hit is laid out
abbrev seen_of : Left → Left
seen_of l = record { reply = l.reply; hits = []; text = l.text; answers = l.answers }

pub two_answered : seen_of (looked_up_many printed lats lons false (2 * width) 9 7)
    ≡ record { reply = given (record { fixes = 2; matches = 2; used = 8 }); hits = []; text = 0 ∷ 0 ∷ 1 ∷ 0x41 ∷ 0 ∷ 0 ∷ 1 ∷ 0x41 ∷ 0 ∷ []; answers = 1 ∷ 1 ∷ 0 ∷ 1 ∷ 1 ∷ 0 ∷ 0 ∷ [] }
unfolding reading_of forward_at value_of size_of too_long signed_of even_bits point_of fixed_point one_shifted checked moved_by advanced marker packed_turn turn_of
    round_again next_within next_point trace_then trace_within trace_of along passing closed_at then_on judge judged_at field_at fields_from fields_of fix_of matched_with
    preamble_of texts_from sections_from sections_at contents_by head_by words safezone_bits zones_beside matched_beside many_beside fixes_of each_of stamped_many
    answer_words left_of looked_up_many summary seen merged_after merged rows_then row_by rows_within rows_from rows_in judged_turn row_turn seek searched steps_by entry_by
    within remote_at string_at bytes_of text_at characters started_by begun_by followed goes_on is_utf8 same_point between in_box quadrant_of slope_of edge_of straight
    closest_on turned quarter_by half_turn turn_at crossing_of across_by clear_of wound_by measured S.checked of_int add sub mul div to_signed
two_answered = refl

-- ---- through the atlas of a file whose border has marks
pub walked_many : (lats lons : List Float) (asked : Bool) (n room third : ℕ)
    → many_beside walked (atlas_made walked 2114).words lats lons asked n room third ≡ looked_up_many walked lats lons asked n room third
walked_many = many_atlas_is_plain walked (atlas_made walked 2114).words walked_is_atlas
