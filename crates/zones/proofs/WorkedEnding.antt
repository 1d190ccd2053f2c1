-- Cases that meet the theorems on endings, asked at (5, 5) on their grid, by computation: document 01's printed file, a table out of order, one in order, and one entry twice. Assumes nothing.
use Rattle.numbers.{proofs.Prelude.{ℕ, fin, of_int, to_signed, add, sub, mul, div, pos, negsuc, false, List, [], ◌∷◌, ◌≡◌, refl, ap, subst, arith}, specs.Answer.{checked}}
use Rattle.numbers.specs.{Float.{fixed_point, one_shifted}, Point.{signed_of, even_bits, point_of}, Reply.{Reply, given, refused}, Varint.{reading_of, forward_at, value_of, size_of, too_long}}
use Rattle.border.specs.{Place.{moved_by}, Reader.{advanced, marker, packed_turn, turn_of}, Trace.{round_again, next_within, next_point, trace_then, trace_within, trace_of}}
use Rattle.verdict.specs.{Distance.{measured}, Edge.{same_point, between, in_box, quadrant_of, slope_of, edge_of, straight, closest_on}, Verdict.{along, passing, closed_at, then_on, judge, judged_at}}
use Rattle.verdict.specs.Winding.{turned, quarter_by, half_turn, turn_at, crossing_of, across_by, clear_of, wound_by}
use Rattle.header.specs.{Field.{field_at}, Header.{preamble_of, texts_from, sections_from, sections_at, contents_by, head_by, head_of}, Text.{within, remote_at, string_at, bytes_of, text_at}}
use Rattle.header.specs.{Utf8.{characters, started_by, begun_by, followed, goes_on, is_utf8}, declared.header.Head.{Head}}
use Rattle.zones.specs.{Fields.{fields_from, fields_of}, Lent.{Replied, replied, replied_of}, Lookup.{safezone_bits, zones_with, zones_in, looked_up}, Places.{EntryOf, Listed}}
use Rattle.zones.specs.{Unstopped.{looked_through_all, StoppedShort}, declared.lookup.Zones.{Zones}}
use Rattle.table.specs.{Ending.{Answered}, Find.{fix_of, matched_with}, Hits.{words, hit_of, hit_at}, Merge.{summary, seen, merged_after, merged}, Rest.{rest_mark}, Rows.{row, table_end, rows_then, row_by}}
use Rattle.table.specs.{Rows.{rows_within, rows_from, rows_in}, Search.{judged_turn, row_turn, seek, searched}, Table.{steps_by, entry_by}, declared.{location.Location.{Location}, rows.Row.{Row}}}
use Rattle.zones.proofs.{HowItEnds.{lookup_ends}, PlaceIsTheEntry.{Begins, begins, place_is_the_entry}, WholeMeansWhole.{whole_means_whole, mark_four}}
use Rattle.verdict.specs.Step as S
use Rattle.zones.specs.Places as P

abbrev pub printed : List ℕ
printed =
    0x50 ∷ 0x4C ∷ 0x42 ∷ 0x43 ∷ 0x01 ∷ 0x10 ∷ 0x01 ∷ 0x04 ∷ 0xCE ∷ 0xE1 ∷ 0xED ∷ 0xE5 ∷ 0x00 ∷ 0x06 ∷ 0x02 ∷ 0x09 ∷ 0x04 ∷ 0x04 ∷ 0x14
    ∷ 0x14 ∷ 0x00 ∷ 0x00 ∷ 0x01 ∷ 0xC1 ∷ 0x30 ∷ 0x80 ∷ 0x02 ∷ 0x80 ∷ 0x04 ∷ 0x81 ∷ 0x02 ∷ 0x00 ∷ 0x00 ∷ []

abbrev pub in_the_zone : Location
in_the_zone = record { lat = fin false 225 (negsuc 13); lon = fin false 225 (negsuc 12) }

pub answered : looked_up printed in_the_zone false 4 4 ≡ replied (given (record { matches = 1; mark = 1; safezone = 0; used = 4 })) (0 ∷ 0 ∷ 1 ∷ 16 ∷ []) (0 ∷ 0 ∷ 1 ∷ 0x41 ∷ [])
unfolding reading_of forward_at value_of size_of too_long signed_of even_bits point_of fixed_point one_shifted checked moved_by advanced marker packed_turn turn_of
    round_again next_within next_point trace_then trace_within trace_of along passing closed_at then_on judge judged_at field_at fields_from fields_of fix_of matched_with
    preamble_of texts_from sections_from sections_at contents_by head_by words replied_of safezone_bits zones_with zones_in looked_up summary seen merged_after merged
    rows_then row_by rows_within rows_from rows_in judged_turn row_turn seek searched steps_by entry_by within remote_at string_at bytes_of text_at characters started_by
    begun_by followed goes_on is_utf8 same_point between in_box quadrant_of slope_of edge_of straight closest_on turned quarter_by half_turn turn_at crossing_of across_by
    clear_of wound_by measured S.checked of_int add sub mul div to_signed
answered = refl

-- so the search behind it went through the file's one row, and ended at the table's end
pub answered_ends : Answered printed in_the_zone false 4 1 1 (looked_up printed in_the_zone false 4 4).hits
answered_ends = lookup_ends printed in_the_zone false 4 4 _ (ap (λ (x : Replied Zones). x.reply) answered)

-- and nothing was missed
pub answered_whole : looked_up printed in_the_zone false 4 4 ≡ looked_through_all printed in_the_zone false 4 4
answered_whole = whole_means_whole printed in_the_zone false 4 4 _ (ap (λ (x : Replied Zones). x.reply) answered) refl

-- and its place, 16, leads to the file's one entry
pub answered_entry : EntryOf printed in_the_zone (hit_of 0 0 1 16)
answered_entry =
    subst (λ (x : Replied Zones). EntryOf printed in_the_zone (hit_at x.hits 0)) answered
    (place_is_the_entry printed in_the_zone false 4 4 _ (ap (λ (x : Replied Zones). x.reply) answered) 0 (omega arith))

-- ---- three entries: one that holds the location, one above it, and one behind that which holds it too
abbrev out_of_order : List ℕ
out_of_order =
    0x50 ∷ 0x4C ∷ 0x42 ∷ 0x43 ∷ 0x01 ∷ 0x10 ∷ 0x01 ∷ 0x04 ∷ 0xCE ∷ 0xE1 ∷ 0xED ∷ 0xE5 ∷ 0x00 ∷ 0x12 ∷ 0x02 ∷ 0x12 ∷ 0x04 ∷ 0x04 ∷ 0x14
    ∷ 0x14 ∷ 0x00 ∷ 0x00 ∷ 0x28 ∷ 0x28 ∷ 0x28 ∷ 0x28 ∷ 0x00 ∷ 0x00 ∷ 0x04 ∷ 0x04 ∷ 0x14 ∷ 0x14 ∷ 0x00 ∷ 0x09 ∷ 0x01 ∷ 0xC1 ∷ 0x30 ∷ 0x80 ∷ 0x02
    ∷ 0x80 ∷ 0x04 ∷ 0x81 ∷ 0x02 ∷ 0x00 ∷ 0x00 ∷ 0x30 ∷ 0x80 ∷ 0x04 ∷ 0x80 ∷ 0x02 ∷ 0x82 ∷ 0x04 ∷ 0x00 ∷ 0x00 ∷ []

pub stopped_early : looked_up out_of_order in_the_zone false 4 4 ≡ replied (given (record { matches = 1; mark = 4; safezone = 0; used = 4 })) (0 ∷ 0 ∷ 1 ∷ 16 ∷ []) (0 ∷ 0 ∷ 1 ∷ 0x41 ∷ [])
unfolding reading_of rest_mark forward_at value_of size_of too_long signed_of even_bits point_of fixed_point one_shifted checked moved_by advanced marker packed_turn turn_of
    round_again next_within next_point trace_then trace_within trace_of along passing closed_at then_on judge judged_at field_at fields_from fields_of fix_of matched_with
    preamble_of texts_from sections_from sections_at contents_by head_by words replied_of safezone_bits zones_with zones_in looked_up summary seen merged_after merged
    rows_then row_by rows_within rows_from rows_in judged_turn row_turn seek searched steps_by entry_by within remote_at string_at bytes_of text_at characters started_by
    begun_by followed goes_on is_utf8 same_point between in_box quadrant_of slope_of edge_of straight closest_on turned quarter_by half_turn turn_at crossing_of across_by
    clear_of wound_by measured S.checked of_int add sub mul div to_signed
stopped_early = refl

-- so the search stopped short
pub stopped_early_misses : StoppedShort out_of_order in_the_zone false
stopped_early_misses = mark_four out_of_order in_the_zone false 4 4 _ (ap (λ (x : Replied Zones). x.reply) stopped_early) refl

-- ---- two entries in order: one that holds the location, and one above it, at which the search stops
abbrev in_order : List ℕ
in_order =
    0x50 ∷ 0x4C ∷ 0x42 ∷ 0x43 ∷ 0x01 ∷ 0x10 ∷ 0x01 ∷ 0x04 ∷ 0xCE ∷ 0xE1 ∷ 0xED ∷ 0xE5 ∷ 0x00 ∷ 0x0C ∷ 0x02 ∷ 0x09 ∷ 0x04 ∷ 0x04 ∷ 0x14
    ∷ 0x14 ∷ 0x00 ∷ 0x00 ∷ 0x28 ∷ 0x28 ∷ 0x28 ∷ 0x28 ∷ 0x00 ∷ 0x00 ∷ 0x01 ∷ 0xC1 ∷ 0x30 ∷ 0x80 ∷ 0x02 ∷ 0x80 ∷ 0x04 ∷ 0x81 ∷ 0x02 ∷ 0x00 ∷ 0x00 ∷ []

-- with mark 1, since the rest is clean
pub stopped_clean : looked_up in_order in_the_zone false 4 4 ≡ replied (given (record { matches = 1; mark = 1; safezone = 0; used = 4 })) (0 ∷ 0 ∷ 1 ∷ 16 ∷ []) (0 ∷ 0 ∷ 1 ∷ 0x41 ∷ [])
unfolding reading_of rest_mark forward_at value_of size_of too_long signed_of even_bits point_of fixed_point one_shifted checked moved_by advanced marker packed_turn turn_of
    round_again next_within next_point trace_then trace_within trace_of along passing closed_at then_on judge judged_at field_at fields_from fields_of fix_of matched_with
    preamble_of texts_from sections_from sections_at contents_by head_by words replied_of safezone_bits zones_with zones_in looked_up summary seen merged_after merged
    rows_then row_by rows_within rows_from rows_in judged_turn row_turn seek searched steps_by entry_by within remote_at string_at bytes_of text_at characters started_by
    begun_by followed goes_on is_utf8 same_point between in_box quadrant_of slope_of edge_of straight closest_on turned quarter_by half_turn turn_at crossing_of across_by
    clear_of wound_by measured S.checked of_int add sub mul div to_signed
stopped_clean = refl

-- and nothing was missed
pub stopped_clean_whole : looked_up in_order in_the_zone false 4 4 ≡ looked_through_all in_order in_the_zone false 4 4
stopped_clean_whole = whole_means_whole in_order in_the_zone false 4 4 _ (ap (λ (x : Replied Zones). x.reply) stopped_clean) refl

-- ---- two entries with one box and one border: the match is the first's
abbrev alike_twice : List ℕ
alike_twice =
    0x50 ∷ 0x4C ∷ 0x42 ∷ 0x43 ∷ 0x01 ∷ 0x10 ∷ 0x01 ∷ 0x04 ∷ 0xCE ∷ 0xE1 ∷ 0xED ∷ 0xE5 ∷ 0x00 ∷ 0x0C ∷ 0x02 ∷ 0x09 ∷ 0x04 ∷ 0x04 ∷ 0x14
    ∷ 0x14 ∷ 0x00 ∷ 0x00 ∷ 0x04 ∷ 0x04 ∷ 0x14 ∷ 0x14 ∷ 0x00 ∷ 0x00 ∷ 0x01 ∷ 0xC1 ∷ 0x30 ∷ 0x80 ∷ 0x02 ∷ 0x80 ∷ 0x04 ∷ 0x81 ∷ 0x02 ∷ 0x00 ∷ 0x00 ∷ []

pub first_of_two : looked_up alike_twice in_the_zone false 8 4 ≡ replied (given (record { matches = 1; mark = 1; safezone = 0; used = 4 })) (0 ∷ 0 ∷ 1 ∷ 16 ∷ 0 ∷ 0 ∷ 0 ∷ 0 ∷ []) (0 ∷ 0 ∷ 1 ∷ 0x41 ∷ [])
unfolding reading_of rest_mark forward_at value_of size_of too_long signed_of even_bits point_of fixed_point one_shifted checked moved_by advanced marker packed_turn turn_of
    round_again next_within next_point trace_then trace_within trace_of along passing closed_at then_on judge judged_at field_at fields_from fields_of fix_of matched_with
    preamble_of texts_from sections_from sections_at contents_by head_by words replied_of safezone_bits zones_with zones_in looked_up summary seen merged_after merged
    rows_then row_by rows_within rows_from rows_in judged_turn row_turn seek searched steps_by entry_by within remote_at string_at bytes_of text_at characters started_by
    begun_by followed goes_on is_utf8 same_point between in_box quadrant_of slope_of edge_of straight closest_on turned quarter_by half_turn turn_at crossing_of across_by
    clear_of wound_by measured S.checked of_int add sub mul div to_signed
first_of_two = refl

pub first_of_two_entry : EntryOf alike_twice in_the_zone (hit_of 0 0 1 16)
first_of_two_entry =
    subst (λ (x : Replied Zones). EntryOf alike_twice in_the_zone (hit_at x.hits 0)) first_of_two
    (place_is_the_entry alike_twice in_the_zone false 8 4 _ (ap (λ (x : Replied Zones). x.reply) first_of_two) 0 (omega arith))

-- the second's place, 22, is not permitted, though an entry with the same box is read there
numbered_first : (a b : Row) → b.id ≡ 1 → (r : Row) → Listed r (row a (row b table_end)) → r.id ≡ 0 → r.place ≡ a.place
unfolding Begins
numbered_first a b one _ P.here zero = refl
numbered_first a b one _ (P.later P.here) zero = absurd (omega (arith, one, zero))
numbered_first a b one r (P.later (P.later l)) zero = absurd (begins l)

abbrev alike_row : ℕ → ℕ → ℕ → Row
alike_row place id next =
    record {
      place = place;
      id = id;
      metadata = 0;
      polygon = 0;
      bounds = record { min_lat = record { 0 = pos 2 }; min_lon = record { 0 = pos 2 }; max_lat = record { 0 = pos 10 }; max_lon = record { 0 = pos 10 } };
      next = next;
    }

unfoldable FirstAtSixteen : Reply Head → Type 0
FirstAtSixteen (given head) = (r : Row) → Listed r (rows_in alike_twice head) → r.id ≡ 0 → r.place ≡ 16
FirstAtSixteen (refused why) = ⊥

first_at_sixteen : FirstAtSixteen (head_of alike_twice)
unfolding FirstAtSixteen reading_of forward_at value_of size_of too_long signed_of preamble_of field_at texts_from sections_from sections_at contents_by head_by within
    remote_at string_at bytes_of text_at characters started_by begun_by followed goes_on is_utf8 rows_then row_by rows_within rows_from rows_in steps_by entry_by
first_at_sixteen = numbered_first (alike_row 16 0 22) (alike_row 22 1 28) refl

pub second_not_permitted : EntryOf alike_twice in_the_zone (hit_of 0 0 1 22) → ⊥
unfolding FirstAtSixteen
second_not_permitted e = let at : e.table_row.place ≡ 16 = subst FirstAtSixteen e.opened first_at_sixteen e.table_row e.listed e.numbered in
    omega (arith, e.placed, at)
