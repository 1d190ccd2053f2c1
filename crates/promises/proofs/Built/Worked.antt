-- Cases that meet the theorems: the two worked files of crate `builder`, and a layout with two lengths that fit. Assumes nothing.
use Rattle.numbers.proofs.Prelude.{ℕ, ◌≤◌, ◌<◌, lit<, lit≤, fin, of_int, to_signed, add, sub, mul, div, negsuc, length, replicate, Bool, true, false, List, [], ◌∷◌, flat_map, ◌≡◌, refl, sym}
use Rattle.numbers.proofs.Prelude.{ap, subst}
use Rattle.numbers.{proofs.Prelude.{arith}, specs.{Answer.{checked}, Float.{fixed_point, one_shifted}, Point.{signed_of, even_bits, point_of}, Reply.{given, refused, plain}}}
use Rattle.numbers.specs.{Spelling.{digits_of, varint_of}, Varint.{reading_of, whole_of, forward_at, value_of, size_of, too_long}}
use Rattle.verdict.specs.{Distance.{measured}, Edge.{same_point, between, in_box, quadrant_of, slope_of, edge_of, straight, closest_on}, Verdict.{along, passing, closed_at, then_on, judge, judged_at}}
use Rattle.verdict.specs.Winding.{turned, quarter_by, half_turn, turn_at, crossing_of, across_by, clear_of, wound_by}
use Rattle.border.specs.{Place.{moved_by}, Reader.{advanced, marker, packed_turn, turn_of}, Trace.{round_again, next_within, next_point, trace_then, trace_within, trace_of}}
use Rattle.builder.{proofs.{Shortest.{shortest_section}, WorkedFile.{room, two, two_yards, equal, equal_values}}, specs.{Borders.{Drawn}, File.{file_of}, Metadata.{inlined, records_of, fields_of}}}
use Rattle.builder.specs.{Metadata.{is_remote, remotes, offset_of, written, fits, layout_of}, Sharing.{same_by, is_in, times_in, firsts_after, size_before, good_ones}}
use Rattle.builder.specs.Yards.{Text, Plan, cut_by, plan_of}
use Rattle.promises.proofs.Built.{BuiltLookup.{lookup_finds, strict_lookup_finds, lookup_refused}, BuiltOpens.{built_opens, built_needs_room}, OnlyRoom.{NoRoom}}
use Rattle.promises.proofs.Built.ShortestFile.{shortest_layout}
use Rattle.promises.specs.Built.{Finds.{FindsInto}, Laid.{file_for}, Opens.{texts_out, opened_as}}
use Rattle.header.specs.{Field.{field_at}, Header.{preamble_of, texts_from, sections_from, sections_at, contents_by, head_by}, Opening.{opened_by}}
use Rattle.header.specs.Text.{within, remote_at, string_at, bytes_of, text_at}
use Rattle.header.specs.Utf8.{characters, started_by, begun_by, followed, goes_on, is_utf8}
use Rattle.table.specs.{Find.{fix_of, matched_with}, Hits.{words}, Merge.{summary, seen, merged_after, merged}, Rows.{rows_then, row_by, rows_within, rows_from, rows_in}}
use Rattle.table.specs.{Search.{judged_turn, row_turn, seek, searched}, Table.{steps_by, entry_by}, declared.location.Location.{Location}}
use Rattle.zones.specs.{Fields.{fields_from}, Lent.{Replied, replied, replied_of}, Lookup.{safezone_bits, zones_with, zones_in, looked_up, looked_strictly}, declared.lookup.Zones.{Zones}}
use Rattle.verdict.specs.Step as S
use Rattle.zones.specs.Fields as Z

-- ---- opening
abbrev two_file : List ℕ
two_file =
    0x50 ∷ 0x4C ∷ 0x42 ∷ 0x43 ∷ 0x00 ∷ 0x10 ∷ 0x00 ∷ 0x00 ∷ 0x10 ∷ 0x00 ∷ 0x11 ∷ 0x06 ∷ 0x06 ∷ 0x06 ∷ 0x06 ∷ 0x00 ∷ 0x0C ∷ 0x0C ∷ 0x02 ∷ 0x12 ∷ 0x08 ∷ 0x00 ∷ 0xF5 ∷ 0xFF ∷ 0xFF ∷ 0xFF ∷ 0x0F
    ∷ 0x00 ∷ 0x04 ∷ 0x0C ∷ 0x02 ∷ 0x06 ∷ 0x00 ∷ 0x00 ∷ 0x06 ∷ 0x07 ∷ 0x00 ∷ 0x02 ∷ 0x02 ∷ 0x01 ∷ 0x06 ∷ 0x06 ∷ 0x02 ∷ 0x02 ∷ []

-- two yards, no names and an empty notice
pub two_opens : (strict : Bool) → opened_by strict two_file 2 ≡ opened_as (plan_of two) 2
unfolding texts_out flat_map plan_of cut_by
two_opens strict = built_opens (plan_of two) room two_file two_yards strict 2 few where
  few : length (texts_out (plan_of two)) ≤ 2
  few = lit≤ tt

pub two_needs_room : (strict : Bool) → opened_by strict two_file 1 ≡ record { reply = refused (plain 18); text = 0 ∷ [] }
unfolding texts_out flat_map plan_of cut_by
two_needs_room strict = built_needs_room (plan_of two) room two_file two_yards strict 1 less where
  less : 1 < length (texts_out (plan_of two))
  less = lit< tt

-- ---- finding
abbrev equal_file : List ℕ
equal_file =
    0x50 ∷ 0x4C ∷ 0x42 ∷ 0x43 ∷ 0x01 ∷ 0x10 ∷ 0x02 ∷ 0x00 ∷ 0x00 ∷ 0x00 ∷ 0x06 ∷ 0x06 ∷ 0x07 ∷ 0x04 ∷ 0x04 ∷ 0x0A ∷ 0x0A ∷ 0x00 ∷ 0x01 ∷ 0x84 ∷ 0x02 ∷ 0x84
    ∷ 0x02 ∷ 0x01 ∷ 0xC1 ∷ 0x00 ∷ 0x30 ∷ 0x14 ∷ 0x28 ∷ 0x15 ∷ 0x00 ∷ 0x00 ∷ []

-- (4, 4) on its grid, in the yard from (2, 2) to (5, 5)
abbrev in_the_yard : Location
in_the_yard = record { lat = fin false 45 (negsuc 11); lon = fin false 45 (negsuc 10) }

pub equal_found : looked_up equal_file in_the_yard false 4 8
    ≡ replied (given (record { matches = 1; mark = 1; safezone = 0; used = 8 })) (0 ∷ 0 ∷ 1 ∷ 13 ∷ []) (0 ∷ 0 ∷ 1 ∷ 0x41 ∷ 1 ∷ 0 ∷ 1 ∷ 0x41 ∷ [])
unfolding reading_of forward_at value_of size_of too_long signed_of even_bits point_of fixed_point one_shifted checked moved_by advanced marker packed_turn turn_of
    round_again next_within next_point trace_then trace_within trace_of along passing closed_at then_on judge judged_at field_at fields_from Z.fields_of fix_of matched_with
    preamble_of texts_from sections_from sections_at contents_by head_by words replied_of safezone_bits zones_with zones_in looked_up summary seen merged_after merged
    rows_then row_by rows_within rows_from rows_in judged_turn row_turn seek searched steps_by entry_by within remote_at string_at bytes_of text_at characters started_by
    begun_by followed goes_on is_utf8 same_point between in_box quadrant_of slope_of edge_of straight closest_on turned quarter_by half_turn turn_at crossing_of across_by
    clear_of wound_by measured S.checked of_int add sub mul div to_signed
equal_found = refl

-- one yard whose two equal values lie behind the records
pub equal_finds : FindsInto (plan_of equal) room in_the_yard false 4 8 (looked_up equal_file in_the_yard false 4 8) (record { matches = 1; mark = 1; safezone = 0; used = 8 })
equal_finds = lookup_finds equal room equal_file equal_values in_the_yard false 4 8 _ (ap (λ (r : Replied Zones). r.reply) equal_found)

-- strictly too
pub equal_strictly : (looked_strictly equal_file in_the_yard false 4 8).reply ≡ given (record { matches = 1; mark = 1; safezone = 0; used = 8 })
unfolding reading_of whole_of looked_strictly forward_at value_of size_of too_long signed_of even_bits point_of fixed_point one_shifted checked moved_by advanced marker
    packed_turn turn_of round_again next_within next_point trace_then trace_within trace_of along passing closed_at then_on judge judged_at field_at fields_from Z.fields_of
    fix_of matched_with preamble_of texts_from sections_from sections_at contents_by head_by words replied_of safezone_bits zones_with zones_in looked_up summary seen
    merged_after merged rows_then row_by rows_within rows_from rows_in judged_turn row_turn seek searched steps_by entry_by within remote_at string_at bytes_of text_at
    characters started_by begun_by followed goes_on is_utf8 same_point between in_box quadrant_of slope_of edge_of straight closest_on turned quarter_by half_turn turn_at
    crossing_of across_by clear_of wound_by measured S.checked of_int add sub mul div to_signed
equal_strictly = refl

pub equal_finds_strictly : FindsInto (plan_of equal) room in_the_yard false 4 8 (looked_strictly equal_file in_the_yard false 4 8) (record { matches = 1; mark = 1; safezone = 0; used = 8 })
equal_finds_strictly = strict_lookup_finds equal room equal_file equal_values in_the_yard false 4 8 _ equal_strictly

-- with room for seven bytes it is refused with 18
pub equal_refused : (looked_up equal_file in_the_yard false 4 7).reply ≡ refused (plain 18)
unfolding reading_of forward_at value_of size_of too_long signed_of even_bits point_of fixed_point one_shifted checked moved_by advanced marker packed_turn turn_of
    round_again next_within next_point trace_then trace_within trace_of along passing closed_at then_on judge judged_at field_at fields_from Z.fields_of fix_of matched_with
    preamble_of texts_from sections_from sections_at contents_by head_by words replied_of safezone_bits zones_with zones_in looked_up summary seen merged_after merged
    rows_then row_by rows_within rows_from rows_in judged_turn row_turn seek searched steps_by entry_by within remote_at string_at bytes_of text_at characters started_by
    begun_by followed goes_on is_utf8 same_point between in_box quadrant_of slope_of edge_of straight closest_on turned quarter_by half_turn turn_at crossing_of across_by
    clear_of wound_by measured S.checked of_int add sub mul div to_signed
equal_refused = refl

pub equal_no_room : NoRoom 18
equal_no_room = lookup_refused equal room equal_file equal_values in_the_yard false 4 7 (plain 18) equal_refused

-- ---- layouts: 16,123 bytes inline and two words, for which 16,127 and 16,129 both fit
abbrev long : Text
long = replicate 16121 1

abbrev laid : List Text
laid = long ∷ (0x41 ∷ []) ∷ (0x41 ∷ []) ∷ []

abbrev laid_plan : Plan
laid_plan =
    record { kind = 0x43; version = 0; precision = 16; names = []; notice = []; yards = record { lats = []; lons = []; pieces = []; values = laid; cut = false } ∷ []; numbered = true; whole = true }

shorter_fits : fits laid 16127 ≡ true
unfolding fits flat_map written is_remote offset_of remotes inlined same_by is_in times_in firsts_after size_before good_ones digits_of varint_of
shorter_fits = refl

longer_fits : fits laid 16129 ≡ true
unfolding fits flat_map written is_remote offset_of remotes inlined same_by is_in times_in firsts_after size_before good_ones digits_of varint_of
longer_fits = refl

abbrev all : List Text
all = fields_of (records_of laid_plan.yards)

all_laid : all ≡ laid
unfolding fields_of firsts_after is_in
all_laid = refl

-- so the file laid out for 16,129 is longer than the definition's, wherever the borders lie
pub longer_file : (drawn : Drawn) → length (file_of laid_plan drawn) < length (file_for 16129 laid_plan drawn)
longer_file drawn = shortest_layout laid_plan drawn 16129 (subst (λ (f : List Text). fits f 16129 ≡ true) (sym all_laid) longer_fits) differs where
  differs : layout_of all ≡ 16129 → ⊥
  differs e = omega (arith, e, (shortest_section all 16127 (subst (λ (f : List Text). fits f 16127 ≡ true) (sym all_laid) shorter_fits)).section 0)
