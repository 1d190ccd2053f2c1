-- A small builder by computation: begun, one yard added, refused for room, dropped, and a drop from none. Assumes nothing.
use Rattle.numbers.{proofs.Prelude.{pos, true, [], ◌∷◌, flat_map, zip_with, ◌≡◌, refl}, specs.{Reply.{given, refused, plain}, Spelling.{digits_of, varint_of, signed_form, interleaved}}}
use Rattle.writer.specs.{Moves.{plain_move_bytes, packed_number, packed_move_bytes, move_to, moves_from, points_of, moves_of}, Pieces.{good_pieces, packed_from, first_pieces, pieces_of}}
use Rattle.writer.specs.Writer.{every, sized, near, checks, plain_border, packed_border, border_of}
use Rattle.border.specs.Place.{is_still}
use Rattle.layout.specs.Order.{insert_by, sorted_by}
use Rattle.header.specs.Utf8.{characters, started_by, begun_by, followed, goes_on, is_utf8}
use Rattle.builder.specs.{Borders.{appended, with_border, drawn_from, drawn_of}, Entries.{lesser, greater, best_by, farthest_of, box_bytes, entry_bytes, table_from, from_south, table_of}}
use Rattle.builder.specs.{File.{head_from, head_of, is_text, are_texts, readable, known}, Metadata.{inlined, fields_of, is_remote, remotes, offset_of, written, fits, first_from, layout_of, start_of}}
use Rattle.builder.specs.{Metadata.{metadata_of}, Sharing.{same_by, is_in, times_in, firsts_after, size_before, good_ones}, Yards.{Plan, cut_by, sum_of}}
use Rattle.draft.specs.Held.{Builder.{Builder, Offered, summed, fitting, begin, joined, add, drop_last}, Calls.{add_yard, drop_yard, called, after, ran}, Space.{Space}}
use Rattle.draft.specs.Held.Totals.{drawn_or, data_of, totals_for, totals_of, file_size}

abbrev plan : Plan
plan = record { kind = 0x43; version = 0; precision = 16; names = []; notice = []; yards = []; numbered = true; whole = true }

abbrev space : Space
space = record { bytes = 64; lists = true }

abbrev yard : Offered
yard = record { lats = pos 6 ∷ pos 9 ∷ pos 9 ∷ pos 6 ∷ []; lons = pos 1 ∷ pos 1 ∷ pos 4 ∷ pos 4 ∷ []; pieces = []; lengths = []; texts = [] }

-- in a room of 64 bytes
abbrev begun : Builder
begun = summed plan 64

pub begins : begin plan 64 space ≡ given begun
unfolding plain_move_bytes packed_number packed_move_bytes move_to moves_from points_of moves_of good_pieces packed_from first_pieces pieces_of is_still every sized near
    checks plain_border packed_border border_of insert_by sorted_by digits_of varint_of signed_form interleaved characters started_by begun_by followed goes_on is_utf8
    appended with_border drawn_from drawn_of lesser greater best_by farthest_of box_bytes entry_bytes table_from from_south table_of head_from head_of is_text
    are_texts readable known inlined fields_of is_remote remotes offset_of written fits first_from layout_of start_of metadata_of same_by is_in times_in firsts_after
    size_before good_ones cut_by sum_of flat_map zip_with drawn_or data_of totals_for totals_of file_size summed fitting begin joined add drop_last called after ran
begins = refl

pub one_yard : (ran begun (add_yard yard space ∷ [])).totals ≡ record { table = 6; metadata = 0; bytes = 12; yards = 1; greatest = pos 6 }
unfolding plain_move_bytes packed_number packed_move_bytes move_to moves_from points_of moves_of good_pieces packed_from first_pieces pieces_of is_still every sized near
    checks plain_border packed_border border_of insert_by sorted_by digits_of varint_of signed_form interleaved characters started_by begun_by followed goes_on is_utf8
    appended with_border drawn_from drawn_of lesser greater best_by farthest_of box_bytes entry_bytes table_from from_south table_of head_from head_of is_text
    are_texts readable known inlined fields_of is_remote remotes offset_of written fits first_from layout_of start_of metadata_of same_by is_in times_in firsts_after
    size_before good_ones cut_by sum_of flat_map zip_with drawn_or data_of totals_for totals_of file_size summed fitting begin joined add drop_last called after ran
one_yard = refl

pub one_dropped : ran begun (add_yard yard space ∷ drop_yard space ∷ []) ≡ begun
unfolding plain_move_bytes packed_number packed_move_bytes move_to moves_from points_of moves_of good_pieces packed_from first_pieces pieces_of is_still every sized near
    checks plain_border packed_border border_of insert_by sorted_by digits_of varint_of signed_form interleaved characters started_by begun_by followed goes_on is_utf8
    appended with_border drawn_from drawn_of lesser greater best_by farthest_of box_bytes entry_bytes table_from from_south table_of head_from head_of is_text
    are_texts readable known inlined fields_of is_remote remotes offset_of written fits first_from layout_of start_of metadata_of same_by is_in times_in firsts_after
    size_before good_ones cut_by sum_of flat_map zip_with drawn_or data_of totals_for totals_of file_size summed fitting begin joined add drop_last called after ran
one_dropped = refl

-- the file has 29 bytes: 8 of header, 3 of sizes, 18 of sections
pub just_fits : (ran (summed plan 29) (add_yard yard space ∷ [])).totals.yards ≡ 1
unfolding plain_move_bytes packed_number packed_move_bytes move_to moves_from points_of moves_of good_pieces packed_from first_pieces pieces_of is_still every sized near
    checks plain_border packed_border border_of insert_by sorted_by digits_of varint_of signed_form interleaved characters started_by begun_by followed goes_on is_utf8
    appended with_border drawn_from drawn_of lesser greater best_by farthest_of box_bytes entry_bytes table_from from_south table_of head_from head_of is_text
    are_texts readable known inlined fields_of is_remote remotes offset_of written fits first_from layout_of start_of metadata_of same_by is_in times_in firsts_after
    size_before good_ones cut_by sum_of flat_map zip_with drawn_or data_of totals_for totals_of file_size summed fitting begin joined add drop_last called after ran
just_fits = refl

pub too_long : called (summed plan 28) (add_yard yard space) ≡ refused (plain 28)
unfolding plain_move_bytes packed_number packed_move_bytes move_to moves_from points_of moves_of good_pieces packed_from first_pieces pieces_of is_still every sized near
    checks plain_border packed_border border_of insert_by sorted_by digits_of varint_of signed_form interleaved characters started_by begun_by followed goes_on is_utf8
    appended with_border drawn_from drawn_of lesser greater best_by farthest_of box_bytes entry_bytes table_from from_south table_of head_from head_of is_text
    are_texts readable known inlined fields_of is_remote remotes offset_of written fits first_from layout_of start_of metadata_of same_by is_in times_in firsts_after
    size_before good_ones cut_by sum_of flat_map zip_with drawn_or data_of totals_for totals_of file_size summed fitting begin joined add drop_last called after ran
too_long = refl

pub none_to_drop : called begun (drop_yard space) ≡ refused (plain 29)
unfolding plain_move_bytes packed_number packed_move_bytes move_to moves_from points_of moves_of good_pieces packed_from first_pieces pieces_of is_still every sized near
    checks plain_border packed_border border_of insert_by sorted_by digits_of varint_of signed_form interleaved characters started_by begun_by followed goes_on is_utf8
    appended with_border drawn_from drawn_of lesser greater best_by farthest_of box_bytes entry_bytes table_from from_south table_of head_from head_of is_text
    are_texts readable known inlined fields_of is_remote remotes offset_of written fits first_from layout_of start_of metadata_of same_by is_in times_in firsts_after
    size_before good_ones cut_by sum_of flat_map zip_with drawn_or data_of totals_for totals_of file_size summed fitting begin joined add drop_last called after ran
none_to_drop = refl
