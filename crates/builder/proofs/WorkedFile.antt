-- Two small files by computation, from the lists as they are lent: two yards whose entries stand in the other order than they came, and one yard whose two
-- equal values lie behind the records. Assumes nothing.
use Rattle.numbers.{proofs.Prelude.{pos, true, [], ◌∷◌, flat_map, zip_with, ◌≡◌, refl}, specs.{Reply.{given}, Spelling.{digits_of, varint_of, signed_form, interleaved}}}
use Rattle.writer.specs.{Moves.{plain_move_bytes, packed_number, packed_move_bytes, move_to, moves_from, points_of, moves_of}, Pieces.{good_pieces, packed_from, first_pieces, pieces_of}}
use Rattle.writer.specs.Writer.{every, sized, near, checks, plain_border, packed_border, border_of}
use Rattle.border.specs.Place.{is_still}
use Rattle.layout.specs.Order.{insert_by, sorted_by}
use Rattle.header.specs.Utf8.{characters, started_by, begun_by, followed, goes_on, is_utf8}
use Rattle.builder.specs.{Borders.{appended, with_border, drawn_from, drawn_of}, Entries.{lesser, greater, best_by, farthest_of, box_bytes, entry_bytes, table_from, from_south, table_of}}
use Rattle.builder.specs.File.{head_from, head_of, assembled, file_of, borders_good, counted, is_text, readable, known, Room, built_of}
use Rattle.builder.specs.Metadata.{inlined, fields_of, is_remote, remotes, offset_of, written, fits, first_from, layout_of, start_of, metadata_of}
use Rattle.builder.specs.{Sharing.{same_by, is_in, times_in, firsts_after, size_before, good_ones}, Yards.{Lent, cut_by, part_of, sum_of, yards_from, values_from, counted_lengths, plan_of}}

abbrev pub room : Room
room = record { file = 64; bytes = 64; work = true }

abbrev pub two : Lent
two = record {
  kind = 0x43;
  version = 0;
  precision = 16;
  names = 0;
  yards = 4 ∷ 4 ∷ 0 ∷ 0 ∷ 1 ∷ 1 ∷ 0 ∷ 0 ∷ [];
  lats = pos 6 ∷ pos 9 ∷ pos 9 ∷ pos 6 ∷ pos 3 ∷ [];
  lons = pos 1 ∷ pos 1 ∷ pos 4 ∷ pos 4 ∷ pos 3 ∷ [];
  pieces = [];
  lengths = 0 ∷ [];
  texts = [];
}

pub two_yards : built_of (plan_of two) room ≡ given
    (0x50 ∷ 0x4C ∷ 0x42 ∷ 0x43 ∷ 0x00 ∷ 0x10 ∷ 0x00 ∷ 0x00 ∷ 0x10 ∷ 0x00 ∷ 0x11 ∷ 0x06 ∷ 0x06 ∷ 0x06 ∷ 0x06 ∷ 0x00 ∷ 0x0C ∷ 0x0C ∷ 0x02 ∷ 0x12 ∷ 0x08 ∷ 0x00 ∷ 0xF5 ∷ 0xFF ∷ 0xFF ∷ 0xFF ∷
    0x0F ∷ 0x00 ∷ 0x04 ∷ 0x0C ∷ 0x02 ∷ 0x06 ∷ 0x00 ∷ 0x00 ∷ 0x06 ∷ 0x07 ∷ 0x00 ∷ 0x02 ∷ 0x02 ∷ 0x01 ∷ 0x06 ∷ 0x06 ∷ 0x02 ∷ 0x02 ∷ [])
unfolding plain_move_bytes packed_number packed_move_bytes move_to moves_from points_of moves_of good_pieces packed_from first_pieces pieces_of is_still every sized near
    checks plain_border packed_border border_of insert_by sorted_by digits_of varint_of signed_form interleaved characters started_by begun_by followed goes_on is_utf8
    appended with_border drawn_from drawn_of lesser greater best_by farthest_of box_bytes entry_bytes table_from from_south table_of head_from head_of assembled
    file_of borders_good counted is_text readable known built_of inlined fields_of is_remote remotes offset_of written fits first_from layout_of start_of metadata_of
    same_by is_in times_in firsts_after size_before good_ones cut_by part_of sum_of yards_from values_from counted_lengths plan_of flat_map zip_with
two_yards = refl

abbrev pub equal : Lent
equal = record {
  kind = 0x43;
  version = 1;
  precision = 16;
  names = 2;
  yards = 4 ∷ 4 ∷ 0 ∷ 2 ∷ [];
  lats = pos 2 ∷ pos 5 ∷ pos 5 ∷ pos 2 ∷ [];
  lons = pos 2 ∷ pos 2 ∷ pos 5 ∷ pos 5 ∷ [];
  pieces = [];
  lengths = 0 ∷ 0 ∷ 0 ∷ 1 ∷ 1 ∷ [];
  texts = 0x41 ∷ 0x41 ∷ [];
}

pub equal_values : built_of (plan_of equal) room ≡ given (0x50 ∷ 0x4C ∷ 0x42 ∷ 0x43 ∷ 0x01 ∷ 0x10 ∷ 0x02 ∷ 0x00 ∷ 0x00 ∷ 0x00 ∷ 0x06 ∷ 0x06 ∷ 0x07 ∷ 0x04 ∷ 0x04
    ∷ 0x0A ∷ 0x0A ∷ 0x00 ∷ 0x01 ∷ 0x84 ∷ 0x02 ∷ 0x84 ∷ 0x02 ∷ 0x01 ∷ 0xC1 ∷ 0x00 ∷ 0x30 ∷ 0x14 ∷ 0x28 ∷ 0x15 ∷ 0x00 ∷ 0x00 ∷ [])
unfolding plain_move_bytes packed_number packed_move_bytes move_to moves_from points_of moves_of good_pieces packed_from first_pieces pieces_of is_still every sized near
    checks plain_border packed_border border_of insert_by sorted_by digits_of varint_of signed_form interleaved characters started_by begun_by followed goes_on is_utf8
    appended with_border drawn_from drawn_of lesser greater best_by farthest_of box_bytes entry_bytes table_from from_south table_of head_from head_of assembled
    file_of borders_good counted is_text readable known built_of inlined fields_of is_remote remotes offset_of written fits first_from layout_of start_of metadata_of
    same_by is_in times_in firsts_after size_before good_ones cut_by part_of sum_of yards_from values_from counted_lengths plan_of flat_map zip_with
equal_values = refl
