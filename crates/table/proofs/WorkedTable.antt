-- Document 01's printed file has a table in order whose box is that of its one border, (2,2) (10,2) (10,10) (2,10). So its search is that of the border alone. Assumes nothing.
use Rattle.numbers.{proofs.Prelude.{ℕ, pos, false, List, [], ◌∷◌, ◌++◌, zip_with, ◌≡◌, refl, ◌∙◌, arith}, specs.{Point.{signed_of}, Varint.{reading_of, forward_at, value_of, size_of, too_long}}}
use Rattle.writer.{proofs.{WorkedBytes.{packed_bytes}, WrittenTrace.{written_stands}}, specs.Moves.{points_of}}
use Rattle.border.specs.{Box.{min_z, max_z, box_over, box_of}, Written.{Placed}, declared.place.Point.{Point}}
use Rattle.table.proofs.InOrder.{early_stop_loses_nothing, boxes_change_nothing}
use Rattle.table.specs.{Ordered.{Ordered, ends, next, AllBoxed, none, one, seek_alone}, Rows.{rows_then, row_by, rows_within, rows_from, rows_in}, Search.{judge_in, farthest, searched}}
use Rattle.table.specs.Table.{steps_by, entry_by}
use Rattle.header.specs.declared.header.Head.{Head}

abbrev front : List ℕ
front = 0x50 ∷ 0x4C ∷ 0x42 ∷ 0x43 ∷ 0x01 ∷ 0x10 ∷ 0x01 ∷ 0x04 ∷ 0xCE ∷ 0xE1 ∷ 0xED ∷ 0xE5 ∷ 0x00 ∷ 0x06 ∷ 0x02 ∷ 0x09 ∷ 0x04 ∷ 0x04 ∷ 0x14 ∷ 0x14 ∷ 0x00 ∷ 0x00 ∷ 0x01 ∷ 0xC1 ∷ []

abbrev border : List ℕ
border = 0x30 ∷ 0x80 ∷ 0x02 ∷ 0x80 ∷ 0x04 ∷ 0x81 ∷ 0x02 ∷ 0x00 ∷ 0x00 ∷ []

abbrev printed : List ℕ
printed = front ++ border

abbrev head : Head
head = record { preamble = record { kind = 0x43; version = 1; precision = 16; count = 1 }; sections = record { table = 16; metadata = 22; «data» = 24 }; strict = false }

abbrev points : List Point
points = points_of (pos 2 ∷ pos 10 ∷ pos 10 ∷ pos 2 ∷ []) (pos 2 ∷ pos 2 ∷ pos 10 ∷ pos 10 ∷ [])

placed : Placed [] border printed 24 24
placed = record { header = front; rest = []; layout = refl; data_section = refl; border_place = refl; size = omega arith }

printed_ordered : Ordered 22 (pos 2) (rows_in printed head)
unfolding reading_of forward_at value_of size_of too_long signed_of steps_by entry_by rows_then row_by rows_within rows_from rows_in
printed_ordered = next refl refl ends

printed_boxed : AllBoxed printed head (rows_in printed head) (points ∷ [])
unfolding reading_of forward_at value_of size_of too_long signed_of steps_by entry_by rows_then row_by rows_within rows_from rows_in min_z max_z box_over box_of points_of zip_with
printed_boxed = one (record { border = written_stands (record { pieces = []; earlier = []; bytes = border; accepted = packed_bytes; placed = placed }); box = refl }) none

pub printed_alone : (fix : Point) (room : ℕ) → searched printed head fix false room ≡ seek_alone (judge_in printed head fix false) room (rows_in printed head) farthest []
unfolding searched
printed_alone fix room =
    early_stop_loses_nothing 22 fix (judge_in printed head fix false) room printed_ordered farthest [] ∙ boxes_change_nothing printed head refl fix room printed_boxed farthest []
