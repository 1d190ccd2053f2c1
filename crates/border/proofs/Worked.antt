-- Document 01's border (2,2) (10,2) (10,10) (2,10), in both versions, and with its moves borrowed in both directions: its points, then the first again, closed. Assumes nothing.
use Rattle.numbers.proofs.Prelude.{pos, [], ◌∷◌, ◌≡◌, refl}
use Rattle.numbers.specs.{Answer.{checked}, Point.{signed_of, even_bits, point_of}, Varint.{reading_of, forward_at, value_of, size_of, too_long, start_of, backward_at}}
use Rattle.border.specs.{Encoding.{encoded_in}, Place.{point_at, is_still, moved_by, negated}}
use Rattle.border.specs.Reader.{advanced, plain_move, plain_pair, plain_turn, opened, reference, marker, lent, forward_from, backward_from, packed_turn, turn_of}
use Rattle.border.specs.{Trace.{round_again, next_within, next_point, Trace, point, closed, trace_then, trace_within, trace_of, border_at}, declared.reader.Version.TheVariants.{Plain, Packed}}

abbrev pub square : Trace
square = point (point_at (pos 2) (pos 2)) (point (point_at (pos 10) (pos 2)) (point (point_at (pos 10) (pos 10)) (point (point_at (pos 2) (pos 10)) (point (point_at (pos 2) (pos 2)) closed))))

pub packed_square : trace_of (48 ∷ 128 ∷ 2 ∷ 128 ∷ 4 ∷ 129 ∷ 2 ∷ 0 ∷ 0 ∷ []) (encoded_in Packed 0) (border_at 0) ≡ square
unfolding reading_of trace_of trace_within trace_then next_point next_within round_again turn_of packed_turn marker advanced moved_by checked forward_at value_of size_of too_long signed_of even_bits point_of
packed_square = refl

pub plain_square : trace_of (4 ∷ 4 ∷ 4 ∷ 16 ∷ 0 ∷ 0 ∷ 16 ∷ 17 ∷ 0 ∷ 2 ∷ 2 ∷ []) (encoded_in Plain 0) (border_at 0) ≡ square
unfolding reading_of trace_of trace_within trace_then next_point next_within round_again turn_of plain_turn plain_pair plain_move is_still moved_by checked forward_at value_of size_of too_long signed_of
plain_square = refl

forward_square : trace_of (128 ∷ 2 ∷ 128 ∷ 4 ∷ 48 ∷ 0 ∷ 1 ∷ 0 ∷ 8 ∷ 129 ∷ 2 ∷ 0 ∷ 0 ∷ []) (encoded_in Packed 0) (border_at 4) ≡ square
unfolding reading_of trace_of trace_within trace_then next_point next_within round_again turn_of packed_turn marker reference opened lent forward_from advanced moved_by
    checked forward_at value_of size_of too_long signed_of even_bits point_of
forward_square = refl

backward_square : trace_of (127 ∷ 0 ∷ 130 ∷ 4 ∷ 129 ∷ 2 ∷ 48 ∷ 0 ∷ 1 ∷ 5 ∷ 9 ∷ 129 ∷ 2 ∷ 0 ∷ 0 ∷ []) (encoded_in Packed 1) (border_at 6) ≡ square
unfolding reading_of trace_of trace_within trace_then next_point next_within round_again turn_of packed_turn marker reference opened lent backward_from negated advanced
    moved_by checked backward_at start_of forward_at value_of size_of too_long signed_of even_bits point_of
backward_square = refl

-- point 3 is (0,0) and no marker: a point like any other, and the border goes on
pub no_marker : trace_of (3 ∷ 0 ∷ 0 ∷ []) (encoded_in Packed 0) (border_at 0) ≡ point (point_at (pos 0) (pos 0)) (point (point_at (pos 0) (pos 0)) closed)
unfolding reading_of trace_of trace_within trace_then next_point next_within round_again turn_of packed_turn marker advanced moved_by checked forward_at value_of size_of too_long signed_of even_bits point_of
no_marker = refl
