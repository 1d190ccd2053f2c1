-- A border that closes, with a repeated point: its moves, and what is written of them. So `moves_again` speaks of something. Assumes nothing.
use Rattle.numbers.{proofs.Prelude.{ℕ, pos, List, [], ◌∷◌, flat_map, ◌≡◌, refl, ap}, specs.{Answer.{found, checked}, Point.{signed_of, even_bits, point_of}}}
use Rattle.numbers.specs.{Spelling.{digits_of, varint_of, signed_form, interleaved}, Varint.{reading_of, forward_at, value_of, size_of, too_long}}
use Rattle.border.specs.{Encoding.{encoded_in}, Place.{point_at, move_by, is_still, moved_by}, Reader.{advanced, marker, packed_turn, turn_of}}
use Rattle.border.specs.{Trace.{round_again, next_within, next_point, Trace, point, closed, trace_then, trace_within, trace_of, border_at}, declared.reader.Version.TheVariants.{Packed}}
use Rattle.writer.specs.Moves.{move_to, packed_number}
use Rattle.salvage.specs.Moves.Moves.{end_of, origin, steps_from, moves_by, moves_at, step_number, step_bytes, moves_bytes}

-- a move to (2,2), the point repeated by 0 and 2, the end
abbrev repeated : List ℕ
repeated = 48 ∷ 0 ∷ 2 ∷ 0 ∷ 0 ∷ []

abbrev twice : Trace
twice = point (point_at (pos 2) (pos 2)) (point (point_at (pos 2) (pos 2)) (point (point_at (pos 2) (pos 2)) closed))

repeated_trace : trace_of repeated (encoded_in Packed 0) (border_at 0) ≡ twice
unfolding reading_of trace_of trace_within trace_then next_point next_within round_again turn_of packed_turn marker advanced moved_by checked forward_at value_of size_of too_long signed_of
    even_bits point_of
repeated_trace = refl

pub repeated_closes : end_of (trace_of repeated (encoded_in Packed 0) (border_at 0)) ≡ found tt
unfolding end_of
repeated_closes = ap end_of repeated_trace

pub repeated_moves : moves_at repeated (encoded_in Packed 0) 0 ≡ move_by (pos 2) (pos 2) ∷ move_by (pos 0) (pos 0) ∷ []
unfolding moves_at moves_by steps_from move_to
repeated_moves = ap (steps_from origin) repeated_trace

-- the repeated point becomes 3
pub repeated_bytes : moves_bytes Packed (move_by (pos 2) (pos 2) ∷ move_by (pos 0) (pos 0) ∷ []) ≡ 48 ∷ 3 ∷ 0 ∷ 0 ∷ []
unfolding moves_bytes step_bytes step_number is_still packed_number interleaved signed_form varint_of digits_of flat_map
repeated_bytes = refl
