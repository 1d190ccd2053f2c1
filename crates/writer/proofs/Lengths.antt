-- How long the bytes of moves and pieces are at most. Assumes nothing.
use Rattle.numbers.proofs.Prelude.{ℕ, ◌*◌, ◌≤◌, length, length-append, slice, List, flat_map, le_trans, arith}
use Rattle.numbers.{proofs.Spelling.{varint_few}, specs.{Spelling.{signed_form}, declared.point.RawPoint.{RawPoint}}}
use Rattle.writer.specs.Moves.{plain_move_bytes, packed_move_bytes, packed_number}
use Rattle.writer.proofs.Indexed.{each_few, slice_few}

pub plain_one : (m : RawPoint) → length (plain_move_bytes m) ≤ 20
unfolding plain_move_bytes
plain_one m = simp length-append (omega (arith, varint_few (signed_form m.lat), varint_few (signed_form m.lon)))

pub packed_one : (m : RawPoint) → length (packed_move_bytes m) ≤ 10
unfolding packed_move_bytes
packed_one m = varint_few (packed_number m)

module _ (ms : List RawPoint) (from to : ℕ) where
  pub plain_few : length (flat_map plain_move_bytes (slice from to ms)) ≤ 20 * length ms
  plain_few = le_trans (each_few plain_move_bytes 20 plain_one (slice from to ms)) (omega (arith, slice_few from to ms))

  pub packed_few : length (flat_map packed_move_bytes (slice from to ms)) ≤ 10 * length ms
  packed_few = le_trans (each_few packed_move_bytes 10 packed_one (slice from to ms)) (omega (arith, slice_few from to ms))
