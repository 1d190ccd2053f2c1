-- `writer::write::write_plain` meets its contract.
use Rattle.numbers.{proofs.{Prelude.{length, slice, [], ◌∷◌, ◌++◌, flat_map, ◌≡◌, arith}, Spelling.{varint_few, varint_byte}}, specs.Spelling.{varint_of}}
use Rattle.writer.specs.Moves.{plain_move_bytes, moves_of}
use Rattle.writer.proofs.{Indexed.{border_length, all_moves}, Lengths.{plain_few}, Stores.{stored_then}}
use Rattle.writer.proofs.write.write_plain.Goals as goal

-- the guard bytes
guard : varint_of 2 ++ varint_of 2 ≡ 2 ∷ 2 ∷ []
guard = rw (varint_byte 2 (omega arith))

pub put_plain-end-requires : goal.put_plain-end-requires
put_plain-end-requires c =
    let size = c.requires.1 in
    let same = c.requires.0 in (
      omega arith,
      omega arith,
      omega (
        arith,
        c.put_varint-place.ensures.place_after,
        varint_few (length c.args.lats.now),
        plain_few (moves_of c.args.lats.now
            c.args.lons.now) 0 (length c.args.lats.now),
        border_length c.args.lats.now c.args.lons.now,
      ),
    )

pub put_two-requires : goal.put_two-requires
put_two-requires c =
    let size = c.requires.1 in
    omega (
      arith,
      c.put_plain-end.ensures.place_after,
      c.put_varint-place.ensures.place_after,
      varint_few (length c.args.lats.now),
      plain_few (moves_of
          c.args.lats.now c.args.lons.now) 0 (length c.args.lats.now),
      border_length c.args.lats.now c.args.lons.now,
    )

pub returns : goal.returns
returns c =
    let ms = moves_of c.args.lats.now c.args.lons.now in
    let all : slice 0 (length c.args.lats.now) ms ≡ ms = all_moves c.args.lats.now c.args.lons.now c.requires.0 in
    stored_then (varint_of (length c.args.lats.now)) (flat_map plain_move_bytes ms ++ (2 ∷ 2 ∷ [])) c.put_varint-place.ensures (stored_then (flat_map
    plain_move_bytes ms) (2 ∷ 2 ∷ []) (rw all at c.put_plain-end.ensures) (rw guard at c.put_two.ensures))
