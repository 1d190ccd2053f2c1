-- `writer::pieces::put_piece` meets its contract.
use Rattle.numbers.{proofs.Prelude.{◌+◌, ◌*◌, eq-eqb, ne_eqb, [], ◌∷◌, ◌++◌, arith}, specs.Spelling.{varint_of}}
use Rattle.writer.specs.Pieces.{piece_bytes}
use Rattle.writer.proofs.{Stores.{stored_then, marked}}
use Rattle.writer.proofs.pieces.put_piece.Goals as goal

pub put_two-requires : goal.put_two-requires
put_two-requires c =
    omega (arith, (marked c.put_two-next.ensures).place_after)

pub returns-then-piece-eq0 : goal.returns-then-piece-eq0
unfolding piece_bytes
returns-then-piece-eq0 c =
    let p = c.args.piece in
    rw (eq-eqb _ _ c.if-piece-eq0.true) (stored_then (0 ∷ 1 ∷ []) (varint_of p.start ++ varint_of (2 * p.bytes)) (marked c.put_two-next.ensures) c.put_two.ensures)

pub put_two-requires-2 : goal.put_two-requires-2
put_two-requires-2 c =
    omega (arith, (marked c.put_two-next.ensures).place_after)

pub returns : goal.returns
unfolding piece_bytes
returns c =
    let p = c.args.piece in
    rw (ne_eqb _ _ c.if-piece-eq0.false) (stored_then (0 ∷ 1 ∷ []) (varint_of (p.start + p.bytes) ++ varint_of (2 * p.bytes + 1)) (marked c.put_two-next.ensures)
    c.put_two-2.ensures)
