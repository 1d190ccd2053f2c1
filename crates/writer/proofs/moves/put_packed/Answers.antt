-- `writer::moves::put_packed` meets its contract.
use Rattle.numbers.{proofs.Prelude.{ℕ, subst, arith}, specs.Spelling.{varint_of}}
use Rattle.writer.specs.{Moves.{packed_move_bytes, moves_of}, inner.Stored.{Stored, move_at}}
use Rattle.writer.proofs.{Indexed.{each_next, each_done}, Stores.{Left, left_all, left_step, left_none}}
use Rattle.writer.proofs.moves.put_packed.Goals as goal

pub loop-i-init : goal.loop-i-init
loop-i-init c =
    left_all

pub move_number-requires : goal.move_number-requires
move_number-requires c =
    (omega (arith, c.requires.0), omega (arith, c.requires.1))

pub put_varint-next-requires : goal.put_varint-next-requires
put_varint-next-requires c =
    omega (arith, c.loop-i.invariant.places, c.requires.2)

pub loop-i-preserved : goal.loop-i-preserved
unfolding packed_move_bytes
loop-i-preserved c =
    let s = subst (λ (n : ℕ). Stored c.loop-i.out c.loop-i.next (varint_of n) c.put_varint-next.new.out c.put_varint-next.result) c.move_number.ensures
    c.put_varint-next.ensures in
    left_step (packed_move_bytes (move_at c.args.lats.now c.args.lons.now c.loop-i.i)) (subst (Left c.args.out.now c.args.place _ c.loop-i.out c.loop-i.next)
    (each_next c.args.lats.now c.args.lons.now c.loop-i.i (omega (arith, c.requires.0, c.loop-i-test.true)) (omega (arith, c.requires.1, c.loop-i-test.true))
    packed_move_bytes c.args.to c.loop-i-test.true c.requires.0 c.requires.1) c.loop-i.invariant) s

pub shape_of-out : goal.shape_of-out
shape_of-out c =
    c.loop-i.invariant.size

pub returns : goal.returns
returns c =
    left_none (subst (Left c.args.out.now c.args.place _ c.loop-i.out c.loop-i.next) (each_done packed_move_bytes c.loop-i.i c.args.to (moves_of c.args.lats.now
    c.args.lons.now) c.loop-i-test.false) c.loop-i.invariant)
