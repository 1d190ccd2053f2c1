-- `writer::moves::put_plain` meets its contract.
use Rattle.numbers.{proofs.Prelude.{ℕ, ◌++◌, subst, arith}, specs.Spelling.{varint_of, signed_form}}
use Rattle.writer.specs.{Moves.{plain_move_bytes, moves_of}, inner.Stored.{Stored, move_at}}
use Rattle.writer.proofs.{Indexed.{each_next, each_done}, Stores.{Left, left_all, left_step, left_none}}
use Rattle.writer.proofs.moves.put_plain.Goals as goal

pub loop-i-init : goal.loop-i-init
loop-i-init c =
    left_all

pub gap_form-requires : goal.gap_form-requires
gap_form-requires c =
    omega (arith, c.requires.0)

pub gap_form-requires-in-loop-i : goal.gap_form-requires-in-loop-i
gap_form-requires-in-loop-i c =
    omega (arith, c.requires.1)

pub put_two-next-requires : goal.put_two-next-requires
put_two-next-requires c =
    omega (arith, c.loop-i.invariant.places, c.requires.2)

pub loop-i-preserved : goal.loop-i-preserved
unfolding plain_move_bytes
loop-i-preserved c =
    let test = c.loop-i-test.true in
    let m = move_at c.args.lats.now c.args.lons.now c.loop-i.i in
    let s = subst (λ (n : ℕ). Stored c.loop-i.out c.loop-i.next (varint_of n ++ varint_of c.gap_form-in-loop-i.result) c.put_two-next.new.out c.put_two-next.result)
    c.gap_form.ensures c.put_two-next.ensures in
    let t = subst (λ (n : ℕ). Stored c.loop-i.out c.loop-i.next (varint_of (signed_form m.lat) ++ varint_of n) c.put_two-next.new.out c.put_two-next.result)
    c.gap_form-in-loop-i.ensures s in
    left_step (plain_move_bytes m) (subst (Left c.args.out.now c.args.place _ c.loop-i.out c.loop-i.next) (each_next c.args.lats.now c.args.lons.now c.loop-i.i
    (omega (arith, c.requires.0, test)) (omega (arith, c.requires.1, test)) plain_move_bytes c.args.to test c.requires.0 c.requires.1) c.loop-i.invariant) t

pub shape_of-out : goal.shape_of-out
shape_of-out c =
    c.loop-i.invariant.size

pub returns : goal.returns
returns c =
    left_none (subst (Left c.args.out.now c.args.place _ c.loop-i.out c.loop-i.next) (each_done plain_move_bytes c.loop-i.i c.args.to (moves_of c.args.lats.now
    c.args.lons.now) c.loop-i-test.false) c.loop-i.invariant)
