-- `notes::weighed::weigh::weigh` meets its contract.
use Rattle.numbers.proofs.Prelude.{◌+◌, arith}
use Rattle.builder.proofs.grouping.Walks.{item_among}
use Rattle.notes.proofs.weighed.{Added.{add_starts, adds_nothing, value_room, taken_few, add_goes, add_ends}}
use Rattle.notes.proofs.weighed.weigh.weigh.Goals as goal

pub overflow_mul-first : goal.overflow_mul-first
overflow_mul-first c =
    omega (arith, item_among c.args.count (c.args.count + 1) c.args.names (omega arith), c.requires.2)

pub loop-i-init : goal.loop-i-init
loop-i-init c =
    add_starts _ _ _ _ _ _

pub overflow_add-first : goal.overflow_add-first
overflow_add-first c =
    omega (arith, value_room c.args.names c.args.count c.loop-i.i c.loop-i-test.true, c.requires.2)

pub weigh_value-requires : goal.weigh_value-requires
weigh_value-requires c =
    let room = value_room c.args.names c.args.count c.loop-i.i c.loop-i-test.true in
    (c.requires.1, omega (arith, room, c.requires.2), omega (arith, room, c.requires.3), omega arith)

pub returns-in_err-bytes : goal.returns-in_err-bytes
returns-in_err-bytes c =
    rw c.from_residual.ensures (adds_nothing _ _ _ _ _ _)

pub overflow_add-bytes : goal.overflow_add-bytes
overflow_add-bytes c =
    omega (
      arith,
      c.loop-i.invariant.small,
      c.loop-i-test.true,
      c.requires.0,
      taken_few _ _ _ _ _ _ _ _ c.loop-i.invariant c.loop-i-test.true _
          c.weigh_value.ensures _ c.in_ok-bytes.was,
    )

pub loop-i-preserved : goal.loop-i-preserved
loop-i-preserved c =
    add_goes _ _ _ _ _ _ _ _ c.loop-i.invariant c.loop-i-test.true _ c.weigh_value.ensures _ c.in_ok-bytes.was

pub returns : goal.returns
returns c =
    add_ends _ _ _ _ _ _ _ _ c.loop-i.invariant c.requires.0 c.loop-i-test.false
