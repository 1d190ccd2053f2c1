-- `slip::lines::is_before` meets its contract.
use Rattle.numbers.proofs.Prelude.{take, arith}
use Rattle.slip.proofs.{Zones.{none_is, one_is, others_are}}
use Rattle.table.{proofs.Words.{count_slots, slot_is}, specs.Hits.{slots}}
use Rattle.slip.proofs.lines.is_before.Goals as goal

pub returns-then-is_called : goal.returns-then-is_called
returns-then-is_called c =
    one_is c.args.map.now c.args.head _ (take c.args.count (slots c.args.hits.now)) c.loop-i.i c.loop-i.invariant (omega (
      arith,
      c.loop-i-test.true,
      count_slots
          c.args.hits.now c.args.count c.requires.1,
    )) (slot_is c.args.hits.now c.args.count c.requires.1 _ _ c.loop-i-test.true c.hit_at-hit.ensures)
    c.is_called.ensures c.if-is_called.true

pub loop-i-preserved : goal.loop-i-preserved
loop-i-preserved c =
    others_are c.args.map.now c.args.head _ (take c.args.count (slots c.args.hits.now)) c.loop-i.i c.loop-i.invariant (omega (
      arith,
      c.loop-i-test.true,
      count_slots c.args.hits.now c.args.count c.requires.1,
    )) (slot_is c.args.hits.now c.args.count c.requires.1 _ _ c.loop-i-test.true c.hit_at-hit.ensures)
    c.is_called.ensures c.if-is_called.false

pub returns : goal.returns
returns c =
    none_is c.args.map.now c.args.head _ (take c.args.count (slots c.args.hits.now)) c.loop-i.i c.loop-i.invariant (omega (
      arith,
      c.loop-i-test.false,
      count_slots
          c.args.hits.now c.args.count c.requires.1,
    ))
