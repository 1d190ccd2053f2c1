-- `table::merge::merge` meets its contract. The loop's invariant is `Merging`: matches, empty slots, and the hits whose group is still to come.
use Rattle.numbers.proofs.Prelude.{◌<◌, length, ap, ◌∙◌, arith}
use Rattle.table.proofs.{Words.{words_length}, merge.{Merging.{starts, ends, merging_length, taken_length, shaped, slots_length, skips, drops, keeps}}}
use Rattle.table.specs.{Hits.{slots}, Merge.{tallied}}
use Rattle.table.proofs.merge.merge.Goals as goal
use Rattle.table.proofs.merge.merge.Goals.{then-hit-ne-NO_KIND+then-kind-ne-NO_KIND, then-hit-ne-NO_KIND+else-kind-ne-NO_KIND, else-hit-ne-NO_KIND}

pub loop-i-init : goal.loop-i-init
loop-i-init c =
    (starts _ _ c.requires.0 c.requires.1, ap length c.requires.0 ∙ words_length (slots c.args.hits.now))

pub hit_at-hit-requires : goal.hit_at-hit-requires
hit_at-hit-requires c =
    omega (arith, merging_length c.loop-i.invariant.0, c.loop-i.invariant.1, c.loop-i-test.true, c.room-room.ensures)

pub gather-requires : goal.gather-requires
gather-requires c =
    (shaped c.loop-i.invariant.0, omega (arith, slots_length c.loop-i.invariant.0, c.loop-i.invariant.1, c.loop-i-test.true, c.room-room.ensures))

pub put_hit-requires : goal.put_hit-requires
put_hit-requires c =
    let inv = c.loop-i.invariant in
    let taken = taken_length inv.0 (omega (arith, c.loop-i.invariant.1, c.loop-i-test.true, c.room-room.ensures)) c.hit_at-hit.result c.hit_at-hit.ensures
    c.if-hit-ne-NO_KIND.true _ (tallied c.gather.result) 0 c.gather.ensures.cleared in
    omega (arith, taken, inv.0.place, inv.1, c.loop-i-test.true, c.room-room.ensures)

pub overflow_add-out : goal.overflow_add-out
overflow_add-out c =
    omega (arith, c.loop-i.invariant.0.place, c.loop-i-test.true, c.room-room.ensures)

pub loop-i-preserved : goal.loop-i-preserved
loop-i-preserved c =
    let inv = c.loop-i.invariant in
    let inside : c.loop-i.i < length (slots c.args.hits.now) = omega (arith, inv.1, c.loop-i-test.true, c.room-room.ensures) in
    elim c.if-hit-ne-NO_KIND.branch [
      | then-hit-ne-NO_KIND+then-kind-ne-NO_KIND w ↦ rw (w.hits-is, w.out-is) (
        keeps inv.0 inside c.hit_at-hit.result c.hit_at-hit.ensures w.if-hit-ne-NO_KIND.true _ (tallied w.gather.result) _ w.gather.ensures.cleared w.gather.ensures.sum
            w.kind_of-kind.ensures _ w.if-kind-ne-NO_KIND.true w.put_hit.ensures,
        inv.1,
      )
      | then-hit-ne-NO_KIND+else-kind-ne-NO_KIND w ↦ rw (w.hits-is, w.out-is) (
        drops inv.0 inside c.hit_at-hit.result c.hit_at-hit.ensures w.if-hit-ne-NO_KIND.true _ (tallied w.gather.result) _ w.gather.ensures.cleared w.gather.ensures.sum
            w.kind_of-kind.ensures w.if-kind-ne-NO_KIND.false,
        inv.1,
      )
      | else-hit-ne-NO_KIND w ↦ rw (w.hits-is, w.out-is) (skips inv.0 inside c.hit_at-hit.result c.hit_at-hit.ensures w.if-hit-ne-NO_KIND.false, inv.1)
    ]

pub shape_of-hits : goal.shape_of-hits
shape_of-hits c =
    omega (arith, merging_length c.loop-i.invariant.0, c.loop-i.invariant.1)

pub returns : goal.returns
returns c =
    ends c.loop-i.invariant.0 _ c.loop-i.invariant.1 (omega (arith, c.loop-i.invariant.1, c.loop-i-test.false, c.room-room.ensures))
