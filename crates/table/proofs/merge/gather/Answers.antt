-- `table::merge::gather` meets its contract. The loop's invariant is `Gathering`: of the slots from `from` on, those passed are cleared and tallied.
use Rattle.numbers.proofs.Prelude.{◌≤◌, ◌<◌, length, refl, ap, ◌∙◌, arith}
use Rattle.table.proofs.{Words.{words_length}, merge.{Gathering.{begins, gathered_length, gathered, passes, takes}}}
use Rattle.table.specs.Hits.{slots, put_hit}
use Rattle.table.proofs.merge.gather.Goals as goal
use Rattle.table.proofs.merge.gather.Goals.{then-hit-id, else-hit-id}

pub loop-j-init : goal.loop-j-init
loop-j-init c =
    (begins _ _ _ _ _ c.requires.0 c.requires.1 refl, ap length c.requires.0 ∙ words_length (slots c.args.hits.now))

pub hit_at-hit-requires : goal.hit_at-hit-requires
hit_at-hit-requires c =
    omega (arith, gathered_length c.loop-j.invariant.0, c.loop-j.invariant.1, c.loop-j-test.true, c.room-room.ensures)

pub joined-t-requires : goal.joined-t-requires
joined-t-requires c = (
  omega (arith, c.loop-j.invariant.0.small, c.loop-j-test.true, c.room-room.ensures, c.well_formed),
  omega (
    arith,
    c.loop-j.invariant.0.small',
    c.loop-j-test.true,
    c.room-room.ensures,
    c.well_formed,
  ),
)

pub put_hit-requires : goal.put_hit-requires
put_hit-requires c =
    omega (arith, gathered_length c.loop-j.invariant.0, c.loop-j.invariant.1, c.loop-j-test.true, c.room-room.ensures)

pub loop-j-preserved : goal.loop-j-preserved
loop-j-preserved c =
    let inv = c.loop-j.invariant in
    let inside : c.loop-j.j < length (slots c.args.hits.now) = omega (arith, inv.1, c.loop-j-test.true, c.room-room.ensures) in
    elim c.if-hit-id.branch [
      | then-hit-id w ↦ rw (w.hits-is, w.t-is) (
        takes inv.0 inside c.hit_at-hit.result c.hit_at-hit.ensures _ _ w.if-hit-id.true (w.put_hit.ensures ∙ ap (put_hit c.loop-j.hits c.loop-j.j) w.none.ensures)
            w.joined-t.ensures.sum w.joined-t.ensures.small.0 w.joined-t.ensures.small.1,
        inv.1,
      )
      | else-hit-id w ↦ rw (w.hits-is, w.t-is) (passes inv.0 inside c.hit_at-hit.result c.hit_at-hit.ensures w.if-hit-id.false, inv.1)
    ]

pub shape_of-hits : goal.shape_of-hits
shape_of-hits c =
    omega (arith, gathered_length c.loop-j.invariant.0, c.loop-j.invariant.1)

pub returns : goal.returns
returns c =
    let done : length (slots c.args.hits.now) ≤ c.loop-j.j = omega (arith, c.loop-j.invariant.1, c.loop-j-test.false, c.room-room.ensures) in
    let all = gathered c.loop-j.invariant.0 done in
    record { sum = all.0; cleared = all.1 }
