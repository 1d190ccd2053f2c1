-- `marks::judge::nearest` meets its contract. The loop's invariant: what is left comes to what the whole does.
use Rattle.numbers.proofs.Prelude.{◌+◌, ◌-◌, ◌*◌, ◌≡◌, ap, ◌∙◌, arith}
use Rattle.border.specs.declared.place.Point.{Point}
use Rattle.marks.proofs.judge.{Turns.{nearest_done, nearest_next}}
use Rattle.marks.specs.Judging.{nearer_by, nearest_of}
use Rattle.verdict.specs.Distance.{to_vertex}
use Rattle.marks.proofs.judge.nearest.Goals as goal

pub loop-i-preserved : goal.loop-i-preserved
loop-i-preserved c =
    let i = c.loop-i.i in
    let fewer : c.args.count - (i + 1) ≡ c.args.count - i - 1 = omega arith in
    let next : c.args.place + 11 * (i + 1) ≡ c.args.place + 11 * i + 11 = omega arith in
    (λ k. nearest_of c.args.words.now c.args.fix (fewer k) (next k) c.nearer-near.result)
    ∙ ap (nearest_of c.args.words.now c.args.fix (c.args.count - i - 1) (c.args.place + 11 * i + 11)) (c.nearer-near.ensures
    ∙ ap (λ (p : Point). nearer_by (to_vertex p c.args.fix) c.loop-i.near) c.point_at.ensures)
    ∙ nearest_next c.args.words.now c.args.fix (c.args.count - i) (c.args.place + 11 * i) c.loop-i.near (omega (arith, c.loop-i-test.true))
    ∙ c.loop-i.invariant

pub returns : goal.returns
returns c =
    nearest_done _ _ _ _ _ (omega (arith, c.loop-i-test.false)) ∙ c.loop-i.invariant
