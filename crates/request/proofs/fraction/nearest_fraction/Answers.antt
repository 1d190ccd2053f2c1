-- `request::fraction::nearest_fraction` meets its contract (proofs/Quotients.antt, `short_law`). The invariant: what was divided is num moved up, and the remainder is below the divisor.
use Rattle.numbers.proofs.Prelude.{◌+◌, ◌-◌, ◌<◌, ◌≡◌, ◌∙◌, arith}
use Rattle.request.proofs.{Quotients.{going_first, going_room, going_on, going_over, short_law}}
use Rattle.request.proofs.fraction.nearest_fraction.Goals as goal
use Rattle.request.proofs.fraction.nearest_fraction.Goals.{then-rest-over, else-rest-over}

pub loop-kept-preserved : goal.loop-kept-preserved
loop-kept-preserved c =
    let room : 0 < c.loop-kept.place = going_room c.loop-kept.invariant c.loop-kept-test.true c.requires.0 (omega arith) in
    elim c.if-rest-over.branch [
      | then-rest-over w ↦ rw (w.kept-is, w.rest-is) (going_on c.loop-kept.invariant c.loop-kept-test.true room w.if-rest-over.true)
      | else-rest-over w ↦ rw (w.kept-is, w.rest-is) (going_over c.loop-kept.invariant c.loop-kept-test.true room w.if-rest-over.false)
    ]

pub returns : goal.returns
returns c =
    let g = c.loop-kept.invariant in
    let e : 149 - c.loop-kept.place + c.loop-kept.place ≡ 149 = omega (arith, g.high) in
    c.assembled.ensures ∙ short_law c.args.num c.args.den (149 - c.loop-kept.place) c.loop-kept.place c.loop-kept.kept c.loop-kept.rest c.requires.1 e g.whole
    g.less c.loop-kept-test.false g.small
