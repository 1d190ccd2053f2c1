-- `marks::judge::Course::pass_stretches` meets its contract. The loop's invariant: what is left, passed from where it has come to, is what the whole gives.
use Rattle.numbers.proofs.Prelude.{◌+◌, ◌-◌, ◌≡◌, refl, ap, ◌∙◌, arith}
use Rattle.marks.proofs.judge.{Turns.{stretches_done, stretches_next}}
use Rattle.marks.specs.Judging.{stretch_by, points_by, stretches_by}
use Rattle.border.specs.declared.place.Point.{Point}
use Rattle.verdict.{proofs.Halts.{exits, goes_on}, specs.{Step.{Step, ◌>>=◌}, declared.step.Tally.{Tally}}}
use Rattle.marks.proofs.judge.Course.pass_stretches.Goals as goal

pub returns-in_err-counted : goal.returns-in_err-counted
returns-in_err-counted c =
    let rest = stretches_by c.args.self.file.now c.args.self.encoding c.args.self.fix c.args.self.asked c.args.self.words.now c.args.self.first (c.loop-left.left - 1) (c.loop-left.at + 11) c.args.end in
    let onward = ap (λ (to : Point). stretch_by c.args.self.file.now c.args.self.encoding c.args.self.fix c.args.self.asked c.args.self.words.now c.args.self.first c.loop-left.at to (points_by
    c.args.self.file.now c.args.self.encoding c.args.self.fix c.args.self.asked c.args.self.words.now c.args.self.first c.loop-left.at) c.loop-left.counted >>= rest) c.end_at-to.ensures
    ∙ stretches_next c.args.self.file.now c.args.self.encoding c.args.self.fix c.args.self.asked c.args.self.words.now c.args.self.first c.loop-left.left c.loop-left.at c.args.end
    c.loop-left.counted c.loop-left-test.true ∙ c.loop-left.invariant.0 in
    exits c.from_residual.result c.in_err-counted.was c.pass_stretch.ensures c.from_residual.ensures.1 rest ∙ onward

pub overflow_add-at : goal.overflow_add-at
overflow_add-at c =
    omega (arith, c.loop-left.invariant.1, c.loop-left-test.true, c.requires)

pub loop-left-preserved : goal.loop-left-preserved
loop-left-preserved c =
    let rest = stretches_by c.args.self.file.now c.args.self.encoding c.args.self.fix c.args.self.asked c.args.self.words.now c.args.self.first (c.loop-left.left - 1) (c.loop-left.at + 11) c.args.end in
    let onward = ap (λ (to : Point). stretch_by c.args.self.file.now c.args.self.encoding c.args.self.fix c.args.self.asked c.args.self.words.now c.args.self.first c.loop-left.at to (points_by
    c.args.self.file.now c.args.self.encoding c.args.self.fix c.args.self.asked c.args.self.words.now c.args.self.first c.loop-left.at) c.loop-left.counted >>= rest) c.end_at-to.ensures
    ∙ stretches_next c.args.self.file.now c.args.self.encoding c.args.self.fix c.args.self.asked c.args.self.words.now c.args.self.first c.loop-left.left c.loop-left.at c.args.end
    c.loop-left.counted c.loop-left-test.true ∙ c.loop-left.invariant.0 in
    (goes_on c.pass_stretch.result c.pass_stretch.ensures c.in_ok-counted.was rest ∙ onward, omega (arith, c.loop-left.invariant.1, c.loop-left-test.true))

pub returns : goal.returns
returns c =
    stretches_done _ _ _ _ _ _ _ _ _ _ (omega (arith, c.loop-left-test.false)) ∙ c.loop-left.invariant.0
