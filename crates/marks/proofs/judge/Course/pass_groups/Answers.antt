-- `marks::judge::Course::pass_groups` meets its contract. The loop's invariant: what is left, passed from where it has come to, is what the whole gives.
use Rattle.numbers.proofs.Prelude.{ℕ, ◌+◌, ◌-◌, ◌*◌, min, ◌≡◌, refl, ap, ◌∙◌, arith}
use Rattle.marks.proofs.judge.{Turns.{groups_done, groups_next}}
use Rattle.marks.specs.{Judging.{groups_by}, Marks.{group_wide}}
use Rattle.verdict.{proofs.Halts.{exits, goes_on}, specs.{Step.{Step, ◌>>=◌}, declared.step.Tally.{Tally}}}
use Rattle.marks.proofs.judge.Course.pass_groups.Goals as goal

few_is : (left : ℕ) {few : ℕ} → few ≡ min left 16 → few ≡ min group_wide left
unfolding group_wide
few_is left e = omega (arith, e)

pub returns-in_err-counted : goal.returns-in_err-counted
returns-in_err-counted c =
    let few = c.min-few.result in
    let rest = groups_by c.args.self.file.now c.args.self.encoding c.args.self.fix c.args.self.asked c.args.self.words.now c.args.self.first (c.loop-groups.groups - 1) (c.loop-groups.at + 11) (c.loop-groups.left - few) (c.loop-groups.fine + few * 11) in
    let onward = groups_next c.args.self.file.now c.args.self.encoding c.args.self.fix c.args.self.asked c.args.self.words.now c.args.self.first c.loop-groups.groups c.loop-groups.at c.loop-groups.left c.loop-groups.fine c.loop-groups.counted c.loop-groups-test.true
    (few_is c.loop-groups.left c.min-few.ensures) c.end_at-to.ensures ∙ c.loop-groups.invariant.0 in
    exits c.from_residual.result c.in_err-counted.was c.pass_group.ensures c.from_residual.ensures.1 rest ∙ onward
    ∙ ap (λ (g : ℕ). groups_by c.args.self.file.now c.args.self.encoding c.args.self.fix c.args.self.asked c.args.self.words.now c.args.self.first g (c.args.place + c.args.count * 11)
    c.args.count c.args.place c.args.tally) c.groups_of-groups.ensures

pub loop-groups-preserved : goal.loop-groups-preserved
loop-groups-preserved c =
    let few = c.min-few.result in
    let rest = groups_by c.args.self.file.now c.args.self.encoding c.args.self.fix c.args.self.asked c.args.self.words.now c.args.self.first (c.loop-groups.groups - 1) (c.loop-groups.at + 11) (c.loop-groups.left - few) (c.loop-groups.fine + few * 11) in
    let onward = groups_next c.args.self.file.now c.args.self.encoding c.args.self.fix c.args.self.asked c.args.self.words.now c.args.self.first c.loop-groups.groups c.loop-groups.at c.loop-groups.left c.loop-groups.fine c.loop-groups.counted c.loop-groups-test.true
    (few_is c.loop-groups.left c.min-few.ensures) c.end_at-to.ensures ∙ c.loop-groups.invariant.0 in (
      goes_on c.pass_group.result c.pass_group.ensures c.in_ok-counted.was rest ∙ onward,
      omega (arith, c.loop-groups.invariant.1, c.loop-groups-test.true),
      omega (arith, c.loop-groups.invariant.2, c.min-few.ensures),
    )

pub returns : goal.returns
returns c =
    groups_done _ _ _ _ _ _ _ _ _ _ _ (omega (arith, c.loop-groups-test.false)) ∙ c.loop-groups.invariant.0
    ∙ ap (λ (g : ℕ). groups_by c.args.self.file.now c.args.self.encoding c.args.self.fix c.args.self.asked c.args.self.words.now c.args.self.first g (c.args.place + c.args.count * 11)
    c.args.count c.args.place c.args.tally) c.groups_of-groups.ensures
