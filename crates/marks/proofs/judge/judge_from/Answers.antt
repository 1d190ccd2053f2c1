-- `marks::judge::judge_from` meets its contract, by the tests that led to each answer.
use Rattle.numbers.proofs.Prelude.{rules, refl, sym, ap, ◌∙◌, arith}
use Rattle.marks.proofs.judge.{Turns.{from_none, from_vertex, from_groups}}
use Rattle.verdict.specs.{Step.{Step}, Verdict.{closed_at, then_on}, declared.step.Tally.{Tally}}
use Rattle.marks.proofs.judge.judge_from.Goals as goal

pub returns-in_default : goal.returns-in_default
returns-in_default c =
    from_none _ _ _ _ _ _ _ 0 (c.count_at.ensures.none c.in_default.is) refl

pub returns-then-same_point : goal.returns-then-same_point
returns-then-same_point c =
    let counted = rw c.in-Some.is at c.count_at.ensures.some in
    c.on_border.ensures ∙ from_vertex _ _ _ _ _ _ _ c.in-Some.count counted.1 counted.0
    c.point_at-first.ensures (sym c.same_point.ensures ∙ c.if-same_point.true)

pub returns : goal.returns
returns c =
    let counted = rw c.in-Some.is at c.count_at.ensures.some in
    c.answer.ensures ∙ ap (λ (m : Step Tally). then_on c.args.asked c.args.least m (closed_at c.args.asked)) c.pass_groups-passed.ensures
    ∙ from_groups _ _ _ _ _ _ _ c.in-Some.count counted.1 counted.0 c.point_at-first.ensures (sym
    c.same_point.ensures ∙ c.if-same_point.false)
