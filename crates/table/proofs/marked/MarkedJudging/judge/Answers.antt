-- `Marked::judge` of `table::marked` meets its contract, by whether there are marks.
use Rattle.numbers.proofs.Prelude.{eq-eqb, ne_eqb, sym, ◌∙◌}
use Rattle.marks.specs.Judging.{judged_by}
use Rattle.table.specs.MarkedRows.{mark_for, judge_marked}
use Rattle.table.proofs.marked.MarkedJudging.judge.Goals as goal

pub returns-then-at-eq0 : goal.returns-then-at-eq0
unfolding judge_marked
returns-then-at-eq0 c =
    let none = eq-eqb (mark_for c.args.self.now.marks.now c.args.k) 0 (sym c.mark_for-at.ensures ∙ c.if-at-eq0.true) in
    λ records e. c.judge.ensures records e ∙ rw none

pub returns : goal.returns
unfolding judge_marked
returns c =
    let some = ne_eqb (mark_for c.args.self.now.marks.now c.args.k) 0 (λ e. c.if-at-eq0.false (c.mark_for-at.ensures ∙ e)) in
    let by = c.args.self.now.unmarked in
    λ records e. c.judge_by.ensures ∙ (λ i. judged_by by.file.now (c.encoding_of-encoding.ensures i) c.args.self.now.marks.now (c.mark_for-at.ensures i) c.args.fix.lat
    c.args.fix.lon by.asked c.args.least) ∙ rw some
