-- `marks::judge::can_pass` meets its contract, by its tests.
use Rattle.numbers.proofs.Prelude.{sym, ◌∙◌}
use Rattle.marks.specs.Judging.{can_pass}
use Rattle.marks.proofs.judge.can_pass.Goals as goal

pub returns-then-in_box : goal.returns-then-in_box
unfolding can_pass
returns-then-in_box c =
    rw (sym c.in_box.ensures ∙ c.if-in_box.true)

pub returns-then-not-asked : goal.returns-then-not-asked
unfolding can_pass
returns-then-not-asked c =
    rw (sym c.in_box.ensures ∙ c.if-in_box.false, c.if-not-asked.true)

pub returns-else-not-asked : goal.returns-else-not-asked
unfolding can_pass
returns-else-not-asked c =
    rw (sym c.in_box.ensures ∙ c.if-in_box.false, c.if-not-asked.false) c.is_afar.ensures
