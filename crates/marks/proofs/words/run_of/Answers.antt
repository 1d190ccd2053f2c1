-- `marks::words::run_of` meets its contract, by the tests that led to each answer.
use Rattle.numbers.proofs.Prelude.{eq-eqb, ne_eqb}
use Rattle.marks.specs.Words.{run_of}
use Rattle.marks.proofs.words.run_of.Goals as goal

pub returns-then-kind-eq1 : goal.returns-then-kind-eq1
unfolding run_of
returns-then-kind-eq1 c =
    rw (eq-eqb _ 1 c.if-kind-eq1.true)

pub returns-then-kind-eq2 : goal.returns-then-kind-eq2
unfolding run_of
returns-then-kind-eq2 c =
    rw (ne_eqb _ 1 c.if-kind-eq1.false, eq-eqb _ 2 c.if-kind-eq2.true)

pub returns : goal.returns
unfolding run_of
returns c =
    rw (ne_eqb _ 1 c.if-kind-eq1.false, ne_eqb _ 2 c.if-kind-eq2.false)
