-- `atlas::course::stretches_of` meets its contract.
use Rattle.numbers.proofs.Prelude.{lt-ltb, le-ltb, arith}
use Rattle.marks.specs.Marks.{stretches_of, few_edges, stretches_from}
use Rattle.atlas.proofs.course.stretches_of.Goals as goal

pub returns-in_default : goal.returns-in_default
unfolding stretches_from
returns-in_default c =
    rw c.in_default.is

pub returns-then-n-le256 : goal.returns-then-n-le256
unfolding few_edges stretches_from
returns-then-n-le256 c =
    rw (c.in-Some.is, le-ltb _ _ c.if-n-le256.true)

pub returns : goal.returns
unfolding few_edges stretches_from stretches_of
returns c =
    rw (c.in-Some.is, lt-ltb 256 c.in-Some.n (omega (arith, c.if-n-le256.false))) (omega arith)
