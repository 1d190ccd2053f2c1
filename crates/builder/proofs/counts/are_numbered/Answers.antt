-- `builder::counts::are_numbered` meets its contract.
use Rattle.builder.proofs.{Counting.{numbers_start, number_bad, number_good, numbers_end}}
use Rattle.builder.proofs.counts.are_numbered.Goals as goal

pub returns-then-names-yard : goal.returns-then-names-yard
returns-then-names-yard c =
    number_bad c.args.names c.args.yards.now _ _ c.loop-yard.invariant _ _ c.in-Some.ensures.steps.1.0 c.in-Some.ensures.steps.1.1 c.if-names-yard.true

pub loop-yard-preserved : goal.loop-yard-preserved
loop-yard-preserved c =
    number_good c.args.names c.args.yards.now _ _ c.loop-yard.invariant _ _ c.in-Some.ensures.steps.1.0 c.in-Some.ensures.steps.1.1 c.if-names-yard.false _ c.in-Some.ensures.steps.0

pub returns : goal.returns
returns c =
    numbers_end c.args.names c.args.yards.now _ _ c.loop-yard.invariant c.in-None.ensures.steps.1.0
