-- `builder::yards::check_yards` meets its contract.
use Rattle.numbers.proofs.{Prelude.{◌∙◌}, Replies.{passed_on}}
use Rattle.builder.proofs.{Checking.{check_starts, check_refused, check_goes, check_ends}}
use Rattle.builder.proofs.yards.check_yards.Goals as goal

pub returns-in_err-check_part : goal.returns-in_err-check_part
returns-in_err-check_part c =
    passed_on _ c.from_residual.ensures.1 ∙ check_refused c.args.yards.now c.args.lats.now c.args.lons.now _ _ c.loop-yard.lat c.loop-yard.lon c.loop-yard.invariant _ _
    c.in-Some.ensures.steps.1.0 c.in-Some.ensures.steps.1.1 _ c.check_part.ensures _ c.in_err-check_part.was

pub loop-yard-preserved : goal.loop-yard-preserved
loop-yard-preserved c =
    check_goes c.args.yards.now c.args.lats.now c.args.lons.now _ _ c.loop-yard.lat c.loop-yard.lon c.loop-yard.invariant _ _
    c.in-Some.ensures.steps.1.0 c.in-Some.ensures.steps.1.1 c.check_part.result c.check_part.ensures c.in_ok-check_part.was _ _ c.next_part-lat.ensures c.next_part-lon.ensures _
    c.in-Some.ensures.steps.0

pub returns : goal.returns
returns c =
    check_ends c.args.yards.now c.args.lats.now c.args.lons.now _ _ c.loop-yard.lat c.loop-yard.lon c.loop-yard.invariant c.in-None.ensures.steps.1.0
