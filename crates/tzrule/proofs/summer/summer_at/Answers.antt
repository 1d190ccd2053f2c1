-- `tzrule::summer::summer_at` meets its contract.
use Rattle.numbers.proofs.Prelude.{arith}
use Rattle.tzrule.proofs.{Guess.{begun, not_far, answered}, SummerAt.{says_is}}
use Rattle.tzrule.proofs.summer.summer_at.Goals as goal

pub overflow_sub-year : goal.overflow_sub-year
overflow_sub-year c =
    omega (arith, c.requires.1.from)

pub loop-year-init : goal.loop-year-init
loop-year-init c =
    (begun c.args.rule c.requires.0 _ c.args.instant (omega (arith, c.requires.1.from)), omega arith)

pub overflow_add-year : goal.overflow_add-year
overflow_add-year c =
    omega (arith, c.requires.1.to)

pub start_of-requires : goal.start_of-requires
start_of-requires c =
    (omega (arith, c.requires.1.to), c.requires.0)

pub overflow_add-year-in-loop-year : goal.overflow_add-year-in-loop-year
overflow_add-year-in-loop-year c =
    omega (arith, c.requires.1.to)

pub loop-year-smaller : goal.loop-year-smaller
loop-year-smaller c =
    let far = not_far c.args.rule c.requires.0 c.loop-year.year c.args.instant (omega (arith, c.start_of.ensures)) in
    omega arith

pub loop-year-preserved : goal.loop-year-preserved
loop-year-preserved c =
    let far = not_far c.args.rule c.requires.0 c.loop-year.year c.args.instant (omega (arith, c.start_of.ensures)) in
    (omega (arith, c.start_of.ensures), omega arith)

pub close_of-requires : goal.close_of-requires
close_of-requires c =
    (omega (arith, c.requires.1.to), c.requires.0)

pub returns : goal.returns
returns c =
    says_is _ _ c.requires.0 _ (answered _ c.requires.0 _ _ c.loop-year.invariant.0 (omega (arith, c.start_of.ensures)) c.close_of.ensures)
