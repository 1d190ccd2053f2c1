-- `tzrule::summer::close_of` meets its contract.
use Rattle.tzrule.proofs.{Guess.{close_next, close_same}}
use Rattle.tzrule.proofs.summer.close_of.Goals as goal

pub returns-then-end-start_of : goal.returns-then-end-start_of
returns-then-end-start_of c =
    close_next _ _ c.end_of-end.ensures c.start_of.ensures c.if-end-start_of.true c.end_of.ensures

pub returns : goal.returns
returns c =
    close_same _ _ c.end_of-end.ensures c.start_of.ensures c.if-end-start_of.false
