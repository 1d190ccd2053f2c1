-- `tzrule::ask::in_years` meets its contract.
use Rattle.tzrule.proofs.ask.{Ways.{too_early, not_early}}
use Rattle.tzrule.proofs.ask.in_years.Goals as goal

pub returns-then-u-lt9223371974719179008 : goal.returns-then-u-lt9223371974719179008
returns-then-u-lt9223371974719179008 c =
    too_early _ c.if-u-lt9223371974719179008.true

pub returns : goal.returns
returns c =
    not_early _ c.if-u-lt9223371974719179008.false
