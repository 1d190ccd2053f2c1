-- `tzrule::ask::ask_at` meets its contract.
use Rattle.tzrule.specs.Ask.{corrected}
use Rattle.tzrule.proofs.ask.{Ways.{far_before, far_after}}
use Rattle.tzrule.proofs.ask.ask_at.Goals as goal

pub returns-then-instant-lt9223371900000000000 : goal.returns-then-instant-lt9223371900000000000
returns-then-instant-lt9223371900000000000 c =
    far_before _ _ _ c.requires.1 c.if-instant-lt9223371900000000000.true

pub returns-then-instant-gt9223373000000000000 : goal.returns-then-instant-gt9223373000000000000
returns-then-instant-gt9223373000000000000 c =
    far_after _ _ _ c.requires.1 c.if-instant-gt9223373000000000000.true

pub returns : goal.returns
unfolding corrected
returns c =
    c.ask_in_years.ensures
