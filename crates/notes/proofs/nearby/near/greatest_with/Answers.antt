-- `notes::nearby::near::greatest_with` meets its contract.
use Rattle.notes.proofs.nearby.{Highest.{only, above, not_above}}
use Rattle.notes.proofs.nearby.near.greatest_with.Goals as goal

pub returns-then-count-eq0 : goal.returns-then-count-eq0
returns-then-count-eq0 c =
    only _ _ _ (record { sfits = c.south-1.given }) c.if-count-eq0.true

pub returns-then-greatest-south : goal.returns-then-greatest-south
returns-then-greatest-south c =
    above _ _ _ (record { sfits = c.south-1.given }) c.if-count-eq0.false c.ranges.greatest c.if-greatest-south.true

pub returns : goal.returns
returns c =
    not_above _ _ _ (record { sfits = c.south-1.given }) c.if-count-eq0.false c.ranges.greatest c.if-greatest-south.false
