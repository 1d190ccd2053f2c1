-- `slip::lines::put_between` meets its contract.
use Rattle.numbers.proofs.Prelude.{sym, ap}
use Rattle.line.proofs.Puts.{put_as}
use Rattle.slip.proofs.{Parts.{between_more}}
use Rattle.slip.specs.Line.{between}
use Rattle.slip.proofs.lines.put_between.Goals as goal

pub returns-then-i-eq0 : goal.returns-then-i-eq0
unfolding between
returns-then-i-eq0 c =
    put_as (ap between (sym c.if-i-eq0.true)) c.put.ensures

pub returns : goal.returns
returns c =
    put_as (between_more _ c.if-i-eq0.false) c.put_all.ensures
