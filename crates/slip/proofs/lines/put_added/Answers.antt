-- `slip::lines::put_added` meets its contract.
use Rattle.numbers.proofs.Prelude.{sym, ◌∙◌}
use Rattle.line.proofs.Puts.{put_as, put_none, put_then}
use Rattle.slip.proofs.{Zones.{added_none, added_some}}
use Rattle.slip.proofs.lines.put_added.Goals as goal

pub returns-then-is_before : goal.returns-then-is_before
returns-then-is_before c =
    put_as (added_none _ _ (sym c.is_before.ensures ∙ c.if-is_before.true)) (put_none _ _)

pub returns : goal.returns
returns c =
    put_as (added_some _ _ (sym c.is_before.ensures ∙ c.if-is_before.false)) (put_then _ _ c.put_between-next.ensures c.put_zone.ensures)
