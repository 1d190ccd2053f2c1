-- `localtime::rule::ask_in` meets its contract.
use Rattle.localtime.proofs.rule.{Ways.{ask_is, asked_held}}
use Rattle.tzrule.proofs.Laws.{tz_is_ruled}
use Rattle.localtime.proofs.rule.ask_in.Goals as goal

pub ask_at-requires : goal.ask_at-requires
ask_at-requires c =
    (tz_is_ruled _ _ c.requires.1, c.correction_at-correction.ensures.fits)

pub returns : goal.returns
returns c =
    (ask_is _ _ _ _ c.correction_at-correction.ensures.same c.ask_at.ensures, asked_held _ _ _ _ c.requires.1 c.ask_at.ensures)
