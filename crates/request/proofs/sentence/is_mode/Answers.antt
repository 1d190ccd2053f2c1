-- `request::sentence::is_mode` meets its contract.
use Rattle.numbers.proofs.Prelude.{sym, ◌∙◌, arith}
use Rattle.request.proofs.{Replied.{mode_none, mode_long, mode_one}}
use Rattle.request.proofs.sentence.is_mode.Goals as goal

pub returns-in-empty : goal.returns-in-empty
returns-in-empty c =
    mode_none c.args.text.now (omega (arith, c.in-empty.len_below))

pub returns-in-len1 : goal.returns-in-len1
returns-in-len1 c =
    c.is_known.ensures ∙ sym (mode_one c.args.text.now c.in-len1.len_at_least c.in-len1.len_below)

pub returns-in_default : goal.returns-in_default
returns-in_default c =
    mode_long c.args.text.now (omega (arith, c.in_default.len_at_least))
