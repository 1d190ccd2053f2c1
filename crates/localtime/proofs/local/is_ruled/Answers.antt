-- `localtime::local::is_ruled` meets its contract.
use Rattle.numbers.proofs.Prelude.{◌∙◌}
use Rattle.localtime.proofs.local.{Ways.{no_transitions, after_last}}
use Rattle.localtime.proofs.local.is_ruled.Goals as goal

pub returns-then-block-eq0 : goal.returns-then-block-eq0
returns-then-block-eq0 c =
    no_transitions _ _ _ c.if-block-eq0.true

pub returns : goal.returns
returns c =
    c.is_after_last.ensures ∙ after_last _ _ _ c.if-block-eq0.false
