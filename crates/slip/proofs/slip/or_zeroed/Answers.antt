-- `slip::slip::or_zeroed` meets its contract.
use Rattle.numbers.proofs.Prelude.{sym, ◌∙◌}
use Rattle.slip.proofs.{Stamps.{zeroed, kept}}
use Rattle.slip.proofs.slip.or_zeroed.Goals as goal

pub returns-then-is_err : goal.returns-then-is_err
returns-then-is_err c =
    zeroed _ _ _ c.args.answer (sym c.is_err.ensures.value ∙ c.if-is_err.true) c.zero_both.ensures.0 c.zero_both.ensures.1 c.zero.ensures

pub returns-else-is_err : goal.returns-else-is_err
returns-else-is_err c =
    kept _ _ _ c.args.answer (sym c.is_err.ensures.value ∙ c.if-is_err.false)
