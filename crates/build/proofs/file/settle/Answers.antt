-- `build::file::settle` meets its contract.
use Rattle.numbers.proofs.Prelude.{sym, ◌∙◌}
use Rattle.build.proofs.{Needed.{settle_given, settle_refused}}
use Rattle.build.proofs.file.settle.Goals as goal

pub returns-then-is_err : goal.returns-then-is_err
returns-then-is_err c =
    settle_refused _ (sym c.is_err.ensures.value ∙ c.if-is_err.true) _ _ (c.fill.ensures.after (λ y h. h))

pub returns-else-is_err : goal.returns-else-is_err
returns-else-is_err c =
    settle_given _ (sym c.is_err.ensures.value ∙ c.if-is_err.false) _
