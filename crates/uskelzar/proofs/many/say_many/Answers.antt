-- `uskelzar::many::say_many` meets its contract.
use Rattle.numbers.proofs.Prelude.{sym, ap}
use Rattle.batch.specs.{Many.{told_many}, declared.many.{Totals.{Totals}, Stop.{Stop}}}
use Rattle.std.specs.Prelude.{Result}
use Rattle.uskelzar.specs.Many.{many_said}
use Rattle.uskelzar.proofs.many.say_many.Goals as goal

pub returns-in-Ok : goal.returns-in-Ok
unfolding many_said
returns-in-Ok c =
    sym (ap (λ (m : Result Totals Stop). many_said (told_many m)) c.in-Ok.is)

pub returns-in-Err : goal.returns-in-Err
unfolding many_said
returns-in-Err c =
    sym (ap (λ (m : Result Totals Stop). many_said (told_many m)) c.in-Err.is)
