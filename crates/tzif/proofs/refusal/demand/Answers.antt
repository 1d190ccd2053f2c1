-- `tzif::refusal::demand` meets its contract.
use Rattle.numbers.proofs.Prelude.{refl}
use Rattle.tzif.specs.Reply.{demand}
use Rattle.tzif.proofs.refusal.demand.Goals as goal

pub returns-then-not-holds : goal.returns-then-not-holds
unfolding demand
returns-then-not-holds c =
    rw c.if-not-holds.true refl

pub returns : goal.returns
unfolding demand
returns c =
    rw c.if-not-holds.false refl
