-- `atlas::own::same_beside` meets its contract. The loop's invariant is `Comparing`.
use Rattle.numbers.{proofs.{Prelude.{sym, ap, ◌∙◌, arith}, Replies.{passed_on}}, specs.Reply.{refused}}
use Rattle.atlas.proofs.{Owned.{one_why, comparing_starts, comparing_other, comparing_on, comparing_ends}}
use Rattle.atlas.proofs.own.same_beside.Goals as goal

pub loop-k-init : goal.loop-k-init
loop-k-init c =
    comparing_starts _ _ _ _ _

pub returns-in_err-at : goal.returns-in_err-at
returns-in_err-at c =
    let other = sym c.in_err-at.was ∙ c.same_one.ensures.0 in
    passed_on _ c.from_residual.ensures.1 ∙ ap refused (one_why _ _ _ other) ∙ comparing_other _ _ _ _ _ c.loop-k.invariant c.loop-k-test.true other

pub loop-k-preserved : goal.loop-k-preserved
loop-k-preserved c =
    comparing_on _ _ _ _ _ c.loop-k.invariant c.loop-k-test.true (sym c.in_ok-at.was ∙ c.same_one.ensures.0) c.same_one.ensures.1

pub returns : goal.returns
returns c =
    comparing_ends _ _ _ _ _ c.loop-k.invariant (omega (arith, c.loop-k-test.false))
