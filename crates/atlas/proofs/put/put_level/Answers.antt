-- `atlas::put::put_level` meets its contract. The loop's invariant is `Writing`.
use Rattle.numbers.proofs.Prelude.{ℕ, ◌-◌, ◌+◌, ◌≡◌, arith}
use Rattle.atlas.proofs.{Writing.{Writing, writing_on, writing_done}}
use Rattle.atlas.proofs.put.put_level.Goals as goal

pub loop-preserved : goal.loop-preserved
loop-preserved c =
    let less : c.args.count - c.loop.counter - 1 ≡ c.args.count - (c.loop.counter + 1) = omega arith in
    rw less at (writing_on _ _ _ _ _ _ c.loop.invariant c.span_from-reach.ensures (omega (arith, c.loop-test.true)) (rw c.mark_of.ensures at c.put_all-at.ensures))

pub returns : goal.returns
returns c =
    writing_done _ _ _ _ _ _ c.loop.invariant (omega (arith, c.loop-test.false))
