-- `request::sentence::field_start` meets its contract.
use Rattle.numbers.proofs.Prelude.{ℕ, ◌+◌, ◌-◌, ◌≡◌, drop, ap, ◌∙◌, arith}
use Rattle.request.specs.Text.{behind}
use Rattle.request.proofs.{Replied.{start_on, start_end, start_here}}
use Rattle.request.proofs.sentence.field_start.Goals as goal

pub returns-then-comma-body : goal.returns-then-comma-body
returns-then-comma-body c = (
  start_end c.args.body.now c.loop.at c.find-comma.result (c.args.n - c.loop.counter) c.find-comma.ensures.0 (omega (arith, c.loop-test.true)) c.if-comma-body.true
      ∙ c.loop.invariant.0,
  c.find-comma.ensures.1,
)

pub loop-preserved : goal.loop-preserved
loop-preserved c = (
  ap (λ (k : ℕ). behind k (drop (c.find-comma.result + 1) c.args.body.now)) (let e : c.args.n - (c.loop.counter + 1) ≡ c.args.n - c.loop.counter - 1 = omega arith in e)
      ∙ start_on c.args.body.now c.loop.at c.find-comma.result (c.args.n - c.loop.counter) c.find-comma.ensures.0 (omega (arith, c.loop-test.true))
      ∙ c.loop.invariant.0,
  (let h = c.if-comma-body.false in omega (arith, c.find-comma.ensures.1)),
)

pub returns : goal.returns
returns c =
    (start_here (drop c.loop.at c.args.body.now) (c.args.n - c.loop.counter) (omega arith) ∙ c.loop.invariant.0, c.loop.invariant.1)
