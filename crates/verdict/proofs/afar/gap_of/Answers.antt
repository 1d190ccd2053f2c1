-- `verdict::afar::gap_of` meets its contract, by its two tests.
use Rattle.numbers.proofs.Prelude.{lt-ltb, le-ltb, arith}
use Rattle.verdict.specs.Far.{gap_of}
use Rattle.verdict.proofs.afar.gap_of.Goals as goal

pub returns-then-x-low : goal.returns-then-x-low
unfolding gap_of
returns-then-x-low c =
    rw (lt-ltb c.args.x c.args.low c.if-x-low.true)

pub returns-then-high-x : goal.returns-then-high-x
unfolding gap_of
returns-then-high-x c =
    rw (le-ltb c.args.x c.args.low (omega (arith, c.if-x-low.false)))

pub returns : goal.returns
unfolding gap_of
returns c =
    rw (le-ltb c.args.x c.args.low (omega (arith, c.if-x-low.false))) (omega (arith, c.if-high-x.false))
