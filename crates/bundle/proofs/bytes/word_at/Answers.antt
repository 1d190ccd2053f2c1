-- `bundle::bytes::word_at` meets its contract.
use Rattle.numbers.proofs.Prelude.{arith}
use Rattle.bundle.specs.Bundle.{word_at}
use Rattle.bundle.proofs.bytes.word_at.Goals as goal

pub returns : goal.returns
unfolding word_at
returns c = (
  omega (arith, c.wide-first.ensures.0, c.wide-second.ensures.0, c.wide-third.ensures.0, c.wide-fourth.ensures.0),
  omega (
    arith,
    c.wide-first.ensures.1,
    c.wide-second.ensures.1,
    c.wide-third.ensures.1,
    c.wide-fourth.ensures.1,
  ),
)
