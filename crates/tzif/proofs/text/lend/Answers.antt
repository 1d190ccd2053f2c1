-- `tzif::text::lend` meets its contract.
use Rattle.numbers.proofs.Prelude.{arith}
use Rattle.tzif.proofs.{Buffers.{lending_length, next_octet, all_lent, nothing_lent}}
use Rattle.tzif.proofs.text.lend.Goals as goal

pub loop-i-init : goal.loop-i-init
loop-i-init c =
    nothing_lent _ _ c.requires

pub overflow_add-i : goal.overflow_add-i
overflow_add-i c =
    omega (arith, lending_length c.loop-i.invariant, c.loop-i-test.true)

pub loop-i-smaller : goal.loop-i-smaller
loop-i-smaller c =
    omega (arith, lending_length c.loop-i.invariant, c.loop-i-test.true)

pub loop-i-preserved : goal.loop-i-preserved
loop-i-preserved c =
    rw c.octet_or_zero.ensures (next_octet c.loop-i.invariant c.loop-i-test.true)

pub shape_of-text : goal.shape_of-text
shape_of-text c =
    lending_length c.loop-i.invariant

pub returns : goal.returns
returns c =
    all_lent c.loop-i.invariant c.loop-i-test.false
