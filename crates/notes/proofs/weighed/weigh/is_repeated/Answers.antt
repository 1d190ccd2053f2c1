-- `notes::weighed::weigh::is_repeated` meets its contract.
use Rattle.numbers.proofs.Prelude.{arith}
use Rattle.notes.proofs.weighed.{Repeated.{repeat_starts, repeat_found, repeat_goes, repeat_ends}}
use Rattle.notes.proofs.weighed.weigh.is_repeated.Goals as goal

pub loop-i-init : goal.loop-i-init
loop-i-init c =
    repeat_starts _ _ _ _ c.requires.1

pub same_items-requires : goal.same_items-requires
same_items-requires c =
    (c.requires.0, omega (arith, c.requires.0, c.loop-i-test.true))

pub returns-then-same_items : goal.returns-then-same_items
returns-then-same_items c =
    repeat_found _ _ _ _ _ c.loop-i.invariant c.loop-i-test.true _ c.same_items.ensures c.if-same_items.true

pub loop-i-preserved : goal.loop-i-preserved
loop-i-preserved c =
    repeat_goes _ _ _ _ _ c.loop-i.invariant c.loop-i-test.true _ c.same_items.ensures c.if-same_items.false

pub returns : goal.returns
returns c =
    repeat_ends _ _ _ _ _ c.loop-i.invariant c.loop-i-test.false
