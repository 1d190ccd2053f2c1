-- `header::utf8::is_utf8` meets its contract.
use Rattle.header.proofs.utf8.{Octets.{starts, goes, fails, ends}}
use Rattle.header.proofs.utf8.is_utf8.Goals as goal

pub loop-byte-init : goal.loop-byte-init
loop-byte-init c =
    starts _

pub returns-in_default : goal.returns-in_default
returns-in_default c =
    fails c.loop-byte.invariant c.loop-byte-test.true c.follow.result c.follow.ensures c.in_default.is

pub loop-byte-preserved : goal.loop-byte-preserved
loop-byte-preserved c =
    goes c.loop-byte.invariant c.loop-byte-test.true c.follow.result c.follow.ensures c.in-Some.is

pub returns : goal.returns
returns c =
    ends c.loop-byte.invariant c.loop-byte-test.false
