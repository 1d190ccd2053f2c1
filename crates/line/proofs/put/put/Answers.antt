-- `line::put::put` meets its contract.
use Rattle.numbers.proofs.Prelude.{rules, arith}
use Rattle.line.proofs.{Puts.{put_past, put_far}}
use Rattle.line.proofs.put.put.Goals as goal

pub returns-then-at-out : goal.returns-then-at-out
returns-then-at-out c =
    record { place_after = omega (arith, c.if-at-out.true); stored = search rules }

pub returns-then-at-lt18446744073709551615 : goal.returns-then-at-lt18446744073709551615
returns-then-at-lt18446744073709551615 c =
    put_past _ _ _ c.if-at-out.false (omega (arith, c.if-at-lt18446744073709551615.true))

pub returns : goal.returns
returns c =
    put_far _ _ _ c.if-at-out.false (omega (arith, c.if-at-lt18446744073709551615.false))
