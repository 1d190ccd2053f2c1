-- `localtime::found::same_found` meets its contract.
use Rattle.numbers.proofs.Prelude.{◌∙◌, arith}
use Rattle.localtime.proofs.found.{Ways.{other_offset, other_daylight, other_length, same_so_far}}
use Rattle.localtime.proofs.found.same_found.Goals as goal

pub returns-then-a-b : goal.returns-then-a-b
returns-then-a-b c =
    other_offset _ _ _ c.if-a-b.true

pub returns-then-a-b-2 : goal.returns-then-a-b-2
returns-then-a-b-2 c =
    other_daylight _ _ _ c.if-a-b.false c.if-a-b-2.true

pub returns-then-a-b-3 : goal.returns-then-a-b-3
returns-then-a-b-3 c =
    other_length _ _ _ c.if-a-b.false c.if-a-b-2.false c.if-a-b-3.true

pub same_octets-requires : goal.same_octets-requires
same_octets-requires c =
    let told = c.requires.0.held in
    let told-2 = c.requires.1.held in
    omega (arith, told, told-2, c.if-a-b-3.false)

pub returns : goal.returns
returns c =
    c.same_octets.ensures ∙ same_so_far _ _ _ c.if-a-b.false c.if-a-b-2.false c.if-a-b-3.false (omega (arith, c.if-a-b-3.false))
