-- `tzif::local::is_after_last` meets its contract.
use Rattle.numbers.proofs.Prelude.{lt-ltb, le-ltb, refl, arith}
use Rattle.tzif.proofs.{Widths.{transitions_inside}}
use Rattle.tzif.specs.Local.{is_after_last}
use Rattle.tzif.proofs.local.is_after_last.Goals as goal

pub returns-then-block-eq0 : goal.returns-then-block-eq0
unfolding is_after_last
returns-then-block-eq0 c =
    rw (le-ltb 0 c.args.block.timecnt (omega (arith, c.if-block-eq0.true))) refl

pub time_in-requires : goal.time_in-requires
time_in-requires c =
    rw c.transitions_of.ensures (record { inside = transitions_inside c.requires.within; i_lt_count = omega (arith, c.if-block-eq0.false) })

pub returns : goal.returns
unfolding is_after_last
returns c =
    rw (lt-ltb 0 c.args.block.timecnt (omega (arith, c.if-block-eq0.false)), ← c.transitions_of.ensures, ← c.time_in.ensures) refl
