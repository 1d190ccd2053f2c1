-- `verdict::far::far_span` meets its contract.
use Rattle.numbers.proofs.Prelude.{◌+◌, ◌-◌, arith}
use Rattle.verdict.proofs.{FarFields.{far_above, far_below, sign_above, sign_below}}
use Rattle.verdict.proofs.far.far_span.Goals as goal

pub returns-then-from-lt-ZERO : goal.returns-then-from-lt-ZERO
returns-then-from-lt-ZERO c =
    far_above c.span.result (c.args.fix + c.args.more) 4194304 c.span.ensures.0 c.span.ensures.1 c.args.fix c.args.more (omega (arith)) (sign_below c.span.result
    (c.args.fix + c.args.more) 4194304 c.span.ensures.0 c.span.ensures.1 (omega (arith))) (omega (arith))

pub returns-then-low-lt-ZERO : goal.returns-then-low-lt-ZERO
returns-then-low-lt-ZERO c =
    far_above c.span-then-low-lt-ZERO.result 4194304 8388608 c.span-then-low-lt-ZERO.ensures.0 c.span-then-low-lt-ZERO.ensures.1 c.args.fix c.args.more (omega
    (arith)) (sign_above c.span-then-low-lt-ZERO.result 4194304 8388608 c.span-then-low-lt-ZERO.ensures.0 c.span-then-low-lt-ZERO.ensures.1 (omega (arith)))
    (omega (arith, c.if-low-lt-ZERO.true))

pub returns-then-fix-from : goal.returns-then-fix-from
returns-then-fix-from c =
    far_above c.span-then-fix-from.result (c.args.fix + c.args.more) 8388608 c.span-then-fix-from.ensures.0 c.span-then-fix-from.ensures.1 c.args.fix c.args.more
    (omega (arith)) (sign_above c.span-then-fix-from.result (c.args.fix + c.args.more) 8388608 c.span-then-fix-from.ensures.0 c.span-then-fix-from.ensures.1
    (omega (arith, c.if-low-lt-ZERO.false))) (omega (arith))

pub returns-then-fix-more : goal.returns-then-fix-more
returns-then-fix-more c =
    far_above c.span-then-fix-more.result (c.args.fix + c.args.more) 0 c.span-then-fix-more.ensures.0 c.span-then-fix-more.ensures.1 c.args.fix c.args.more (omega
    (arith)) (sign_below c.span-then-fix-more.result (c.args.fix + c.args.more) 0 c.span-then-fix-more.ensures.0 c.span-then-fix-more.ensures.1 (omega (arith)))
    (omega (arith))

pub returns-then-from-gt-ZERO : goal.returns-then-from-gt-ZERO
returns-then-from-gt-ZERO c =
    far_below c.span-then-from-gt-ZERO.result 4194304 (c.args.fix - c.args.more) c.span-then-from-gt-ZERO.ensures.0 c.span-then-from-gt-ZERO.ensures.1 c.args.fix
    c.args.more (omega (arith, c.requires.0)) (sign_above c.span-then-from-gt-ZERO.result 4194304 (c.args.fix - c.args.more) c.span-then-from-gt-ZERO.ensures.0
    c.span-then-from-gt-ZERO.ensures.1 (omega (arith))) (omega (arith, c.if-fix-more.false))

pub returns-then-high-gt-ZERO : goal.returns-then-high-gt-ZERO
returns-then-high-gt-ZERO c =
    far_below c.span-then-high-gt-ZERO.result 0 4194304 c.span-then-high-gt-ZERO.ensures.0 c.span-then-high-gt-ZERO.ensures.1 c.args.fix c.args.more (omega (arith))
    (sign_below c.span-then-high-gt-ZERO.result 0 4194304 c.span-then-high-gt-ZERO.ensures.0 c.span-then-high-gt-ZERO.ensures.1 (omega (arith))) (omega (
      arith,
      c.if-high-gt-ZERO.true,
      c.if-fix-more.false,
    ))

pub returns : goal.returns
returns c =
    far_below c.span-2.result 0 (c.args.fix - c.args.more) c.span-2.ensures.0 c.span-2.ensures.1 c.args.fix c.args.more (omega (arith, c.requires.0)) (sign_below
    c.span-2.result 0 (c.args.fix - c.args.more) c.span-2.ensures.0 c.span-2.ensures.1 (omega (arith, c.if-high-gt-ZERO.false))) (omega (arith, c.if-fix-more.false))
