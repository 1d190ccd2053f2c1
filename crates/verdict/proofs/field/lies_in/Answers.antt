-- `verdict::field::lies_in` meets its contract: the two tests decide as the definition does.
use Rattle.numbers.proofs.{Prelude.{rules, w32, w64, SFits}, write.Gaps.{widened, widens}}
use Rattle.std.proofs.Common.{to_z-of_z}
use Rattle.verdict.proofs.{Gliding.{in_span_lem, not_in_span}}
use Rattle.verdict.proofs.field.lies_in.Goals as goal

pub returns-then-span-x : goal.returns-then-span-x
returns-then-span-x c =
    let x = to_z-of_z {w = w64} c.ranges.x in
    let low : SFits w32 c.args.span.low = search rules in
    let high : SFits w32 c.args.span.high = search rules in
    let above = rw (widened low, x) at c.if-span-x.true in
    rw (widened high, x) (in_span_lem c.args.span c.args.x low high above)

pub returns-else-span-x : goal.returns-else-span-x
returns-else-span-x c =
    let x = to_z-of_z {w = w64} c.ranges.x in
    let low : SFits w32 c.args.span.low = search rules in
    let above = rw (widened low, x) at c.if-span-x.false in
    rw (widened low, x, above) (not_in_span c.args.span c.args.x above)
