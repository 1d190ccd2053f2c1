-- `numbers::varint::read_long` meets its contract: the loop keeps `Reading`, and each way out is a case of `forward_at`.
use Rattle.numbers.proofs.{Prelude.{◌+◌, ◌*◌, ◌<◌, ◌≡◌, length, add-zero, arith}, varint.{Reading.{begun, eleventh, finished, further, rest_at, rest_length, counted, ended_at}}}
use Rattle.numbers.proofs.varint.read_long.Goals as goal

pub returns-then-count-eq10 : goal.returns-then-count-eq10
returns-then-count-eq10 c =
    eleventh c.loop-count.invariant (omega (arith, c.if-count-eq10.true)) (omega (arith, rest_length c.args.file.now c.args.place, c.loop-count-test.true))

pub returns-then-byte-lt128 : goal.returns-then-byte-lt128
returns-then-byte-lt128 c =
    let spot = rest_at c.args.file.now c.args.place c.loop-count.count in
    let here : c.args.place + c.loop-count.count < length c.args.file.now = omega (arith, rest_length c.args.file.now c.args.place, c.loop-count-test.true) in
    rw spot (finished c.loop-count.invariant here (omega (arith, c.loop-count.invariant.steps, c.loop-count.invariant.at_most, c.if-count-eq10.false)) (rw spot at c.if-byte-lt128.true))

pub loop-count-preserved : goal.loop-count-preserved
loop-count-preserved c =
    let spot = rest_at c.args.file.now c.args.place c.loop-count.count in
    let here : c.args.place + c.loop-count.count < length c.args.file.now = omega (arith, rest_length c.args.file.now c.args.place, c.loop-count-test.true) in
    rw spot (counted (further c.loop-count.invariant here (omega (arith, c.loop-count.invariant.at_most, c.if-count-eq10.false)) (rw spot at c.if-byte-lt128.false)) (omega arith) (omega arith))

pub returns : goal.returns
returns c =
    ended_at c.loop-count.invariant (omega (arith, rest_length c.args.file.now c.args.place, c.loop-count-test.false, c.loop-count.invariant.within)) (omega arith)
