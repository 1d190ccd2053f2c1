-- `numbers::varint::read_short` meets its contract.
use Rattle.numbers.proofs.{Prelude.{rules}, varint.{Short.{on_so, on_not, closed_so, closed_not, one_short, one_none, two_short, two_none}}}
use Rattle.numbers.proofs.varint.read_short.Goals as goal

pub returns-then-closes : goal.returns-then-closes
returns-then-closes c =
    let last = closed_so c.closes.ensures c.if-closes.true in one_short (c.args.file.now) c.args.place c.requires c.from-low.ensures last.1 last.0

pub returns-then-low-lt128 : goal.returns-then-low-lt128
returns-then-low-lt128 c =
    let last = c.if-low-lt128.true in one_none (c.args.file.now) c.args.place c.requires c.from-low.ensures last (closed_not c.closes.ensures c.if-closes.false last)

pub returns-then-closes-2 : goal.returns-then-closes-2
returns-then-closes-2 c =
    let last = closed_so c.closes-2.ensures c.if-closes-2.true in two_short (c.args.file.now) c.args.place c.requires c.from-low.ensures c.if-low-lt128.false c.from-middle.ensures last.1 last.0

pub returns : goal.returns
returns c =
    let more = c.if-low-lt128.false in let last = on_not c.go_on.ensures c.if-go_on.false more in two_none (c.args.file.now) c.args.place c.requires c.from-low.ensures more c.from-middle.ensures last (closed_not c.closes-2.ensures c.if-closes-2.false last)
