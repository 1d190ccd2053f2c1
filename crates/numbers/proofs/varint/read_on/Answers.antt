-- `numbers::varint::read_on` meets its contract.
use Rattle.numbers.proofs.{Prelude.{rules}, varint.{Short.{closed_so, closed_not, three_short, three_none, four_short, four_none}}}
use Rattle.numbers.proofs.varint.read_on.Goals as goal

pub returns-then-closes : goal.returns-then-closes
returns-then-closes c =
    let last = closed_so c.closes.ensures c.if-closes.true in three_short (c.args.file.now) c.args.place c.requires c.from-high.ensures last.1 last.0

pub returns-then-high-lt128 : goal.returns-then-high-lt128
returns-then-high-lt128 c =
    let last = c.if-high-lt128.true in three_none (c.args.file.now) c.args.place c.requires c.from-high.ensures last (closed_not c.closes.ensures c.if-closes.false last)

pub returns-then-closes-2 : goal.returns-then-closes-2
returns-then-closes-2 c =
    let last = closed_so c.closes-2.ensures c.if-closes-2.true in four_short (c.args.file.now) c.args.place c.requires c.from-high.ensures c.if-high-lt128.false c.from-top.ensures last.1 last.0

pub returns : goal.returns
returns c =
    four_none (c.args.file.now) c.args.place c.requires c.from-high.ensures c.if-high-lt128.false c.from-top.ensures (closed_not c.closes-2.ensures c.if-closes-2.false)
