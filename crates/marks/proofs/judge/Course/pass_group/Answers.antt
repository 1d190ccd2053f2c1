-- `marks::judge::Course::pass_group` meets its contract, by whether it may be passed as its one edge.
use Rattle.marks.proofs.judge.{Turns.{stretch_passed, stretch_entered}}
use Rattle.marks.specs.Judging.{stretches_by}
use Rattle.marks.proofs.judge.Course.pass_group.Goals as goal

pub returns-then-is_passed : goal.returns-then-is_passed
returns-then-is_passed c =
    stretch_passed c.args.self.file.now c.args.self.encoding c.args.self.fix c.args.self.asked c.args.self.words.now c.args.self.first c.args.at c.args.to (stretches_by c.args.self.file.now
    c.args.self.encoding c.args.self.fix c.args.self.asked c.args.self.words.now c.args.self.first c.args.few c.args.fine c.args.to) c.args.tally c.is_passed.ensures c.if-is_passed.true
    c.point_at-from.ensures c.leap.ensures

pub returns : goal.returns
returns c =
    stretch_entered c.args.self.file.now c.args.self.encoding c.args.self.fix c.args.self.asked c.args.self.words.now c.args.self.first c.args.at c.args.to (stretches_by c.args.self.file.now
    c.args.self.encoding c.args.self.fix c.args.self.asked c.args.self.words.now c.args.self.first c.args.few c.args.fine c.args.to) c.args.tally c.is_passed.ensures c.if-is_passed.false
    c.pass_stretches.ensures
