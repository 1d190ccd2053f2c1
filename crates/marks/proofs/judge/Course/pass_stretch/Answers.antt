-- `marks::judge::Course::pass_stretch` meets its contract, by whether it may be passed as its one edge.
use Rattle.marks.proofs.judge.{Turns.{stretch_passed, stretch_entered, points_read}}
use Rattle.marks.specs.Judging.{points_by}
use Rattle.marks.proofs.judge.Course.pass_stretch.Goals as goal

pub returns-then-is_passed : goal.returns-then-is_passed
returns-then-is_passed c =
    stretch_passed c.args.self.file.now c.args.self.encoding c.args.self.fix c.args.self.asked c.args.self.words.now c.args.self.first c.args.at c.args.to (points_by c.args.self.file.now
    c.args.self.encoding c.args.self.fix c.args.self.asked c.args.self.words.now c.args.self.first c.args.at) c.args.tally c.is_passed.ensures c.if-is_passed.true c.point_at-from.ensures
    c.leap.ensures

pub returns : goal.returns
returns c =
    stretch_entered c.args.self.file.now c.args.self.encoding c.args.self.fix c.args.self.asked c.args.self.words.now c.args.self.first c.args.at c.args.to (points_by c.args.self.file.now
    c.args.self.encoding c.args.self.fix c.args.self.asked c.args.self.words.now c.args.self.first c.args.at) c.args.tally c.is_passed.ensures c.if-is_passed.false (points_read
    c.args.self.file.now c.args.self.encoding c.args.self.fix c.args.self.asked c.args.self.words.now c.args.self.first c.args.at c.args.tally c.state_at-start.ensures c.pass_edges.ensures)
