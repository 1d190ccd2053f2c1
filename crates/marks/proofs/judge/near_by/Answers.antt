-- `marks::judge::near_by` meets its contract, by the tests that led to each answer.
use Rattle.numbers.proofs.Prelude.{ℕ, ◌+◌, rules, sym, ap, ◌∙◌, arith}
use Rattle.marks.proofs.judge.{Turns.{nearest_done}}
use Rattle.marks.specs.Judging.{count_in, nearest_of}
use Rattle.marks.proofs.judge.near_by.Goals as goal

pub returns-in-None : goal.returns-in-None
returns-in-None c =
    rw c.if-not-asked.false (nearest_done c.args.words.now c.args.fix (count_in c.args.words.now c.args.at) (c.args.at + 1) c.args.least (sym
    (c.count_at.ensures.none c.in-None.is)))
