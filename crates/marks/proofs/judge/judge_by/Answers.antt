-- `marks::judge::judge_by` meets its contract, by the tests that led to each answer.
use Rattle.numbers.proofs.Prelude.{sym, ◌∙◌}
use Rattle.marks.proofs.judge.{Turns.{from_same, from_near, from_least}}
use Rattle.marks.proofs.judge.judge_by.Goals as goal

pub returns-then-least-near : goal.returns-then-least-near
returns-then-least-near c =
    c.judge_from.ensures ∙ from_same c.args.file.now c.args.encoding c.args.words.now c.args.at c.args.lat c.args.lon c.args.asked c.args.least
    c.near_by-near.ensures c.if-least-near.true

pub returns-then-is_below : goal.returns-then-is_below
returns-then-is_below c =
    from_near c.args.file.now c.args.encoding c.args.words.now c.args.at c.args.lat c.args.lon c.args.asked c.args.least c.near_by-near.ensures
    c.judge_from-judged.ensures (sym c.is_below.ensures ∙ c.if-is_below.true)

pub returns : goal.returns
returns c =
    c.judge_from-2.ensures ∙ from_least c.args.file.now c.args.encoding c.args.words.now c.args.at c.args.lat c.args.lon c.args.asked c.args.least
    c.near_by-near.ensures c.judge_from-judged.ensures (sym c.is_below.ensures ∙ c.if-is_below.false)
