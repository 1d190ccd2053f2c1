-- `atlas::own::end_of` meets its contract.
use Rattle.numbers.proofs.Prelude.{◌∙◌, arith}
use Rattle.atlas.proofs.{Owned.{end_short, end_long, end_there}}
use Rattle.atlas.proofs.own.end_of.Goals as goal

pub returns-then-words-lt-RECORDS_AT : goal.returns-then-words-lt-RECORDS_AT
returns-then-words-lt-RECORDS_AT c =
    (end_short c.args.words.now c.if-words-lt-RECORDS_AT.true, omega arith, omega arith)

pub returns-then-words-end : goal.returns-then-words-end
returns-then-words-end c =
    (end_long c.args.words.now (omega (arith, c.if-words-lt-RECORDS_AT.false)) (omega (arith, c.if-words-end.true, c.wide-end.ensures.0)), omega arith, omega arith)

pub returns : goal.returns
returns c = (
  c.wide-end.ensures.0 ∙ end_there c.args.words.now (omega (arith, c.if-words-lt-RECORDS_AT.false)) (omega (arith, c.if-words-end.false, c.wide-end.ensures.0)),
  omega (arith, c.if-words-end.false),
  c.wide-end.ensures.1,
)
