-- `request::clock::full_year` meets its contract.
use Rattle.request.proofs.{Times.{year_new, year_old}}
use Rattle.request.proofs.clock.full_year.Goals as goal

pub returns-then-year-lt80 : goal.returns-then-year-lt80
returns-then-year-lt80 c =
    year_new c.args.year c.if-year-lt80.true

pub returns : goal.returns
returns c =
    year_old c.args.year c.if-year-lt80.false
