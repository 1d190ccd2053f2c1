-- `request::degrees::limited` meets its contract.
use Rattle.numbers.{proofs.Prelude.{ap, ◌∙◌, mul-le-mul_right, arith}, specs.Reply.{refused}}
use Rattle.request.proofs.{Numerals.{limit_over, limit_in, small_size}}
use Rattle.request.specs.Told.{IsSize}
use Rattle.request.proofs.degrees.limited.Goals as goal

pub returns : goal.returns
unfolding IsSize
returns c = (
  limit_in c.args.limit c.args.num c.args.den c.args.place c.if-limit-den.false,
  (
    c.requires.0,
    small_size c.args.limit c.args.num c.args.den c.requires.0
        c.requires.2 c.if-limit-den.false,
  ),
)
