-- `request::fraction::nearest_to` meets its contract.
use Rattle.numbers.proofs.Prelude.{◌∙◌, arith}
use Rattle.request.proofs.{Quotients.{nearest_zero, nearest_minus, nearest_plus}}
use Rattle.request.proofs.fraction.nearest_to.Goals as goal

pub returns-then-num-eq0 : goal.returns-then-num-eq0
returns-then-num-eq0 c =
    c.of_bits.ensures ∙ nearest_zero c.args.minus c.args.num c.args.den c.if-num-eq0.true

pub returns-then-minus : goal.returns-then-minus
returns-then-minus c =
    nearest_minus c.args.minus c.args.num c.args.den c.if-num-eq0.false c.nearest_fraction-size.ensures c.if-minus.true

pub returns : goal.returns
returns c =
    nearest_plus c.args.minus c.args.num c.args.den c.if-num-eq0.false c.nearest_fraction-size.ensures c.if-minus.false
