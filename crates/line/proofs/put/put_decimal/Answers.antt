-- `line::put::put_decimal` meets its contract.
use Rattle.numbers.proofs.Prelude.{◌∙◌, arith}
use Rattle.line.proofs.{Decimals.{in_digits}, Puts.{put_as}}
use Rattle.line.proofs.put.put_decimal.Goals as goal

pub returns : goal.returns
returns c =
    put_as (c.decimal-size.ensures.digits ∙ in_digits c.args.n c.decimal-size.result (omega (arith, c.ranges.n)) c.decimal-size.ensures.len) c.put_all.ensures
