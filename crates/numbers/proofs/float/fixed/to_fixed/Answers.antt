-- `numbers::float::fixed::to_fixed` meets its contract: the body is the definition, once the factor is known.
use Rattle.numbers.proofs.{Prelude.{rules, sfits_of, Float, binary32, to_signed, mul, div, ap, ◌∙◌, w32, to_z-of_z}}
use Rattle.numbers.specs.Float.{fixed_point}
use Rattle.numbers.proofs.float.fixed.to_fixed.Goals as goal

pub returns : goal.returns
unfolding fixed_point
returns c =
    to_z-of_z w32 c.to_i32.result (sfits_of c.to_i32.type_inv) ∙ c.to_i32.ensures ∙ ap (λ (y : Float). to_signed 31 (mul binary32 (div binary32 c.args.input c.args.scale) y)) c.factor.ensures
