-- `build::draw::draw_nothing` meets its contract.
use Rattle.numbers.proofs.Prelude.{arith}
use Rattle.build.proofs.{Nothing.{nothing_drawn}}
use Rattle.build.proofs.draw.draw_nothing.Goals as goal

pub returns : goal.returns
returns c =
    nothing_drawn _ _ _ _ _ c.requires _ _ c.draw_yard.ensures
