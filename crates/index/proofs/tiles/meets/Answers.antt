-- `index::tiles::meets` meets its contract.
use Rattle.numbers.proofs.Prelude.{sym, ◌∙◌}
use Rattle.index.specs.Tiles.{meets}
use Rattle.index.proofs.{Sides.{and_first, and_rest}}
use Rattle.index.proofs.tiles.meets.Goals as goal

pub returns-then-is_met : goal.returns-then-is_met
unfolding meets
returns-then-is_met c =
    let is = rw (c.lift.ensures, c.lift-2.ensures) at (sym c.is_met.ensures ∙ c.if-is_met.true) in
    rw (c.lift-then-is_met.ensures, c.lift-then-is_met-2.ensures) at c.is_met-then-is_met.ensures ∙ and_rest _ _ is

pub returns : goal.returns
unfolding meets
returns c =
    let is = rw (c.lift.ensures, c.lift-2.ensures) at (sym c.is_met.ensures ∙ c.if-is_met.false) in
    and_first _ _ is
