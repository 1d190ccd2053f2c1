-- `index::tiles::tile_along` meets its contract, by where the coordinate stands.
use Rattle.numbers.proofs.Prelude.{arith}
use Rattle.index.proofs.{Sides.{before_grid, beyond_grid, in_grid}}
use Rattle.index.proofs.tiles.tile_along.Goals as goal

pub returns-then-x-grid : goal.returns-then-x-grid
returns-then-x-grid c =
    before_grid c.args.power c.args.precision c.args.x (omega (arith, c.if-x-grid.true, c.power_of_two-grid.ensures))

pub returns-then-last-tile : goal.returns-then-last-tile
returns-then-last-tile c =
    beyond_grid c.args.power c.args.precision c.args.x c.power_of_two-grid.ensures c.power_of_two-last.ensures c.more_than.ensures c.if-last-tile.true

pub returns : goal.returns
returns c =
    in_grid c.args.power c.args.precision c.args.x c.power_of_two-grid.ensures c.power_of_two-last.ensures c.more_than.ensures c.if-last-tile.false
