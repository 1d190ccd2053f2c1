-- `index::tiles::tile_of` meets its contract: row and column of the fix's tile.
use Rattle.numbers.proofs.Prelude.{ℕ, ◌+◌, ◌*◌, rules, ap, ◌∙◌, w32, of_z, to_z-of_z, arith}
use Rattle.index.proofs.{Sides.{row_few, column_few}}
use Rattle.index.specs.Tiles.{lift, tile_along}
use Rattle.index.proofs.tiles.tile_of.Goals as goal

pub overflow_mul-result : goal.overflow_mul-result
overflow_mul-result c =
    omega (arith, c.tile_along-row.ensures, row_few c.args.precision c.lift.result)

pub overflow_add-result : goal.overflow_add-result
overflow_add-result c =
    omega (arith, c.tile_along-row.ensures, c.tile_along-column.ensures, row_few c.args.precision c.lift.result, column_few c.args.precision c.lift-2.result)

pub returns : goal.returns
returns c =
    let fix = c.args.fix in
    let lat = c.cast_unsigned.ensures ∙ ap (of_z w32) (to_z-of_z w32 fix.lat.0 (search rules)) in
    let lon = c.cast_unsigned-2.ensures ∙ ap (of_z w32) (to_z-of_z w32 fix.lon.0 (search rules)) in
    let row = c.tile_along-row.ensures ∙ ap (tile_along 5 c.args.precision) (c.lift.ensures ∙ ap (λ (w : ℕ). lift w) lat) in
    let column = c.tile_along-column.ensures ∙ ap (tile_along 6 c.args.precision) (c.lift-2.ensures ∙ ap (λ (w : ℕ). lift w) lon) in (
      (λ i. 64 * row i + column i),
      omega (
        arith,
        c.tile_along-row.ensures,
        c.tile_along-column.ensures,
        row_few c.args.precision c.lift.result,
        column_few
            c.args.precision c.lift-2.result,
      ),
    )
