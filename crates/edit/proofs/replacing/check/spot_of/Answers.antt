-- `edit::replacing::check::spot_of` meets its contract.
use Rattle.numbers.proofs.Prelude.{length-take-le, sym, arith}
use Rattle.edit.proofs.replacing.{Spots.{spot_is}}
use Rattle.edit.proofs.replacing.check.spot_of.Goals as goal

pub slice_bounds-place_behind-end : goal.slice_bounds-place_behind-end
slice_bounds-place_behind-end c =
    sym (length-take-le _ _ (omega (arith, c.requires.0)))

pub place_behind-place-requires : goal.place_behind-place-requires
place_behind-place-requires c =
    omega (arith, length-take-le c.args.index c.args.lengths.now (omega (arith, c.requires.0)), c.requires.1)

pub overflow_cast-from : goal.overflow_cast-from
overflow_cast-from c =
    omega (arith, c.type_inv.lengths c.args.index)

pub overflow_add-from : goal.overflow_add-from
overflow_add-from c =
    omega (arith, c.place_behind-place.ensures.1, c.type_inv.lengths c.args.index)

pub returns : goal.returns
returns c =
    (spot_is _ _ _ c.place_behind-place.ensures.0, omega (arith, c.place_behind-place.ensures.1, c.type_inv.lengths c.args.index))
