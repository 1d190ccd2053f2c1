-- `verdict::afar::raise` meets its contract: the number is small.
use Rattle.numbers.proofs.Prelude.{refl, w32, arith}
use Rattle.std.proofs.Common.{to_z-of_z}
use Rattle.verdict.proofs.{AfarBox.{small_lifted}}
use Rattle.verdict.specs.Far.{raised}
use Rattle.verdict.proofs.afar.raise.Goals as goal

pub overflow_add-result : goal.overflow_add-result
overflow_add-result c =
    let x = to_z-of_z {w = w32} c.ranges.x in
    rw x (small_lifted c.args.x c.requires).fits

pub overflow_cast-result : goal.overflow_cast-result
overflow_cast-result c =
    let x = to_z-of_z {w = w32} c.ranges.x in
    let up = small_lifted c.args.x c.requires in
    rw (x, to_z-of_z {w = w32} up.fits) (up.counts, record { fits = omega (arith, up.most) })

pub returns : goal.returns
unfolding raised
returns c =
    let x = to_z-of_z {w = w32} c.ranges.x in
    rw (x, to_z-of_z {w = w32} (small_lifted c.args.x c.requires).fits) refl
