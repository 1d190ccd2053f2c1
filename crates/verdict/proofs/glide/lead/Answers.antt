-- `verdict::glide::lead` meets its contract: the exact sums, held against the field.
use Rattle.numbers.proofs.{Prelude.{rules, ℤ, ◌+ℤ◌, ◌≡◌, sym, ◌∙◌, w32, w64, SFits, of_z, to_z}, write.Gaps.{widened, widens}}
use Rattle.std.proofs.Common.{to_z-of_z}
use mir.Facts.{sfits_widen}
use Rattle.verdict.proofs.{Gliding.{within_of, fits, moved_to}}
use Rattle.verdict.specs.inner.Gliding.{pointed}
use Rattle.border.proofs.place.Whole.{sum_fits}
-- an i32 that is held wide, and a move that is read as an i64
use Rattle.verdict.proofs.glide.lead.Goals as goal

module _ {a b : ℤ} (f : SFits w32 a) (g : SFits w32 b) where
  step_fits : SFits w64 (to_z w64 (of_z w64 a) +ℤ to_z w64 (of_z w64 (to_z w32 (of_z w32 b))))
  step_fits = rw (to_z-of_z {w = w64} (sfits_widen tt f), widened g) (sum_fits f g)

  step_is : to_z w64 (of_z w64 (to_z w64 (of_z w64 a) +ℤ to_z w64 (of_z w64 (to_z w32 (of_z w32 b))))) ≡ a +ℤ b
  step_is = rw (to_z-of_z {w = w64} (sfits_widen tt f), widened g, to_z-of_z {w = w64} (sum_fits f g))

pub returns : goal.returns
returns c =
    let x = c.requires.lat_fits in
    let y : SFits w32 c.args.by.lat = search rules in
    let u = c.requires.lon_fits in
    let v : SFits w32 c.args.by.lon = search rules in
    let lat = rw (step_is x y) at c.lies_in.ensures in
    let lon = rw (step_is u v) at c.lies_in-2.ensures in
    let lat-in = c.if-not-lies_in.false in
    let lon-in = c.if-not-lies_in-2.false in
    let lat_fits = fits (c.args.p.lat +ℤ c.args.by.lat) (lat.1 lat-in) in
    let lon_fits = fits (c.args.p.lon +ℤ c.args.by.lon) (lon.1 lon-in) in
    let inside = within_of c.args.field _ (sym lat.0 ∙ lat-in) (sym lon.0 ∙ lon-in) in
    rw (step_is x y, step_is u v) (moved_to (pointed c.args.p) c.args.by lat_fits lon_fits, inside, record { lat_fits = lat_fits; lon_fits = lon_fits })
