-- `verdict::distance::to_segment` meets its contract: what its calls ensure, in the order of the definition.
use Rattle.numbers.{proofs.Prelude.{rules, ltb-true, ◌≡◌, sym, ap, ◌∙◌, w64, of_z, to_z}, specs.Float.{cut64, ◌⊟◌}}
use Rattle.std.proofs.Common.{◌*ℤ◌}
use Rattle.verdict.proofs.{Checks.{checked_found, checked_over}}
use Rattle.verdict.specs.{Distance.{squared, to_segment}, Step.{found}}
use Rattle.verdict.proofs.distance.to_segment.Goals as goal

pub returns-then-not-squarable : goal.returns-then-not-squarable
unfolding squared to_segment
returns-then-not-squarable c =
    let lat = cut64 (c.args.near.lat ⊟ c.args.at.lat) in
    let p : to_z w64 (of_z w64 c.apart-lat.result) ≡ c.apart-lat.result = search rules in
    let q = rw (p, c.apart-lat.ensures) at c.squarable.ensures in
    rw (checked_over 63 (lat *ℤ lat) q c.if-not-squarable.true)

pub returns-then-not-squarable-2 : goal.returns-then-not-squarable-2
unfolding squared to_segment
returns-then-not-squarable-2 c =
    let lat = cut64 (c.args.near.lat ⊟ c.args.at.lat) in
    let lon = cut64 (c.args.near.lon ⊟ c.args.at.lon) in
    let p : to_z w64 (of_z w64 c.apart-lat.result) ≡ c.apart-lat.result = search rules in
    let q = rw (p, c.apart-lat.ensures) at c.squarable.ensures in
    let p2 : to_z w64 (of_z w64 c.apart-lon.result) ≡ c.apart-lon.result = search rules in
    let q2 = rw (p2, c.apart-lon.ensures) at c.squarable-2.ensures in
    rw (checked_found 63 (lat *ℤ lat) q c.if-not-squarable.false, checked_over 63 (lon *ℤ lon) q2 c.if-not-squarable-2.true)

pub returns : goal.returns
unfolding squared to_segment
returns c =
    let lat = cut64 (c.args.near.lat ⊟ c.args.at.lat) in
    let lon = cut64 (c.args.near.lon ⊟ c.args.at.lon) in
    let p : to_z w64 (of_z w64 c.apart-lat.result) ≡ c.apart-lat.result = search rules in
    let q = rw (p, c.apart-lat.ensures) at c.squarable.ensures in
    let p2 : to_z w64 (of_z w64 c.apart-lon.result) ≡ c.apart-lon.result = search rules in
    let q2 = rw (p2, c.apart-lon.ensures) at c.squarable-2.ensures in
    rw (checked_found 63 (lat *ℤ lat) q c.if-not-squarable.false, checked_found 63 (lon *ℤ lon) q2 c.if-not-squarable-2.false) (ap found (rw (
      p,
      p2,
      c.apart-lat.ensures,
      c.apart-lon.ensures,
    ) at c.sum_of_squares.ensures))
