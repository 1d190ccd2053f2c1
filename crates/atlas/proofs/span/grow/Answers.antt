-- `atlas::span::grow` meets its contract.
use Rattle.numbers.proofs.Prelude.{ap, ◌∙◌}
use Rattle.border.{proofs.Ordered.{least_lat, least_lon, most_lat, most_lon}, specs.{Place.{point_at}, declared.place.{FixedLat.{FixedLat}, FixedLon.{FixedLon}}}}
use Rattle.atlas.proofs.span.grow.Goals as goal

pub returns : goal.returns
returns c =
    let south = ap (λ (p : FixedLat). p.0) c.min.ensures ∙ least_lat c.args.frame.low.lat c.args.point.lat in
    let west = ap (λ (p : FixedLon). p.0) c.min-2.ensures ∙ least_lon c.args.frame.low.lon c.args.point.lon in
    let north = ap (λ (p : FixedLat). p.0) c.max.ensures ∙ most_lat c.args.frame.high.lat c.args.point.lat in
    let east = ap (λ (p : FixedLon). p.0) c.max-2.ensures ∙ most_lon c.args.frame.high.lon c.args.point.lon in
    λ i. record { low = point_at (south i) (west i); high = point_at (north i) (east i) }
