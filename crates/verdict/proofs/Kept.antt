-- What is kept of a point: its quadrant, one of four, and its floats where the distance is asked for. Assumes nothing.
use Rattle.numbers.{proofs.Prelude.{◌≤◌, lit≤, le_z, Bool, true, false, ◌≡◌, sym, ap, ◌∙◌}, specs.Answer.{if◌then◌else◌}}
use Rattle.verdict.specs.{Edge.{quadrant_of, spot_of}, declared.edge.Seen.{Seen}, inner.Kept.{seen_from}}
use Rattle.border.specs.declared.place.Point.{Point}

one_of_four : (t u : Bool) → (if t then (if u then 0 else 1) else (if u then 3 else 2)) ≤ 3
one_of_four true true = lit≤ tt
one_of_four true false = lit≤ tt
one_of_four false true = lit≤ tt
one_of_four false false = lit≤ tt

pub quadrant_small : (fix p : Point) → quadrant_of fix p ≤ 3
unfolding quadrant_of
quadrant_small fix p = one_of_four (le_z fix.lat.0 p.lat.0) (le_z fix.lon.0 p.lon.0)

module _ (fix : Point) (asked : Bool) {s : Seen} (kept : s ≡ seen_from fix asked s.point) where
  pub quadrant_kept : s.quadrant ≡ quadrant_of fix s.point
  unfolding seen_from
  quadrant_kept = ap (λ (x : Seen). x.quadrant) kept

  pub spot_kept : asked ≡ true → s.spot ≡ spot_of s.point
  unfolding seen_from
  spot_kept e = ap (λ (x : Seen). x.spot) kept ∙ ap (λ (t : Bool). if t then spot_of s.point else spot_of fix) e

module _ (fix : Point) (asked : Bool) (p : Point) {s : Seen} (seen : s ≡ seen_from fix asked p) where
  pub point_kept : s.point ≡ p
  unfolding seen_from
  point_kept = ap (λ (x : Seen). x.point) seen

  pub seen_again : s ≡ seen_from fix asked s.point
  seen_again = seen ∙ ap (seen_from fix asked) (sym point_kept)
