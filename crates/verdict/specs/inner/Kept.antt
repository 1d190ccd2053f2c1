-- What inner functions of the verdict keep from edge to edge and say to each other. No promise of a public function speaks of it.
use Rattle.std.specs.Prelude.{if◌then◌else◌, ◌≡◌}
use Rattle.numbers.specs.Prelude.{ℕ, Bool}
use Rattle.verdict.specs.{Edge.{quadrant_of, spot_of}, Verdict.{Judgement, failed, refused, Last, none, after}, declared.edge.{Seen.{Seen}, Spot.{Spot}}}
use Rattle.border.specs.declared.place.Point.{Point}
use Rattle.numbers.specs.Answer.{Answer}
use Rattle.numbers.specs.Answer as A

-- a point with its quadrant, and with its floats if the distance is asked for
unfoldable pub seen_from : Point → Bool → Point → Seen
seen_from fix asked p = record { point = p; quadrant = quadrant_of fix p; spot = if asked then spot_of p else spot_of fix }

-- the fix's floats, and what is kept of an edge's two ends, are right
pub record Sighted (fix : Point) (at : Spot) (asked : Bool) (last next : Seen) : Type 0 where
  pub fixed : at ≡ spot_of fix
  pub left : last ≡ seen_from fix asked last.point
  pub reached : next ≡ seen_from fix asked next.point

abbrev pub last_of : Bool → Point → Last
last_of begun p = if begun then after p else none

-- a border whose next point can't be read
abbrev pub unread_at : {A : Type 0} → Answer A → ℕ → Judgement
unread_at (A.refused n) least = refused n
unread_at A.failed least = failed least
unread_at (A.found a) least = failed least
