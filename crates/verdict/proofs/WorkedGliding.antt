-- Cases that meet what the glide's theorems ask for, by computation: two points in one quadrant about a location, and a field ten away from it.
use Rattle.numbers.proofs.Prelude.{pos, true, false, ◌≡◌, refl, arith}
use Rattle.border.specs.{Place.{point_at}, declared.place.Point.{Point}}
use Rattle.verdict.proofs.{AfarField.{too_far_to_matter}, Gliding.{gliding_keeps}}
use Rattle.verdict.specs.{Distance.{measured}, Step.{found}, Verdict.{after, passing}, declared.{field.Field.{Field}, step.Tally.{Tally}}}
use Rattle.verdict.specs.inner.Gliding.{same_side, in_one_quadrant, in_span, beside, within, far_from, nearby, Remote}

abbrev fix : Point
fix = point_at (pos 3) (pos 4)

abbrev from : Point
from = point_at (pos 20) (pos 5)

abbrev to : Point
to = point_at (pos 14) (pos 9)

abbrev tally : Tally
tally = record { winding = pos 1; least = 100 }

one_quadrant : in_one_quadrant fix from to ≡ true
unfolding in_one_quadrant same_side
one_quadrant = refl

-- the edge between them changes nothing
pub kept : passing fix false (after from) to tally ≡ found tally
kept = gliding_keeps fix from to one_quadrant tally

-- latitudes more than 10 away
abbrev field : Field
field = record { lat = record { low = pos 13; high = pos 4194304 }; lon = record { low = pos 4; high = pos 4194304 } }

far : Remote fix tally.least field
unfolding beside far_from nearby
far =
    record {
      lat_near = refl;
      lon_near = refl;
      lat_sign = refl;
      lon_sign = refl;
      lat_fix = omega arith;
      lon_fix = omega arith;
      lat_reach = 10;
      lon_reach = 0;
      lat_far =
          refl;
      lon_far = refl;
      enough = omega arith;
    }

from_within : within field from ≡ true
unfolding within in_span
from_within = refl

to_within : within field to ≡ true
unfolding within in_span
to_within = refl

-- nor does it come nearer than 10
pub no_nearer : measured true fix from to tally ≡ found tally
no_nearer = too_far_to_matter fix field tally far from to from_within to_within
