-- A stretch north of a location, worked, with the distance too; and that the bound on the winding is needed.
use Rattle.numbers.proofs.Prelude.{pos, negsuc, true, false, ◌≡◌, refl, arith}
use Rattle.border.specs.{Box.{Box}, Place.{point_at}, Trace.{Trace, point, closed}, declared.place.Point.{Point}}
use Rattle.verdict.specs.{Distance.{measured}, Edge.{same_point, straight, between, in_box, quadrant_of}, Far.{small, is_small, raised, gap_of, is_afar}, Step.{checked}}
use Rattle.verdict.specs.{Stretch.{Stretch, stays, leads, leapt}, Verdict.{reached, refused, after, along, passing, closed_at, then_on, judge}, Winding.{turned, quarter_by, clear_of, wound_by}}
use Rattle.verdict.specs.declared.step.Verdict.TheVariants.{OnBorderSegment}
use Rattle.verdict.proofs.{OutsideBox.{tallied}, Stretch.{stretch_is_edge, afar_is_leap}}

abbrev here : Point
here = point_at (pos 0) (pos 0)

-- from the north-east through three points to the north-west
abbrev north_east : Point
north_east = point_at (pos 4) (pos 4)

abbrev north_west : Point
north_west = point_at (pos 4) (negsuc 3)

abbrev north_box : Box
north_box = record { low = point_at (pos 3) (negsuc 3); high = point_at (pos 9) (pos 4) }

abbrev westward : Trace
westward = point (point_at (pos 9) (pos 2)) (point (point_at (pos 3) (negsuc 1)) (point (point_at (pos 5) (pos 1)) (point north_west closed)))

in_the_north : Stretch north_box north_east westward north_west closed
in_the_north = leads refl (leads refl (leads refl (leads refl stays)))

-- by four edges as by one
pub turned_once : judge here false (after north_east) (tallied (pos 3) 7) westward ≡ judge here false (after north_east) (tallied (pos 3) 7) (point north_west closed)
turned_once = stretch_is_edge here north_box (tallied (pos 3) 7) refl refl in_the_north (omega arith)

-- Two numbers lie between its box and the location: with the distance, it is far by 4 and not by 5.
far_enough : is_afar here 4 north_box.low north_box.high ≡ true
unfolding is_afar is_small small gap_of raised
far_enough = refl

pub too_near : is_afar here 5 north_box.low north_box.high ≡ false
unfolding is_afar is_small small gap_of raised
too_near = refl

pub turned_afar : judge here true (after north_east) (tallied (pos 3) 4) westward
    ≡ then_on true 4 (leapt here north_east north_west (tallied (pos 3) 4)) (λ u. judge here true (after north_west) u closed)
turned_afar = afar_is_leap here north_box (tallied (pos 3) 4) refl far_enough refl in_the_north (omega arith)

-- With no room for one more quarter turn a stretch that turns on and back is refused, and its one edge is not.
pub no_room : judge here false (after north_east) (tallied (pos 2147483647) 7) (point north_west (point (point_at (pos 5) (pos 3)) closed)) ≡ refused 13
unfolding judge then_on passing along measured same_point wound_by quadrant_of quarter_by turned checked clear_of straight between in_box
no_room = refl

pub no_turn : judge here false (after north_east) (tallied (pos 2147483647) 7) (point (point_at (pos 5) (pos 3)) closed) ≡ reached OnBorderSegment 7
unfolding judge then_on passing along measured same_point wound_by quadrant_of quarter_by turned checked clear_of straight between in_box closed_at
no_turn = refl
