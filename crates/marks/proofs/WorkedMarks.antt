-- A location inside four stretches, none of whose boxes holds it, though that of their group does: it is judged by their marks alone, and no byte of the file is read. With the distance,
-- if they are far. And a location outside the group's box: it is judged by that mark alone.
use Rattle.numbers.proofs.Prelude.{ℕ, pos, true, false, List, [], ◌∷◌, ◌≡◌, refl}
use Rattle.border.specs.{Encoding.{encoded_in}, declared.{place.{FixedLat.{FixedLat}, FixedLon.{FixedLon}}, reader.Version.TheVariants.{Packed}}}
use Rattle.verdict.specs.{Distance.{squared, to_vertex}, Edge.{same_point, between, in_box, quadrant_of}, Far.{small, is_small, raised, gap_of, is_afar}, Step.{checked}, Stretch.{leapt}}
use Rattle.verdict.specs.{Verdict.{reached, refused, along, passing, closed_at, then_on}, Winding.{turned, quarter_by}, declared.step.Verdict.TheVariants.{NotInZone, InExcludedZone}}
use Rattle.marks.specs.{Judging.{can_pass, end_in, stretch_by, stretches_by, groups_by, count_in, judged_from, nearer_by, nearest_of, is_below, judged_by}, Marks.{group_wide, groups_of}}

-- the words of -3, -4 and -9
abbrev m3 : ℕ
m3 = 4294967293

abbrev m4 : ℕ
m4 = 4294967292

abbrev m9 : ℕ
m9 = 4294967287

-- westward in the north, southward in the west, eastward in the south, northward in the east; each with its box, its first point, and a state that is not asked; then their group
abbrev four : List ℕ
four =
    4 ∷ 3 ∷ m4 ∷ 9 ∷ 4 ∷ 4 ∷ 4 ∷ 0 ∷ 0 ∷ 0 ∷ 0 ∷ 0 ∷ m4 ∷ m9 ∷ 4 ∷ m3 ∷ 4 ∷ m4 ∷ 0 ∷ 0 ∷ 0 ∷ 0 ∷ 0 ∷ m9 ∷ m4 ∷ m3 ∷ 4 ∷ m4 ∷ m4 ∷ 0 ∷ 0 ∷ 0 ∷ 0 ∷ 0 ∷ m4 ∷ 3
    ∷ 4 ∷ 9 ∷ m4 ∷ 4 ∷ 0 ∷ 0 ∷ 0 ∷ 0 ∷ 0 ∷ m9 ∷ m9 ∷ 9 ∷ 9 ∷ 4 ∷ 4 ∷ 0 ∷ 0 ∷ 0 ∷ 0 ∷ 0 ∷ []

abbrev here : FixedLat
here = record { 0 = pos 0 }

abbrev there : FixedLon
there = record { 0 = pos 0 }

pub unread : judged_by [] (encoded_in Packed 0) four 0 here there false 7 ≡ reached InExcludedZone 7
unfolding judged_by judged_from is_below groups_by groups_of group_wide stretches_by stretch_by can_pass end_in then_on passing along same_point leapt quadrant_of quarter_by turned checked between in_box closed_at
unread = refl

-- two numbers lie between the location and each box, so that none is nearer than 4
pub unread_afar : judged_by [] (encoded_in Packed 0) four 0 here there true 4 ≡ reached InExcludedZone 4
unfolding judged_by judged_from is_below count_in nearest_of nearer_by groups_by groups_of group_wide stretches_by stretch_by can_pass is_afar is_small small gap_of raised
    to_vertex squared end_in then_on passing along same_point leapt quadrant_of quarter_by turned checked between in_box closed_at
unread_afar = refl

-- what the stretches say is not unfolded here: they are not looked at
abbrev away : FixedLon
away = record { 0 = pos 20 }

pub untouched : judged_by [] (encoded_in Packed 0) four 0 here away false 7 ≡ reached NotInZone 7
unfolding judged_by judged_from is_below groups_by groups_of group_wide stretch_by can_pass end_in then_on passing along same_point leapt quadrant_of quarter_by turned checked between in_box closed_at
untouched = refl

-- the same words one short
pub cut_short : judged_by [] (encoded_in Packed 0) (5 ∷ 3 ∷ m4 ∷ []) 0 here there false 7 ≡ refused 36
unfolding judged_by judged_from is_below groups_of
cut_short = refl
