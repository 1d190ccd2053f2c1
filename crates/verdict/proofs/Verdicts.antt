-- Document 01's worked verdicts: the border (2,2) (10,2) (10,10) (2,10), in both versions, and its points reversed. Assumes nothing.
use Rattle.numbers.proofs.Prelude.{ℕ, ◌-◌, ◌^◌, of_int, to_signed, add, sub, mul, div, pos, true, List, [], ◌∷◌, ◌≡◌, refl, ap, ◌∙◌}
use Rattle.border.{proofs.Worked.{square, packed_square, plain_square}, specs.{Encoding.{encoded_in}, Place.{point_at}, Trace.{Trace, point, closed}, declared.reader.Version.{Version}}}
use Rattle.border.specs.declared.reader.Version.TheVariants.{Plain, Packed}
use Rattle.verdict.specs.{Distance.{squared, to_segment, to_vertex, distance_of, measured}, Edge.{same_point, between, in_box, quadrant_of, slope_of, edge_of, straight, closest_on}, Step.{checked}}
use Rattle.verdict.specs.{Verdict.{Judgement, reached, none, along, passing, closed_at, then_on, judge, judged_at}, Winding.{turned, quarter_by, half_turn, turn_at, crossing_of, across_by, clear_of}}
use Rattle.verdict.specs.{Winding.{wound_by}, declared.step.{Tally.{Tally}, Verdict.TheVariants.{InZone, InExcludedZone, OnBorderVertex, OnBorderSegment}}}

abbrev start : Tally
start = record { winding = pos 0; least = 2 ^ 64 - 1 }

abbrev at : ℕ → ℕ → Trace → Judgement
at lat lon border = judge (point_at (pos lat) (pos lon)) true none start border

inside : at 5 5 square ≡ reached InZone 9
unfolding judge then_on passing along closed_at same_point between in_box quadrant_of edge_of straight closest_on checked turned quarter_by clear_of wound_by squared
    to_segment to_vertex distance_of measured of_int sub to_signed
inside = refl

vertex : at 2 2 square ≡ reached OnBorderVertex 0
unfolding judge then_on passing same_point
vertex = refl

segment : at 2 5 square ≡ reached OnBorderSegment 0
unfolding judge then_on passing along closed_at same_point between in_box quadrant_of edge_of straight closest_on checked turned quarter_by clear_of wound_by squared
    to_segment to_vertex distance_of measured of_int sub to_signed
segment = refl

pub reversed_inside : at 5 5 (point (point_at (pos 2) (pos 10)) (point (point_at (pos 10) (pos 10)) (point (point_at (pos 10) (pos 2))
    (point (point_at (pos 2) (pos 2)) (point (point_at (pos 2) (pos 10)) closed))))) ≡ reached InExcludedZone 9
unfolding judge then_on passing along closed_at same_point between in_box quadrant_of edge_of straight closest_on checked turned quarter_by clear_of wound_by squared
    to_segment to_vertex distance_of measured of_int sub to_signed
reversed_inside = refl

-- a triangle whose long side crosses two quadrants
pub triangle_inside : at 3 3 (point (point_at (pos 0) (pos 0)) (point (point_at (pos 12) (pos 0)) (point (point_at (pos 0) (pos 12)) (point (point_at (pos 0) (pos 0)) closed)))) ≡ reached InZone 9
unfolding judge then_on passing along closed_at same_point between in_box quadrant_of slope_of edge_of straight closest_on checked turned quarter_by half_turn turn_at
    crossing_of across_by clear_of wound_by squared to_segment to_vertex distance_of measured of_int add sub mul div to_signed
triangle_inside = refl

abbrev packed : List ℕ
packed = 48 ∷ 128 ∷ 2 ∷ 128 ∷ 4 ∷ 129 ∷ 2 ∷ 0 ∷ 0 ∷ []

abbrev plain : List ℕ
plain = 4 ∷ 4 ∷ 4 ∷ 16 ∷ 0 ∷ 0 ∷ 16 ∷ 17 ∷ 0 ∷ 2 ∷ 2 ∷ []

abbrev judged_in : List ℕ → Version → ℕ → ℕ → Judgement
judged_in file version lat lon = judged_at file (encoded_in version 0) 0 (record { 0 = pos lat }) (record { 0 = pos lon }) true (2 ^ 64 - 1)

-- from the bytes
pub packed_verdicts : (judged_in packed Packed 5 5 ≡ reached InZone 9) × (judged_in packed Packed 2 2 ≡ reached OnBorderVertex 0) × (judged_in packed Packed 2 5 ≡ reached OnBorderSegment 0)
unfolding judged_at
packed_verdicts = (ap (at 5 5) packed_square ∙ inside, ap (at 2 2) packed_square ∙ vertex, ap (at 2 5) packed_square ∙ segment)

pub plain_verdicts : (judged_in plain Plain 5 5 ≡ reached InZone 9) × (judged_in plain Plain 2 2 ≡ reached OnBorderVertex 0) × (judged_in plain Plain 2 5 ≡ reached OnBorderSegment 0)
unfolding judged_at
plain_verdicts = (ap (at 5 5) plain_square ∙ inside, ap (at 2 2) plain_square ∙ vertex, ap (at 2 5) plain_square ∙ segment)
