-- A yard whose box holds the location comes to a verdict, which is the same with the distance and without. Assumes nothing.
use Rattle.numbers.proofs.Prelude.{ℕ, ◌^◌, ◌≤◌, ◌<◌, leb-true, eqb, ltb, leb, ℤ, pos, nat_abs, length, le_z, Bool, true, false, ◌&&◌, List, [], ◌∷◌, zip_with, ◌≡◌, refl, sym, ap, subst, ◌∙◌, le_refl}
use Rattle.numbers.proofs.{Prelude.{arith}, Tests.{both}}
use Rattle.border.specs.{Box.{between}, Place.{point_at}, Written.{round_trip}, declared.place.Point.{Point}}
use Rattle.verdict.{proofs.Unasked.{Agrees, asked_or_not}, specs.{Verdict.{Judgement, reached, none}, declared.step.Verdict.{Verdict}}}
use Rattle.writer.specs.{Moves.{points_of}, Writer.{sized}}
use Rattle.builder.specs.{Borders.{Drawn}, File.{Room}, Yards.{Plan}}
use Rattle.promises.proofs.Built.{Boxes.{lowest_small, highest_small}, Drawn.{Checked, accepted_checked}, NearBorders.{Near, in_between, ComesTo, verdict, near_comes, all_near}, Parts.{Built}}
use Rattle.promises.proofs.Built.Seating.{Sits}
use Rattle.promises.specs.Built.{Finds.{judged_alone}, Seats.{Entered, bounds_in}}
use Rattle.table.specs.Table.{holds}

verdicts : {v w : Verdict} {a b : ℕ} → reached v a ≡ reached w b → v ≡ w
verdicts e = cc

comes_as : {j : Judgement} → ComesTo j → (v : Verdict) × ((closer : ℕ) × (j ≡ reached v closer))
comes_as (verdict {v = v} {least = closer}) = (v, (closer, refl))

zip_length : (lats lons : List ℤ) → length (zip_with point_at lats lons) ≤ length lats
unfolding zip_with
zip_length [] lons = le_refl 0
zip_length (y ∷ lats) [] = omega arith
zip_length (y ∷ lats) (x ∷ lons) = omega (arith, zip_length lats lons)

module _ (plan : Plan) (room : Room) (file : List ℕ) (b : Built plan room file) where
  abbrev drawn : Drawn
  drawn = b.drawn

  module _ (e : Entered) (s : Sits plan drawn e) (fix : Point) where
    good : Checked e.yard.lats e.yard.lons
    good = accepted_checked plan.version e.yard.lats e.yard.lons e.yard.pieces s.lies.earlier s.lies.bytes s.lies.accepted

    held_near : holds (bounds_in e.entry.bounds) fix ≡ true → Near fix
    held_near h = let box = ap (λ entry. entry.bounds) s.is in
        let south : nat_abs e.entry.bounds.south < 2 ^ 30 = rw box (lowest_small e.yard.lats good.near_lats) in
        let west : nat_abs e.entry.bounds.west < 2 ^ 30 = rw box (lowest_small e.yard.lons good.near_lons) in
        let north : nat_abs e.entry.bounds.north < 2 ^ 30 = rw box (highest_small e.yard.lats good.near_lats) in
        let east : nat_abs e.entry.bounds.east < 2 ^ 30 = rw box (highest_small e.yard.lons good.near_lons) in
        let two = both (between e.entry.bounds.south fix.lat.0 e.entry.bounds.north) (between e.entry.bounds.west fix.lon.0 e.entry.bounds.east) h in
        let lats = both (le_z e.entry.bounds.south fix.lat.0) (le_z fix.lat.0 e.entry.bounds.north) two.0 in
        let lons = both (le_z e.entry.bounds.west fix.lon.0) (le_z fix.lon.0 e.entry.bounds.east) two.1 in record {
          lat = in_between (2 ^ 30) e.entry.bounds.south fix.lat.0 e.entry.bounds.north lats.0 lats.1 south north;
          lon = in_between (2 ^ 30) e.entry.bounds.west fix.lon.0 e.entry.bounds.east lons.0 lons.1 west east;
        }

    few_points : length (points_of e.yard.lats e.yard.lons) ≤ 65535
    unfolding points_of sized
    few_points =
        let one = both (eqb (length e.yard.lats) (length e.yard.lons)) (ltb 0 (length e.yard.lats) && leb (length e.yard.lats) 65535) good.sizes in
        let two = both (ltb 0 (length e.yard.lats)) (leb (length e.yard.lats) 65535) one.1 in
        omega (arith, zip_length e.yard.lats e.yard.lons, leb-true (length e.yard.lats) 65535 two.1)

    -- it comes to a verdict
    pub alone_comes : (asked : Bool) (least : ℕ) → holds (bounds_in e.entry.bounds) fix ≡ true → ComesTo (judged_alone e.yard fix asked least)
    unfolding judged_alone
    alone_comes asked least h =
        near_comes fix (held_near h) asked (points_of e.yard.lats e.yard.lons) (all_near e.yard.lats e.yard.lons good.near_lats good.near_lons) few_points least

    -- the verdict does not hang on the distance, asked for or not, nor on the least one so far
    without : (least closer : ℕ) (v : Verdict) → judged_alone e.yard fix true least ≡ reached v closer → (d : ℕ) → judged_alone e.yard fix false d ≡ reached v d
    unfolding judged_alone
    without least closer v is d =
        subst (λ (j : Judgement). Agrees d j (judged_alone e.yard fix false d)) is (asked_or_not d fix none (record { winding = pos 0; least = least })
        (round_trip (points_of e.yard.lats e.yard.lons)))

    pub any_distance : (asked : Bool) (least closer : ℕ) (v : Verdict) → holds (bounds_in e.entry.bounds) fix ≡ true → judged_alone e.yard fix asked least ≡ reached v closer
        → (d : ℕ) → judged_alone e.yard fix false d ≡ reached v d
    any_distance true least closer v h is d = without least closer v is d
    any_distance false least closer v h is d = let came = comes_as (alone_comes true least h) in
        let found = without least came.1.0 came.0 came.1.1 in found d ∙ ap (λ (w : Verdict). reached w d) (verdicts (sym (found least) ∙ is))
