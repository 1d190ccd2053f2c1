-- A border of at most 65,535 points, with all coordinates below 2 ^ 30 in size, comes to a verdict about every such location, with the distance and without: nothing is refused. Assumes nothing.
use Rattle.numbers.proofs.Prelude.{ℕ, ◌+◌, ◌-◌, ◌*◌, ◌%◌, ◌^◌, ◌≤◌, ◌<◌, min, le-leb, leb-true, ltb-true, eqb, ltb, lit≤, ℤ, pos, negsuc, ◌+ℤ◌, ◌-ℤ◌, neg_ℤ, nat_abs, length, mag, lt_z, le_z}
use Rattle.numbers.proofs.Prelude.{Bool, true}
use Rattle.numbers.proofs.Prelude.{false, ◌&&◌, ◌||◌, List, [], ◌∷◌, zip_with, ◌≡◌, refl, sym, ◌∙◌, arith}
use Rattle.numbers.{proofs.{Tests.{both, differ}, write.Gaps.{size_sum, size_neg, mag_size}}, specs.{Answer.{if◌then◌else◌}, Float.{cut64, ◌⊟◌}}}
use lib.IntN.{◌*ℤ◌}
use Rattle.verdict.proofs.{Checks.{checked_fits}, Squares.{square_test}}
use Rattle.verdict.specs.{Distance.{squared, to_segment, to_vertex, distance_of, measured}, Edge.{same_z, same_point, between, in_box, quadrant_of}}
use Rattle.verdict.specs.{Edge.{spot_of, edge_of, straight, closest_on, cut_of}, Step.{Step, found, meets, ◌>>=◌}, Verdict.{Judgement, reached, Last, none, after, along, passing, closed_at, then_on}}
use Rattle.verdict.specs.{Verdict.{judge}, Winding.{turned, quarter_by, half_turn, turn_at, crossing_of, across_by, clear_of, wound_by}}
use Rattle.verdict.specs.declared.edge.Edge.{Edge, TheVariants.{Sloped, EqualLongitude}}
use Rattle.verdict.specs.declared.{edge.{Edge.TheVariants.{EqualLatitude}, Spot.{Spot}}, step.{Tally.{Tally}, Verdict.{Verdict, TheVariants.{OnBorderSegment}}}}
use Rattle.border.specs.{Trace.{point, closed}, Written.{points_then, round_trip}, declared.place.{FixedLon.{FixedLon}, Point.{Point}}}
use Rattle.writer.specs.{Moves.{points_of}, Writer.{every, near}}
use Rattle.promises.proofs.Built.NearFloats.{cut_upto, upto_cut, whole_upto, difference_upto}

-- a point near the middle
pub record Near (p : Point) : Type 0 where
  pub lat : nat_abs p.lat.0 < 2 ^ 30
  pub lon : nat_abs p.lon.0 < 2 ^ 30

unfoldable pub AllNear : List Point → Type 0
AllNear [] = Unit {0}
AllNear (p ∷ ps) = Near p × AllNear ps

-- ---- numbers between others
pub in_between : (b : ℕ) (low n high : ℤ) → le_z low n ≡ true → le_z n high ≡ true → nat_abs low < b → nat_abs high < b → nat_abs n < b
in_between b low (pos n) (pos m) h k p q = omega (arith, leb-true n m k)
in_between b low (pos n) (negsuc m) h k p q = differ k
in_between b (pos l) (negsuc n) high h k p q = differ h
in_between b (negsuc l) (negsuc n) high h k p q = omega (arith, leb-true n l h)

either_way : (b : ℕ) (one n other : ℤ) → between one n other ≡ true → nat_abs one < b → nat_abs other < b → nat_abs n < b
unfolding between
either_way b one n other e p q = go (le_z one n) refl (le_z n other) refl e where
  go : (s : Bool) → le_z one n ≡ s → (t : Bool) → le_z n other ≡ t → ((s && t) || (le_z other n && le_z n one)) ≡ true → nat_abs n < b
  go true s true t e = in_between b one n other s t p q
  go true s false t e = let w = both (le_z other n) (le_z n one) e in in_between b other n one w.0 w.1 q p
  go false s true t e = let w = both (le_z other n) (le_z n one) e in in_between b other n one w.0 w.1 q p
  go false s false t e = let w = both (le_z other n) (le_z n one) e in in_between b other n one w.0 w.1 q p

-- ---- distances
square_small : (z : ℤ) → nat_abs z ≤ 2 ^ 31 → mag (z *ℤ z) < 2 ^ 63
square_small z h = ltb-true (mag (z *ℤ z)) (2 ^ 63) (sym (square_test z) ∙ test z h) where
  test : (z : ℤ) → nat_abs z ≤ 2 ^ 31 → (le_z (negsuc 3037000498) z && le_z z (pos 3037000499)) ≡ true
  test (pos n) h = le-leb n 3037000499 (omega arith)
  test (negsuc n) h = rw (le-leb n 3037000498 (omega arith))

-- a distance that was found
pub data Measures : Step ℕ → Type 0 where
  is : {d : ℕ} → Measures (found d)

squared_found : (lat lon : ℤ) → nat_abs lat ≤ 2 ^ 31 → nat_abs lon ≤ 2 ^ 31 → Measures (squared lat lon)
unfolding squared
squared_found lat lon h k = rw (checked_fits 63 (lat *ℤ lat) (square_small lat h), checked_fits 63 (lon *ℤ lon) (square_small lon k)) is

size_difference : (a b : ℤ) → nat_abs a < 2 ^ 30 → nat_abs b < 2 ^ 30 → nat_abs (a -ℤ b) < 2 ^ 31
size_difference a b h k = omega (arith, size_sum a (neg_ℤ b), size_neg b)

module _ (fix : Point) (fix_near : Near fix) where
  vertex_found : (to : Point) → Near to → Measures (to_vertex to fix)
  unfolding to_vertex
  vertex_found to h = let lat = size_difference to.lat.0 fix.lat.0 h.lat fix_near.lat in
      let lon = size_difference to.lon.0 fix.lon.0 h.lon fix_near.lon in
      rw (
        checked_fits 31 (to.lat.0 -ℤ fix.lat.0) (omega (arith, mag_size (to.lat.0 -ℤ fix.lat.0))),
        checked_fits 31 (to.lon.0 -ℤ fix.lon.0)
            (omega (arith, mag_size (to.lon.0 -ℤ fix.lon.0))),
      )
      (squared_found (to.lat.0 -ℤ fix.lat.0) (to.lon.0 -ℤ fix.lon.0) (omega arith) (omega arith))

  segment_found : (from to : Point) (near : Spot) → Near from → Near to → in_box to (cut_of near) from ≡ true → Measures (to_segment near (spot_of fix))
  unfolding to_segment in_box
  segment_found from to at h k e =
      let held = both (between to.lat.0 (cut_of at).lat.0 from.lat.0) (between to.lon.0 (cut_of at).lon.0 from.lon.0) e in
      let lat = upto_cut at.lat (either_way (2 ^ 30) to.lat.0 (cut_of at).lat.0 from.lat.0 held.0 k.lat h.lat) in
      let lon = upto_cut at.lon (either_way (2 ^ 30) to.lon.0 (cut_of at).lon.0 from.lon.0 held.1 k.lon h.lon) in
      squared_found (cut64 (at.lat ⊟ (spot_of fix).lat)) (cut64 (at.lon ⊟ (spot_of fix).lon))
      (cut_upto 63 (2 ^ 31) (at.lat ⊟ (spot_of fix).lat) (difference_upto at.lat (spot_of fix).lat lat (whole_upto fix.lat.0 (omega (arith, fix_near.lat)))))
      (cut_upto 63 (2 ^ 31) (at.lon ⊟ (spot_of fix).lon) (difference_upto at.lon (spot_of fix).lon lon (whole_upto fix.lon.0 (omega (arith, fix_near.lon)))))

  distance_found : (from to : Point) → Near from → Near to → Measures (distance_of fix from to)
  unfolding distance_of
  distance_found from to h k = go (in_box to (cut_of near) from) refl where
    near : Spot
    near = closest_on (edge_of from to) (spot_of fix)

    go : (t : Bool) → in_box to (cut_of near) from ≡ t → Measures (if t then to_segment near (spot_of fix) else to_vertex to fix)
    go true e = segment_found from to near h k e
    go false e = vertex_found to k

-- the last point, if there is one, is near
abbrev NearLast : Last → Type 0
NearLast none = Unit {0}
NearLast (after p) = Near p

-- ---- the winding
-- a step that goes on with a winding of at most this size, or meets the location
pub data Goes (most : ℕ) : Step Tally → Type 0 where
  on : {t : Tally} → nat_abs t.winding ≤ most → Goes most (found t)
  met : {v : Verdict} → Goes most (meets v)

goes_either : {most : ℕ} (t : Bool) {a b : Step Tally} → Goes most a → Goes most b → Goes most (if t then a else b)
goes_either true h k = h
goes_either false h k = k

module _ (fix : Point) (fix_near : Near fix) (most : ℕ) (room : most + 2 < 2 ^ 31) where
  turned_goes : (by : ℤ) (t : Tally) → nat_abs by ≤ 2 → nat_abs t.winding ≤ most → Goes (most + 2) (turned by t)
  unfolding turned
  turned_goes by t h k = let sum : nat_abs (t.winding +ℤ by) ≤ most + 2 = omega (arith, size_sum t.winding by) in
      rw (checked_fits 31 (t.winding +ℤ by) (omega (arith, mag_size (t.winding +ℤ by)))) (on sum)

  quarter_goes : (n : ℕ) (t : Tally) → nat_abs t.winding ≤ most → Goes (most + 2) (quarter_by n t)
  unfolding quarter_by
  quarter_goes n t h = let more : nat_abs t.winding ≤ most + 2 = omega arith in
      goes_either (eqb n 1) (turned_goes (pos 1) t (omega arith) h) (goes_either (eqb n 3) (turned_goes (negsuc 0) t (omega arith) h) (on more))

  half_size : (west : Bool) (q : ℕ) → nat_abs (half_turn west q) ≤ 2
  unfolding half_turn
  half_size west q = go (ltb q 2) west where
    go : (t w : Bool) → nat_abs (if t then (if w then negsuc 1 else pos 2) else (if w then pos 2 else negsuc 1)) ≤ 2
    go true true = lit≤ tt
    go true false = lit≤ tt
    go false true = lit≤ tt
    go false false = lit≤ tt

  -- a crossing turns by two, or is on the border
  turn_goes : (crossing : FixedLon) (q : ℕ) (t : Tally) → nat_abs t.winding ≤ most → Goes (most + 2) (turn_at crossing fix.lon q >>= λ turn. turned turn t)
  unfolding turn_at
  turn_goes crossing q t h = let left = size_sum fix.lon.0 (negsuc 0) in let right = size_sum fix.lon.0 (pos 1) in
      rw (
        checked_fits 31 (fix.lon.0 -ℤ pos 1) (omega (arith, mag_size (fix.lon.0 -ℤ pos 1), left, fix_near.lon)),
        checked_fits 31 (fix.lon.0 +ℤ pos 1)
            (omega (arith, mag_size (fix.lon.0 +ℤ pos 1), right, fix_near.lon)),
      )
      (by_left (lt_z crossing.0 (fix.lon.0 -ℤ pos 1)) (lt_z (fix.lon.0 +ℤ pos 1) crossing.0)) where
        by_left : (l r : Bool) → Goes (most + 2) ((if l then found (half_turn true q) else (if r then found (half_turn false q) else meets OnBorderSegment)) >>= λ turn. turned turn t)
        by_left true r = turned_goes (half_turn true q) t (half_size true q) h
        by_left false true = turned_goes (half_turn false q) t (half_size false q) h
        by_left false false = met

  across_goes : (edge : Edge) (q : ℕ) (t : Tally) → nat_abs t.winding ≤ most → Goes (most + 2) (across_by fix edge q t)
  unfolding across_by
  across_goes (Sloped line) q t h = turn_goes (crossing_of fix line) q t h
  across_goes (EqualLongitude lon) q t h = met
  across_goes (EqualLatitude lat) q t h = met

  clear_goes : (from to : Point) {step : Step Tally} → Goes (most + 2) step → Goes (most + 2) (step >>= clear_of fix from to)
  unfolding clear_of
  clear_goes from to (on h) = goes_either (straight from to && in_box to fix from) met (on h)
  clear_goes from to met = met

  wound_goes : (from to : Point) (t : Tally) → nat_abs t.winding ≤ most → Goes (most + 2) (wound_by fix from to t)
  unfolding wound_by
  wound_goes from to t h = let q = quadrant_of fix to in let n = (q + 4 - quadrant_of fix from) % 4 in
      goes_either (eqb n 2) (across_goes (edge_of from to) q t h) (clear_goes from to (quarter_goes n t h))

  measured_goes : (asked : Bool) (from to : Point) → Near from → Near to → {step : Step Tally} → Goes (most + 2) step → Goes (most + 2) (step >>= measured asked fix from to)
  unfolding measured
  measured_goes asked from to h k met = met
  measured_goes false from to h k (on w) = on w
  measured_goes true from to h k (on {t = t} w) = go (distance_found fix fix_near from to h k) where
    go : {d : Step ℕ} → Measures d → Goes (most + 2) (d >>= λ new. found (record { winding = t.winding; least = min new t.least }))
    go is = on w

  passing_goes : (asked : Bool) (last : Last) → NearLast last → (to : Point) → Near to → (t : Tally) → nat_abs t.winding ≤ most → Goes (most + 2) (passing fix asked last to t)
  unfolding passing along
  passing_goes asked none h to k t w = let more : nat_abs t.winding ≤ most + 2 = omega arith in goes_either (same_point to fix) met (on more)
  passing_goes asked (after from) h to k t w = goes_either (same_point to fix) met (measured_goes asked from to h k (wound_goes from to t w))

-- ---- the verdict
pub data ComesTo : Judgement → Type 0 where
  verdict : {v : Verdict} {least : ℕ} → ComesTo (reached v least)

module _ (fix : Point) (fix_near : Near fix) (asked : Bool) where
  comes_either : (t : Bool) {a b : Judgement} → ComesTo a → ComesTo b → ComesTo (if t then a else b)
  comes_either true h k = h
  comes_either false h k = k

  closed_comes : (t : Tally) → ComesTo (closed_at asked t)
  unfolding closed_at
  closed_comes t = comes_either (same_z t.winding (negsuc 3)) verdict (comes_either (same_z t.winding (pos 4)) verdict (comes_either (same_z t.winding (pos 0)) verdict verdict))

  then_comes : {most : ℕ} {step : Step Tally} (least : ℕ) (rest : Tally → Judgement) → Goes most step → ((t : Tally) → nat_abs t.winding ≤ most → ComesTo (rest t))
      → ComesTo (then_on asked least step rest)
  unfolding then_on
  then_comes least rest (on {t = t} h) k = k t h
  then_comes least rest met k = verdict

  through_comes : (ps : List Point) → AllNear ps → (first : Point) → Near first → (most : ℕ) → most + 2 * length ps + 2 < 2 ^ 31 → (last : Last) → NearLast last
      → (t : Tally) → nat_abs t.winding ≤ most → ComesTo (judge fix asked last t (points_then ps (point first closed)))
  unfolding points_then judge AllNear
  through_comes [] all first h most room last l t w = then_comes t.least _ (passing_goes fix fix_near most (omega arith) asked last l first h t w) (λ t' w'. closed_comes t')
  through_comes (p ∷ ps) all first h most room last l t w =
      then_comes t.least _ (passing_goes fix fix_near most (omega arith) asked last l p all.0 t w) (λ t' w'. through_comes ps all.1 first h (most + 2) (omega arith) (after p) all.0 t' w')

  pub near_comes : (points : List Point) → AllNear points → length points ≤ 65535 → (least : ℕ) → ComesTo (judge fix asked none (record { winding = pos 0; least = least }) (round_trip points))
  unfolding round_trip judge AllNear
  near_comes [] all few least = closed_comes (record { winding = pos 0; least = least })
  near_comes (p ∷ ps) all few least = through_comes (p ∷ ps) all p all.0 0 (omega arith) none tt (record { winding = pos 0; least = least }) (omega arith)

-- ---- the points of near coordinates
pub all_near : (lats lons : List ℤ) → every near lats ≡ true → every near lons ≡ true → AllNear (points_of lats lons)
unfolding points_of zip_with every near AllNear
all_near [] lons h k = tt
all_near (y ∷ lats) [] h k = tt
all_near (y ∷ lats) (x ∷ lons) h k = let p = both (near y) (every near lats) h in let q = both (near x) (every near lons) k in
    (record { lat = omega (arith, leb-true (nat_abs y) 1073741823 p.0); lon = omega (arith, leb-true (nat_abs x) 1073741823 q.0) }, all_near lats lons p.1 q.1)
