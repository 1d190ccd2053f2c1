-- How far one edge of a border winds: two quarters at most. Assumes nothing.
use Rattle.numbers.proofs.Prelude.{ℕ, ◌+◌, ◌-◌, ◌%◌, ◌^◌, ◌≤◌, min, eqb, ltb, ℤ, pos, negsuc, ◌+ℤ◌, ◌-ℤ◌, nat_abs, mag, lt_z, Bool, true, false, ◌&&◌, arith}
use Rattle.numbers.{proofs.write.Gaps.{size_sum}, specs.Answer.{if◌then◌else◌}}
use Rattle.border.specs.declared.place.{FixedLon.{FixedLon}, Point.{Point}}
use Rattle.verdict.specs.{Distance.{distance_of, measured}, Edge.{same_point, straight, in_box, quadrant_of, edge_of}, Step.{Step, found, meets, refused, ◌>>=◌, checked}, Stretch.{leapt}}
use Rattle.verdict.specs.{Verdict.{after, along, passing}, Winding.{turned, quarter_by, half_turn, turn_at, crossing_of, across_by, clear_of, wound_by}, declared.edge.Edge.{Edge}}
use Rattle.verdict.specs.declared.{edge.Edge.TheVariants.{Sloped, EqualLongitude, EqualLatitude}, step.{Tally.{Tally}, Verdict.TheVariants.{OnBorderVertex, OnBorderSegment}}}

-- what a step finds winds no further than this
abbrev pub Winds : ℕ → Step Tally → Type 0
Winds n (found t) = nat_abs t.winding ≤ n
Winds n (meets v) = Unit
Winds n (refused k) = Unit

abbrev Halves : Step ℤ → Type 0
Halves (found z) = nat_abs z ≤ 2
Halves (meets v) = Unit
Halves (refused k) = Unit

if_winds : (n : ℕ) (t : Bool) (a b : Step Tally) → Winds n a → Winds n b → Winds n (if t then a else b)
if_winds n true a b h g = h
if_winds n false a b h g = g

if_halves : (t : Bool) (a b : Step ℤ) → Halves a → Halves b → Halves (if t then a else b)
if_halves true a b h g = h
if_halves false a b h g = g

pub bound_winds : (n m : ℕ) (s : Step Tally) (k : Tally → Step Tally) → Winds n s → ((t : Tally) → nat_abs t.winding ≤ n → Winds m (k t)) → Winds m (s >>= k)
bound_winds n m (found t) k h g = g t h
bound_winds n m (meets v) k h g = tt
bound_winds n m (refused i) k h g = tt

bound_halves : (m : Step ℤ) (k : ℤ → Step ℤ) → ((z : ℤ) → Halves (k z)) → Halves (m >>= k)
bound_halves (found z) k g = g z
bound_halves (meets v) k g = tt
bound_halves (refused i) k g = tt

turned_winds : (by : ℤ) (t : Tally) → nat_abs by ≤ 2 → Winds (nat_abs t.winding + 2) (turned by t)
unfolding turned checked
turned_winds by t h = go (ltb (mag (t.winding +ℤ by)) (2 ^ 31)) where
  go : (b : Bool) → Winds (nat_abs t.winding + 2) ((if b then found (t.winding +ℤ by) else refused 13) >>= λ w. found (record { winding = w; least = t.least }))
  go true = let z = size_sum t.winding by in omega (arith, z, h)
  go false = tt

quarter_winds : (n : ℕ) (t : Tally) → Winds (nat_abs t.winding + 2) (quarter_by n t)
unfolding quarter_by
quarter_winds n t =
    if_winds (nat_abs t.winding + 2) (eqb n 1) (turned (pos 1) t) _ (turned_winds (pos 1) t (omega arith))
    (if_winds (nat_abs t.winding + 2) (eqb n 3) (turned (negsuc 0) t) (found t) (turned_winds (negsuc 0) t (omega arith)) (omega arith))

pub leapt_winds : (fix from to : Point) (t : Tally) → Winds (nat_abs t.winding + 2) (leapt fix from to t)
unfolding leapt
leapt_winds fix from to t = quarter_winds _ t

half_turns : (west : Bool) (q : ℕ) → Halves (found (half_turn west q))
unfolding half_turn
half_turns true q = go (ltb q 2) where
  go : (t : Bool) → nat_abs (if t then negsuc 1 else pos 2) ≤ 2
  go true = omega arith
  go false = omega arith
half_turns false q = go (ltb q 2) where
  go : (t : Bool) → nat_abs (if t then pos 2 else negsuc 1) ≤ 2
  go true = omega arith
  go false = omega arith

turn_halves : (crossing fix : FixedLon) (q : ℕ) → Halves (turn_at crossing fix q)
unfolding turn_at
turn_halves crossing fix q =
    bound_halves (checked 31 (fix.0 -ℤ pos 1)) _ (λ left. if_halves (lt_z crossing.0 left) (found (half_turn true q)) _ (half_turns true q)
    (bound_halves (checked 31 (fix.0 +ℤ pos 1)) _ (λ right. if_halves (lt_z right crossing.0) (found (half_turn false q)) (meets OnBorderSegment) (half_turns false q) tt)))

across_winds : (fix : Point) (edge : Edge) (q : ℕ) (t : Tally) → Winds (nat_abs t.winding + 2) (across_by fix edge q t)
unfolding across_by
across_winds fix (Sloped line) q t = go (turn_at (crossing_of fix line) fix.lon q) (turn_halves (crossing_of fix line) fix.lon q) where
  go : (m : Step ℤ) → Halves m → Winds (nat_abs t.winding + 2) (m >>= λ turn. turned turn t)
  go (found z) h = turned_winds z t h
  go (meets v) h = tt
  go (refused n) h = tt
across_winds fix (EqualLongitude lon) q t = tt
across_winds fix (EqualLatitude lat) q t = tt

clear_winds : (fix from to : Point) (n : ℕ) (t : Tally) → nat_abs t.winding ≤ n → Winds n (clear_of fix from to t)
unfolding clear_of
clear_winds fix from to n t h = if_winds n (straight from to && in_box to fix from) (meets OnBorderSegment) (found t) tt h

wound_winds : (fix from to : Point) (t : Tally) → Winds (nat_abs t.winding + 2) (wound_by fix from to t)
unfolding wound_by
wound_winds fix from to t = let most = nat_abs t.winding + 2 in let q = quadrant_of fix to in let n = (q + 4 - quadrant_of fix from) % 4 in
    if_winds most (eqb n 2) (across_by fix (edge_of from to) q t) (quarter_by n t >>= clear_of fix from to) (across_winds fix (edge_of from to) q t)
    (bound_winds most most (quarter_by n t) (clear_of fix from to) (quarter_winds n t) (clear_winds fix from to most))

measured_winds : (asked : Bool) (fix from to : Point) (n : ℕ) (t : Tally) → nat_abs t.winding ≤ n → Winds n (measured asked fix from to t)
unfolding measured
measured_winds true fix from to n t h = go (distance_of fix from to) where
  go : (m : Step ℕ) → Winds n (m >>= λ new. found (record { winding = t.winding; least = min new t.least }))
  go (found d) = h
  go (meets v) = tt
  go (refused i) = tt
measured_winds false fix from to n t h = h

-- An edge winds by two quarters at most.
pub passing_winds : (fix : Point) (asked : Bool) (from to : Point) (t : Tally) → Winds (nat_abs t.winding + 2) (passing fix asked (after from) to t)
unfolding passing along
passing_winds fix asked from to t = let most = nat_abs t.winding + 2 in
    if_winds most (same_point to fix) (meets OnBorderVertex) (wound_by fix from to t >>= measured asked fix from to) tt
    (bound_winds most most (wound_by fix from to t) (measured asked fix from to) (wound_winds fix from to t) (measured_winds asked fix from to most))
