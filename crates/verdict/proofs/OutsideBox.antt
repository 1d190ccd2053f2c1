-- A fix outside the box of a border's points is not in its zone. All points lie on one side of it, in two neighbouring quadrants, so that no edge leads across two
-- quadrants, and back at its first point the border has turned back as often as on. It holds for coordinates of any size, and for no points too. Assumes nothing.
use Rattle.numbers.proofs.Prelude.{ℕ, ◌+◌, ◌-◌, ◌%◌, le-leb, leb-true, leb-false, eqb, ℤ, pos, negsuc, le_z, Bool, true, false, ◌&&◌, not, List, [], ◌∷◌, ◌⊎◌, inl, inr, ◌≡◌, refl, sym, ap, ◌∙◌, arith}
use Rattle.numbers.{proofs.Tests.{differ}, specs.Answer.{if◌then◌else◌}}
use mathlib.Core.Bool.{and-false}
use Rattle.border.{proofs.Delivered.{delivered}, specs.{Box.{Box, min_z, max_z, grown, box_over, box_of, holds}, Encoding.{encoded_in}, Place.{point_at}, Trace.{point, closed}}}
use Rattle.border.specs.{Written.{Stands, points_then, round_trip}, declared.{place.Point.{Point}, reader.Version.{Version}}}
use Rattle.verdict.specs.{Distance.{measured}, Edge.{same_point, between, in_box, quadrant_of}, Step.{Step, found, ◌>>=◌, checked}}
use Rattle.verdict.specs.{Verdict.{Judgement, reached, failed, refused, none, after, along, passing, closed_at, then_on, judge, judged_at}, Winding.{turned, quarter_by, clear_of, wound_by}}
use Rattle.verdict.specs.declared.step.{Tally.{Tally}, Verdict.TheVariants.{NotInZone}}
use Rattle.verdict.proofs.Unasked.{Agrees, asked_or_not}

-- ---- the order of whole numbers

pub le_z_trans : (a b c : ℤ) → le_z a b ≡ true → le_z b c ≡ true → le_z a c ≡ true
le_z_trans (pos a) (pos b) (pos c) h k = le-leb a c (omega (arith, leb-true a b h, leb-true b c k))
le_z_trans (pos a) (pos b) (negsuc c) h k = differ k
le_z_trans (pos a) (negsuc b) c h k = differ h
le_z_trans (negsuc a) (pos b) (pos c) h k = refl
le_z_trans (negsuc a) (pos b) (negsuc c) h k = differ k
le_z_trans (negsuc a) (negsuc b) (pos c) h k = refl
le_z_trans (negsuc a) (negsuc b) (negsuc c) h k = le-leb c a (omega (arith, leb-true b a h, leb-true c b k))

pub le_z_total : (a b : ℤ) → le_z a b ≡ false → le_z b a ≡ true
le_z_total (pos a) (pos b) h = le-leb b a (omega (arith, leb-false a b h))
le_z_total (pos a) (negsuc b) h = refl
le_z_total (negsuc a) (pos b) h = differ (sym h)
le_z_total (negsuc a) (negsuc b) h = le-leb a b (omega (arith, leb-false b a h))

pub unless : (t u : Bool) → (t ≡ true → u ≡ true) → u ≡ false → t ≡ false
unless true u f e = sym (f refl) ∙ e
unless false u f e = refl

pub below_min : (a b x : ℤ) → le_z (min_z a b) x ≡ false → (le_z a x ≡ false) × (le_z b x ≡ false)
unfolding min_z
below_min a b x = by_test (le_z a b) refl where
  by_test : (t : Bool) → le_z a b ≡ t → le_z (if t then a else b) x ≡ false → (le_z a x ≡ false) × (le_z b x ≡ false)
  by_test true e h = (h, unless (le_z b x) (le_z a x) (le_z_trans a b x e) h)
  by_test false e h = (unless (le_z a x) (le_z b x) (le_z_trans b a x (le_z_total a b e)) h, h)

pub above_max : (a b x : ℤ) → le_z x (max_z a b) ≡ false → (le_z x a ≡ false) × (le_z x b ≡ false)
unfolding max_z
above_max a b x = by_test (le_z a b) refl where
  by_test : (t : Bool) → le_z a b ≡ t → le_z x (if t then b else a) ≡ false → (le_z x a ≡ false) × (le_z x b ≡ false)
  by_test true e h = (unless (le_z x a) (le_z x b) (λ k. le_z_trans x a b k e) h, h)
  by_test false e h = (h, unless (le_z x b) (le_z x a) (λ k. le_z_trans x b a k (le_z_total a b e)) h)

-- ---- the side of the fix on which points lie, and its two quadrants in the order of turning

pub data Side : Type 0 where
  north : Side
  west : Side
  south : Side
  east : Side

abbrev pub first : Side → ℕ
first north = 0
first west = 1
first south = 2
first east = 3

-- the first of two quadrants, or the one that is ahead
abbrev pub one_of : ℕ → Bool → ℕ
one_of q ahead = if ahead then (q + 1) % 4 else q % 4

-- how many quadrants an edge leads on, and how far the border has turned since its start, by which of them are ahead
abbrev pub quarters : Bool → Bool → ℕ
quarters false false = 0
quarters false true = 1
quarters true false = 3
quarters true true = 0

abbrev turn : Bool → Bool → ℤ
turn false false = pos 0
turn false true = pos 1
turn true false = negsuc 0
turn true true = pos 0

pub quarters_led : (q : ℕ) (from to : Bool) → (one_of q to + 4 - one_of q from) % 4 ≡ quarters from to
quarters_led q true true = omega arith
quarters_led q true false = omega arith
quarters_led q false true = omega arith
quarters_led q false false = omega arith

abbrev pub tallied : ℤ → ℕ → Tally
tallied winding least = record { winding = winding; least = least }

quarter_wound : (start from to : Bool) (least : ℕ) (across : Step Tally) (clears : Tally → Step Tally)
    → (if eqb (quarters from to) 2 then across else (quarter_by (quarters from to) (tallied (turn start from) least) >>= clears)) ≡ clears (tallied (turn start to) least)
unfolding quarter_by turned checked
quarter_wound false false false least across clears = refl
quarter_wound false false true least across clears = refl
quarter_wound false true false least across clears = refl
quarter_wound false true true least across clears = refl
quarter_wound true false false least across clears = refl
quarter_wound true false true least across clears = refl
quarter_wound true true false least across clears = refl
quarter_wound true true true least across clears = refl

not_turned : (start : Bool) → turn start start ≡ pos 0
not_turned true = refl
not_turned false = refl

other_way : (t : Bool) (q r : ℕ) → (if t then q else r) ≡ (if not t then r else q)
other_way true q r = refl
other_way false q r = refl

below_both : (one x other : ℤ) → le_z one x ≡ false → le_z other x ≡ false → between one x other ≡ false
unfolding between
below_both one x other h k = rw (h, k)

above_both : (one x other : ℤ) → le_z x one ≡ false → le_z x other ≡ false → between one x other ≡ false
unfolding between
above_both one x other h k = simp (h, k, and-false)

module _ (fix : Point) where
  -- a point lies strictly on a side
  abbrev pub Beyond : Side → Point → Type 0
  Beyond north p = le_z p.lat.0 fix.lat.0 ≡ false
  Beyond west p = le_z fix.lon.0 p.lon.0 ≡ false
  Beyond south p = le_z fix.lat.0 p.lat.0 ≡ false
  Beyond east p = le_z p.lon.0 fix.lon.0 ≡ false

  abbrev pub AllBeyond : Side → List Point → Type 0
  AllBeyond side [] = Unit
  AllBeyond side (p ∷ ps) = Beyond side p × AllBeyond side ps

  abbrev pub ahead : Side → Point → Bool
  ahead north p = not (le_z fix.lon.0 p.lon.0)
  ahead west p = not (le_z fix.lat.0 p.lat.0)
  ahead south p = le_z fix.lon.0 p.lon.0
  ahead east p = le_z fix.lat.0 p.lat.0

  pub two_quadrants : (side : Side) (p : Point) → Beyond side p → quadrant_of fix p ≡ one_of (first side) (ahead side p)
  unfolding quadrant_of
  two_quadrants north p h = rw (le_z_total p.lat.0 fix.lat.0 h) (other_way (le_z fix.lon.0 p.lon.0) 0 1)
  two_quadrants west p h = rw h (other_way (le_z fix.lat.0 p.lat.0) 1 2)
  two_quadrants south p h = rw h
  two_quadrants east p h = rw (le_z_total p.lon.0 fix.lon.0 h)

  pub no_vertex : (side : Side) (p : Point) → Beyond side p → same_point p fix ≡ false
  unfolding same_point
  no_vertex north p h = rw h
  no_vertex west p h = simp (h, and-false)
  no_vertex south p h = simp (h, and-false)
  no_vertex east p h = simp (h, and-false)

  pub not_in_edge_box : (side : Side) (from to : Point) → Beyond side from → Beyond side to → in_box to fix from ≡ false
  unfolding in_box
  not_in_edge_box north from to h k = rw (below_both to.lat.0 fix.lat.0 from.lat.0 k h)
  not_in_edge_box west from to h k = rw (above_both to.lon.0 fix.lon.0 from.lon.0 k h, and-false)
  not_in_edge_box south from to h k = rw (above_both to.lat.0 fix.lat.0 from.lat.0 k h)
  not_in_edge_box east from to h k = rw (below_both to.lon.0 fix.lon.0 from.lon.0 k h, and-false)

  module _ (side : Side) (least : ℕ) where
    -- the tally at a point, by which quadrant the border started in
    abbrev at : Bool → Point → Tally
    at start p = tallied (turn start (ahead side p)) least

    module _ (start : Bool) (from to : Point) (h : Beyond side from) (k : Beyond side to) where
      clear : clear_of fix from to (at start to) ≡ found (at start to)
      unfolding clear_of
      clear = rw (not_in_edge_box side from to h k, and-false)

      wound : wound_by fix from to (at start from) ≡ found (at start to)
      unfolding wound_by
      wound =
          rw (two_quadrants side to k, two_quadrants side from h, quarters_led (first side) (ahead side from) (ahead side to), quarter_wound start (ahead side from) (ahead side to) least) clear

      passed : passing fix false (after from) to (at start from) ≡ found (at start to)
      unfolding passing along measured
      passed = rw (no_vertex side to k, wound)

    come_round : (start from : Point) (ps : List Point) → Beyond side start → Beyond side from → AllBeyond side ps
        → judge fix false (after from) (at (ahead side start) from) (points_then ps (point start closed)) ≡ reached NotInZone least
    unfolding points_then judge then_on closed_at
    come_round start from [] s h all = rw (passed (ahead side start) from start h s, not_turned)
    come_round start from (p ∷ ps) s h (k, all) = rw (passed (ahead side start) from p h k) (come_round start p ps s k all)

    -- A border with all its points on one side of the fix, judged without the distance, comes to `NotInZone`.
    pub all_on_one_side : (points : List Point) → AllBeyond side points → judge fix false none (tallied (pos 0) least) (round_trip points) ≡ reached NotInZone least
    unfolding round_trip points_then judge then_on passing along closed_at
    all_on_one_side [] all = refl
    all_on_one_side (p ∷ ps) (h, all) = rw (no_vertex side p h, ← not_turned (ahead side p)) (come_round p p ps h h all)

  -- ---- the box

  -- the corner by which a whole box lies on a side
  abbrev pub corner : Side → Box → Point
  corner north box = box.low
  corner west box = box.high
  corner south box = box.high
  corner east box = box.low

  grown_beyond : (side : Side) (box : Box) (p : Point) → Beyond side (corner side (grown box p)) → Beyond side (corner side box) × Beyond side p
  grown_beyond north box p h = below_min box.low.lat.0 p.lat.0 fix.lat.0 h
  grown_beyond west box p h = above_max box.high.lon.0 p.lon.0 fix.lon.0 h
  grown_beyond south box p h = above_max box.high.lat.0 p.lat.0 fix.lat.0 h
  grown_beyond east box p h = below_min box.low.lon.0 p.lon.0 fix.lon.0 h

  over_beyond : (side : Side) (box : Box) (ps : List Point) → Beyond side (corner side (box_over box ps)) → Beyond side (corner side box) × AllBeyond side ps
  unfolding box_over
  over_beyond side box [] h = (h, tt)
  over_beyond side box (p ∷ ps) h = let later = over_beyond side (grown box p) ps h in let now = grown_beyond side box p later.0 in
      (now.0, (now.1, later.1))

  box_beyond : (side : Side) (points : List Point) → Beyond side (corner side (box_of points)) → AllBeyond side points
  unfolding box_of
  box_beyond side [] h = tt
  box_beyond north (p ∷ ps) h = over_beyond north _ ps h
  box_beyond west (p ∷ ps) h = over_beyond west _ ps h
  box_beyond south (p ∷ ps) h = over_beyond south _ ps h
  box_beyond east (p ∷ ps) h = over_beyond east _ ps h

  pub on_some_side : (box : Box) → holds box fix ≡ false → (side : Side) × Beyond side (corner side box)
  on_some_side box =
      by_tests (le_z box.low.lat.0 fix.lat.0) (le_z fix.lat.0 box.high.lat.0) (le_z box.low.lon.0 fix.lon.0) (le_z fix.lon.0 box.high.lon.0) refl refl refl refl where
        by_tests : (s t u v : Bool) → le_z box.low.lat.0 fix.lat.0 ≡ s → le_z fix.lat.0 box.high.lat.0 ≡ t → le_z box.low.lon.0 fix.lon.0 ≡ u
            → le_z fix.lon.0 box.high.lon.0 ≡ v → (s && t && (u && v)) ≡ false → (side : Side) × Beyond side (corner side box)
        by_tests false t u v a b c d e = (north, a)
        by_tests true false u v a b c d e = (south, b)
        by_tests true true false v a b c d e = (east, c)
        by_tests true true true false a b c d e = (west, d)
        by_tests true true true true a b c d e = differ (sym e)

-- ---- the verdict

-- with the distance asked for: some least distance, or 13 where one is too great
abbrev pub NotInZoneOr13 : Judgement → Type 0
NotInZoneOr13 j = ((d : ℕ) × (j ≡ reached NotInZone d)) ⊎ (j ≡ refused 13)

with_distance : {least : ℕ} (j : Judgement) {o : Judgement} → Agrees least j o → o ≡ reached NotInZone least → NotInZoneOr13 j
with_distance (reached v d) h e = inl (d, cc)
with_distance (failed d) h e = let z : ◌≡◌ {A = ℕ} 0 1 = cc in absurd (omega arith)
with_distance (refused n) (inl h) e = inr (ap refused h)
with_distance (refused n) (inr h) e = let z : ◌≡◌ {A = ℕ} 0 1 = cc in absurd (omega arith)

module _ (points : List Point) (fix : Point) (least : ℕ) (out : holds (box_of points) fix ≡ false) where
  -- The box of a border's points does not hold the fix: judged without the distance, the border comes to `NotInZone`. The fix is never on it, and nothing is refused.
  pub outside_box : judge fix false none (tallied (pos 0) least) (round_trip points) ≡ reached NotInZone least
  outside_box = let found = on_some_side fix (box_of points) out in all_on_one_side fix found.0 least points (box_beyond fix found.0 points found.1)

  -- Judged with it, the border comes to `NotInZone` too, or is refused by 13.
  pub outside_box_asked : NotInZoneOr13 (judge fix true none (tallied (pos 0) least) (round_trip points))
  outside_box_asked = with_distance _ (asked_or_not least fix none (tallied (pos 0) least) (round_trip points)) outside_box

-- The same of a border that stands in a file, in whatever way it was written.
module _ {version : Version} {file : List ℕ} {base place : ℕ} {points : List Point} (stands : Stands version file base place points) (fix : Point) (least : ℕ)
    (out : holds (box_of points) fix ≡ false) where
  pub standing_outside_box : judged_at file (encoded_in version base) place fix.lat fix.lon false least ≡ reached NotInZone least
  unfolding judged_at
  standing_outside_box = rw (delivered stands) (outside_box points fix least out)

  pub standing_outside_box_asked : NotInZoneOr13 (judged_at file (encoded_in version base) place fix.lat fix.lon true least)
  unfolding judged_at
  standing_outside_box_asked = rw (delivered stands) (outside_box_asked points fix least out)

-- a box, worked
crossing_box : box_of (point_at (negsuc 2) (pos 5) ∷ point_at (pos 4) (negsuc 5) ∷ point_at (pos 1) (pos 7) ∷ []) ≡ record { low = point_at (negsuc 2) (negsuc 5); high = point_at (pos 4) (pos 7) }
unfolding box_of box_over min_z max_z
crossing_box = refl
