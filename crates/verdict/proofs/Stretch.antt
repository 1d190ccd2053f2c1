-- A stretch of a border whose box does not hold the fix lies on one side of it, in two neighbouring quadrants: it turns about the fix as its one edge from the first
-- point to the last does. So its points in between need not be read. Assumes nothing.
use Rattle.numbers.proofs.Prelude.{ℕ, suc, ◌-◌, ◌^◌, ◌<◌, eqb, ltb, ℤ, pos, negsuc, ◌+ℤ◌, mag, le_z, Bool, true, false, ◌≡◌, refl, sym, ap, subst, ◌∙◌, arith}
use Rattle.numbers.{proofs.Signed.{mag_cond}, specs.Answer.{if◌then◌else◌}}
use mathlib.Core.Bool.{and-false}
use lib.IntN.{+ℤ-neg_ℤ_cancel, -ℤ-+ℤ_cancel}
use Rattle.border.specs.{Box.{Box, holds}, Trace.{Trace, point}, declared.place.Point.{Point}}
use Rattle.verdict.specs.{Distance.{measured}, Far.{is_afar}, Step.{Step, found, meets, refused, ◌>>=◌}, Stretch.{Stretch, stays, leads, leapt}, Verdict.{after, along, passing, then_on, judge}}
use Rattle.verdict.specs.{Winding.{turned, quarter_by, clear_of, wound_by}, declared.step.Tally.{Tally}, inner.Afar.{field_of}}
use Rattle.verdict.proofs.{AfarBox.{holds_parts, afar_box, held_within}, AfarField.{afar_quiet}, Checks.{checked_fits}, OutsideBox.{Side, north, west, south, east, le_z_trans, unless, corner}}
use Rattle.verdict.proofs.OutsideBox.{tallied, first, quarters, quarters_led, Beyond, ahead, two_quadrants, no_vertex, not_in_edge_box, on_some_side}

-- ---- one more quarter turn

-- the winding has room for a quarter turn either way
abbrev pub Roomy : ℤ → Type 0
Roomy w = mag w < 2147483647

up_fits : (w : ℤ) → Roomy w → mag (w +ℤ pos 1) < 2 ^ 31
up_fits (pos n) h = omega (arith, h)
up_fits (negsuc n) h = mag_cond (ltb 1 (suc n)) (suc n - suc 1) (1 - suc n) (2 ^ 31) (omega (arith, h)) (omega arith)

down_fits : (w : ℤ) → Roomy w → mag (w +ℤ negsuc 0) < 2 ^ 31
down_fits (pos n) h = mag_cond (ltb n 1) (1 - suc n) (n - 1) (2 ^ 31) (omega arith) (omega (arith, h))
down_fits (negsuc n) h = omega (arith, h)

roomy_fits : (w : ℤ) → Roomy w → mag w < 2 ^ 31
roomy_fits w h = omega (arith, h)

up_down : (w : ℤ) → w +ℤ pos 1 +ℤ negsuc 0 ≡ w
up_down w = +ℤ-neg_ℤ_cancel w (pos 1)

down_up : (w : ℤ) → w +ℤ negsuc 0 +ℤ pos 1 ≡ w
down_up w = -ℤ-+ℤ_cancel w (pos 1)

-- the winding from the start of a stretch to one of its points, by which of them are ahead
abbrev led : Bool → Bool → ℤ → ℤ
led false false w = w
led false true w = w +ℤ pos 1
led true false w = w +ℤ negsuc 0
led true true w = w

led_same : (a : Bool) (w : ℤ) → led a a w ≡ w
led_same true w = refl
led_same false w = refl

turned_fits : (by w : ℤ) (least : ℕ) → mag (w +ℤ by) < 2 ^ 31 → turned by (tallied w least) ≡ found (tallied (w +ℤ by) least)
unfolding turned
turned_fits by w least h = rw (checked_fits 31 (w +ℤ by) h)

turned_back : (by w v : ℤ) (least : ℕ) → w +ℤ by ≡ v → mag v < 2 ^ 31 → turned by (tallied w least) ≡ found (tallied v least)
turned_back by w v least e h = turned_fits by w least (rw e h) ∙ ap (λ (z : ℤ). found (tallied z least)) e

quarter_led : (a b c : Bool) (w : ℤ) (least : ℕ) → Roomy w → quarter_by (quarters b c) (tallied (led a b w) least) ≡ found (tallied (led a c w) least)
unfolding quarter_by
quarter_led false false false w least h = refl
quarter_led false false true w least h = turned_fits (pos 1) w least (up_fits w h)
quarter_led false true false w least h = turned_back (negsuc 0) (w +ℤ pos 1) w least (up_down w) (roomy_fits w h)
quarter_led false true true w least h = refl
quarter_led true false false w least h = refl
quarter_led true false true w least h = turned_back (pos 1) (w +ℤ negsuc 0) w least (down_up w) (roomy_fits w h)
quarter_led true true false w least h = turned_fits (negsuc 0) w least (down_fits w h)
quarter_led true true true w least h = refl

-- ---- an edge on one side

-- between two points of a box an edge leaves the least distance as it is, if it is asked for
abbrev Quiet : Point → Bool → Box → ℕ → Type 0
Quiet fix asked box least = (from to : Point) → holds box from ≡ true → holds box to ≡ true → (w : ℤ) → measured asked fix from to (tallied w least) ≡ found (tallied w least)

never_two : (a b : Bool) (across m : Step Tally) → (if eqb (quarters a b) 2 then across else m) ≡ m
never_two true true across m = refl
never_two true false across m = refl
never_two false true across m = refl
never_two false false across m = refl

unchanged : (m : Step Tally) (k : Tally → Step Tally) → ((t : Tally) → k t ≡ found t) → (m >>= k) ≡ m
unchanged (found t) k h = h t
unchanged (meets v) k h = refl
unchanged (refused n) k h = refl

module _ (fix : Point) (side : Side) where
  module _ (from to : Point) (h : Beyond fix side from) (k : Beyond fix side to) where
    clear : (t : Tally) → clear_of fix from to t ≡ found t
    unfolding clear_of
    clear t = rw (not_in_edge_box fix side from to h k, and-false)

    -- it turns by a quarter or not at all, and meets nothing
    wound_on_side : (t : Tally) → wound_by fix from to t ≡ quarter_by (quarters (ahead fix side from) (ahead fix side to)) t
    unfolding wound_by
    wound_on_side t = let a = ahead fix side from in let b = ahead fix side to in
        rw (two_quadrants fix side to k, two_quadrants fix side from h, quarters_led (first side) a b, never_two a b) (unchanged (quarter_by (quarters a b) t) (clear_of fix from to) clear)

    -- and so does the leap from one to the other
    leapt_on_side : (t : Tally) → leapt fix from to t ≡ quarter_by (quarters (ahead fix side from) (ahead fix side to)) t
    unfolding leapt
    leapt_on_side t = rw (two_quadrants fix side to k, two_quadrants fix side from h, quarters_led (first side) (ahead fix side from) (ahead fix side to))

  -- the tally at a point of a stretch that starts with this winding, ahead or not
  module _ (a : Bool) (w : ℤ) (least : ℕ) (room : Roomy w) where
    abbrev at : Point → Tally
    at p = tallied (led a (ahead fix side p) w) least

    -- an edge whose distance, if it is asked for, changes nothing
    passed : (asked : Bool) (from to : Point) → Beyond fix side from → Beyond fix side to → measured asked fix from to (at to) ≡ found (at to)
        → passing fix asked (after from) to (at from) ≡ found (at to)
    unfolding passing along
    passed asked from to h k quiet =
        rw (no_vertex fix side to k, wound_on_side from to h k, quarter_led a (ahead fix side from) (ahead fix side to) w least room) quiet

    -- the points of a stretch are passed one after the other
    passed_all : (asked : Bool) (box : Box) → ((p : Point) → holds box p ≡ true → Beyond fix side p) → Quiet fix asked box least → {from to : Point} {trace rest : Trace} → holds box from ≡ true
        → Stretch box from trace to rest → judge fix asked (after from) (at from) trace ≡ judge fix asked (after to) (at to) rest
    unfolding judge then_on
    passed_all asked box sided quiet h stays = refl
    passed_all asked box sided quiet {from} h (leads {to = to} held more) =
        rw (passed asked from to (sided from h) (sided to held) (quiet from to h held (led a (ahead fix side to) w))) (passed_all asked box sided quiet held more)

-- ---- the box

-- a point of a box that lies on one side of the fix lies there too
held_beyond : (fix : Point) (side : Side) (box : Box) → Beyond fix side (corner fix side box) → (p : Point) → holds box p ≡ true → Beyond fix side p
held_beyond fix north box h p e =
    unless (le_z p.lat.0 fix.lat.0) (le_z box.low.lat.0 fix.lat.0) (le_z_trans box.low.lat.0 p.lat.0 fix.lat.0 (holds_parts box p e).0) h
held_beyond fix west box h p e =
    unless (le_z fix.lon.0 p.lon.0) (le_z fix.lon.0 box.high.lon.0) (λ k. le_z_trans fix.lon.0 p.lon.0 box.high.lon.0 k (holds_parts box p e).3) h
held_beyond fix south box h p e =
    unless (le_z fix.lat.0 p.lat.0) (le_z fix.lat.0 box.high.lat.0) (λ k. le_z_trans fix.lat.0 p.lat.0 box.high.lat.0 k (holds_parts box p e).1) h
held_beyond fix east box h p e =
    unless (le_z p.lon.0 fix.lon.0) (le_z box.low.lon.0 fix.lon.0) (le_z_trans box.low.lon.0 p.lon.0 fix.lon.0 (holds_parts box p e).2) h

-- the last point of a stretch is held as the first is
pub ends_held : (box : Box) {from to : Point} {trace rest : Trace} → holds box from ≡ true → Stretch box from trace to rest → holds box to ≡ true
ends_held box h stays = h
ends_held box h (leads held more) = ends_held box held more

-- ---- the law

-- A stretch whose box does not hold the fix, and in whose box no edge changes the least distance, does to what follows it what its one edge does without the distance.
module _ (fix : Point) (asked : Bool) (box : Box) {from to : Point} {trace rest : Trace} (t : Tally) (out : holds box fix ≡ false) (start : holds box from ≡ true)
    (stretch : Stretch box from trace to rest)
    (room : Roomy t.winding) where
  abbrev away : (side : Side) × Beyond fix side (corner fix side box)
  away = on_some_side fix box out

  abbrev side : Side
  side = away.0

  sided : (p : Point) → holds box p ≡ true → Beyond fix side p
  sided = held_beyond fix side box away.1

  abbrev a : Bool
  a = ahead fix side from

  abbrev led_to : Tally
  led_to = at fix side a t.winding t.least room to

  from_there : at fix side a t.winding t.least room from ≡ t
  from_there = ap (λ (z : ℤ). tallied z t.least) (led_same a t.winding)

  whole : Quiet fix asked box t.least → judge fix asked (after from) t trace ≡ judge fix asked (after to) led_to rest
  whole quiet =
      subst (λ (u : Tally). judge fix asked (after from) u trace ≡ judge fix asked (after to) led_to rest) from_there
      (passed_all fix side a t.winding t.least room asked box sided quiet start stretch)

  edge : passing fix false (after from) to t ≡ found led_to
  unfolding measured
  edge =
      subst (λ (u : Tally). passing fix false (after from) to u ≡ found led_to) from_there
      (passed fix side a t.winding t.least room false from to (sided from start) (sided to (ends_held box start stretch)) refl)

  leap : leapt fix from to t ≡ found led_to
  leap =
      subst (λ (u : Tally). leapt fix from to u ≡ found led_to) from_there (leapt_on_side fix side from to (sided from start) (sided to (ends_held box start stretch))
      (at fix side a t.winding t.least room from) ∙ quarter_led a a (ahead fix side to) t.winding t.least room)

  as_leap : Quiet fix asked box t.least → judge fix asked (after from) t trace ≡ then_on asked t.least (leapt fix from to t) (λ u. judge fix asked (after to) u rest)
  unfolding then_on
  as_leap quiet = whole quiet ∙ ap (λ (m : Step Tally). then_on asked t.least m (λ u. judge fix asked (after to) u rest)) (sym leap)

-- A stretch whose box does not hold the fix, judged without the distance, does to what follows it what its one edge does: no point of it is met, nothing is refused, and the turns add up
-- to the edge's. The winding before it needs room for one more quarter turn; how many points the stretch has does not matter.
pub stretch_is_edge : (fix : Point) (box : Box) {from to : Point} {trace rest : Trace} (t : Tally) → holds box fix ≡ false → holds box from ≡ true
    → Stretch box from trace to rest → Roomy t.winding → judge fix false (after from) t trace ≡ judge fix false (after from) t (point to rest)
unfolding judge measured then_on
stretch_is_edge fix box {from} {to} {trace} {rest} t out start stretch room =
    whole fix false box t out start stretch room (λ x y h k w. refl)
    ∙ ap (λ (m : Step Tally). then_on false t.least m (λ u. judge fix false (after to) u rest)) (sym (edge fix false box t out start stretch room))

-- And the edge is no more than a leap from one quadrant to the same or the next,
pub stretch_is_leap : (fix : Point) (box : Box) {from to : Point} {trace rest : Trace} (t : Tally) → holds box fix ≡ false → holds box from ≡ true
    → Stretch box from trace to rest → Roomy t.winding → judge fix false (after from) t trace ≡ then_on false t.least (leapt fix from to t) (λ u. judge fix false (after to) u rest)
unfolding measured
stretch_is_leap fix box t out start stretch room = as_leap fix false box t out start stretch room (λ x y h k w. refl)

-- with the distance asked for too, where the box also is afar by the least distance so far: that distance stays.
pub afar_is_leap : (fix : Point) (box : Box) {from to : Point} {trace rest : Trace} (t : Tally) → holds box fix ≡ false → is_afar fix t.least box.low box.high ≡ true → holds box from ≡ true
    → Stretch box from trace to rest → Roomy t.winding → judge fix true (after from) t trace ≡ then_on true t.least (leapt fix from to t) (λ u. judge fix true (after to) u rest)
afar_is_leap fix box t out far start stretch room =
    as_leap fix true box t out start stretch room (λ x y h k w. afar_quiet fix (field_of box) t.least (afar_box fix t.least box far) x y (held_within box x h) (held_within box y k) w)
