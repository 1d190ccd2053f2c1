-- A box that points are taken into holds them, and what it held before. Assumes nothing.
use Rattle.numbers.{proofs.{Prelude.{ℤ, le_z, Bool, true, false, ◌≡◌, refl}, Tests.{both}}, specs.Answer.{if◌then◌else◌}}
use Rattle.border.specs.{Box.{Box, min_z, max_z, grown, holds}, declared.place.Point.{Point}}
use Rattle.verdict.{proofs.{AfarBox.{holds_parts}, Compared.{same_eq}, Gliding.{le_self}, OutsideBox.{le_z_trans, le_z_total, unless}}, specs.Edge.{between, in_box, same_z, same_point}}

min_left : (a b : ℤ) → le_z (min_z a b) a ≡ true
unfolding min_z
min_left a b = go (le_z a b) refl where
  go : (t : Bool) → le_z a b ≡ t → le_z (if t then a else b) a ≡ true
  go true e = le_self a
  go false e = le_z_total a b e

min_right : (a b : ℤ) → le_z (min_z a b) b ≡ true
unfolding min_z
min_right a b = go (le_z a b) refl where
  go : (t : Bool) → le_z a b ≡ t → le_z (if t then a else b) b ≡ true
  go true e = e
  go false e = le_self b

max_left : (a b : ℤ) → le_z a (max_z a b) ≡ true
unfolding max_z
max_left a b = go (le_z a b) refl where
  go : (t : Bool) → le_z a b ≡ t → le_z a (if t then b else a) ≡ true
  go true e = e
  go false e = le_self a

max_right : (a b : ℤ) → le_z b (max_z a b) ≡ true
unfolding max_z
max_right a b = go (le_z a b) refl where
  go : (t : Bool) → le_z a b ≡ t → le_z b (if t then b else a) ≡ true
  go true e = le_self b
  go false e = le_z_total a b e

holds_by : (box : Box) (p : Point) → le_z box.low.lat.0 p.lat.0 ≡ true → le_z p.lat.0 box.high.lat.0 ≡ true → le_z box.low.lon.0 p.lon.0 ≡ true
    → le_z p.lon.0 box.high.lon.0 ≡ true → holds box p ≡ true
holds_by box p a b c d = rw (a, b, c, d)

pub grown_holds : (box : Box) (p q : Point) → holds box q ≡ true → holds (grown box p) q ≡ true
grown_holds box p q e = let h = holds_parts box q e in
    holds_by (grown box p) q (le_z_trans (min_z box.low.lat.0 p.lat.0) box.low.lat.0 q.lat.0 (min_left box.low.lat.0 p.lat.0) h.0)
    (le_z_trans q.lat.0 box.high.lat.0 (max_z box.high.lat.0 p.lat.0) h.1 (max_left box.high.lat.0 p.lat.0))
    (le_z_trans (min_z box.low.lon.0 p.lon.0) box.low.lon.0 q.lon.0 (min_left box.low.lon.0 p.lon.0) h.2) (le_z_trans q.lon.0
    box.high.lon.0 (max_z box.high.lon.0 p.lon.0) h.3 (max_left box.high.lon.0 p.lon.0))

pub taken_holds : (box : Box) (p : Point) → holds (grown box p) p ≡ true
taken_holds box p =
    holds_by (grown box p) p
    (min_right box.low.lat.0 p.lat.0) (max_right box.high.lat.0 p.lat.0) (min_right box.low.lon.0 p.lon.0) (max_right box.high.lon.0 p.lon.0)

pub own_holds : (p : Point) → holds (record { low = p; high = p }) p ≡ true
own_holds p = holds_by (record { low = p; high = p }) p (le_self p.lat.0) (le_self p.lat.0) (le_self p.lon.0) (le_self p.lon.0)

-- a box that does not hold a point by either order of its corners does not hold it
pub out_of_box : (box : Box) (p : Point) → in_box box.low p box.high ≡ false → holds box p ≡ false
unfolding in_box between
out_of_box box p = unless (holds box p) (in_box box.low p box.high) (λ e. let h = holds_parts box p e in rw (h.0, h.1, h.2, h.3))

-- ---- points that are the same

pub same_point_is : (p q : Point) → same_point p q ≡ true → p ≡ q
unfolding same_point
same_point_is p q e = let h = both (same_z p.lat.0 q.lat.0) (same_z p.lon.0 q.lon.0) e in
    λ i. record { lat = record { 0 = same_eq p.lat.0 q.lat.0 h.0 i }; lon = record { 0 = same_eq p.lon.0 q.lon.0 h.1 i } }
