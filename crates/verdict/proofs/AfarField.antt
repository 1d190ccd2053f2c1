-- Edges in a field that is far enough from the location by one coordinate, or by both, leave the least distance as it is. Assumes nothing.
use Rattle.numbers.proofs.Prelude.{ℕ, zero, suc, ◌^◌, ◌≤◌, ◌<◌, min, Float, binary32, fin, nan, inf, of_int, to_signed, sub, ℤ, pos, negsuc, ◌-ℤ◌, nat_abs, mag, Bool, true, false, inl, inr, ◌≡◌, refl}
use Rattle.numbers.{proofs.{Prelude.{sym, ap, ◌∙◌, arith}, write.Gaps.{size_neg, mag_size}}, specs.{Answer.{if◌then◌else◌}, Float.{to_f32, cut32, cut64, ◌⊟◌}}}
use lib.IntN.{pos-ne-negsuc}
use Rattle.verdict.proofs.{Beyond.{between_span, nearby_size, far_size, difference_most, abs_mag, in_both, Further, reached}, Checks.{checked_fits}, CutDifference.{Close, close, whole_part}}
use Rattle.verdict.proofs.{CutDifference.{less_alike, less_unlike, whole_value, negative_value}, Finite.{closest_number}, Gliding.{within_both, field_quadrant, gliding_measures}}
use Rattle.border.specs.declared.place.Point.{Point}
use Rattle.verdict.specs.{Distance.{to_segment, to_vertex, distance_of, measured}, Edge.{in_box, spot_of, edge_of, closest_on, cut_of}, Step.{found}, declared.{edge.Spot.{Spot}, field.Field.{Field}}}
use Rattle.verdict.specs.{declared.{field.Span.{Span}, step.Tally.{Tally}}, inner.{Afar.{Reaches, Afar}, Gliding.{in_span, aside, within, nearby, Remote, Calm}}}

-- ---- a float less a whole number, also where it is cut to 0

cut_zero : (s : Bool) (m : ℕ) (e : ℤ) → to_signed 31 (fin s m e) ≡ pos 0 → whole_part m e ≡ 0
unfolding to_signed
cut_zero true m e h = let z = sym (size_neg (pos (min (whole_part m e) (2 ^ 31)))) ∙ ap nat_abs h in omega (arith, z)
cut_zero false m e h = let z = ap nat_abs h in omega (arith, z)

small_part : (s : Bool) (m : ℕ) (e : ℤ) → whole_part m e ≡ 0 → (z : ℤ) → mag z ≤ 2 ^ 22 → Close (pos 0) z (sub binary32 (fin s m e) (of_int binary32 z))
small_part false m e h (pos n) g = let u = less_unlike false m e n (omega (arith, h, g)) (of_int binary32 (pos n)) (whole_value n (omega (arith, g))) in
    record { least = omega (arith, h, u.below, difference_most (pos 0) (pos n)); most = omega (arith, h, g, u.most) }
small_part false m e h (negsuc n) g =
    let u = less_alike false m e (suc n) (omega (arith, h, g)) (of_int binary32 (negsuc n)) (negative_value n (omega (arith, g))) in
    record { least = omega (arith, h, u.least, difference_most (pos 0) (negsuc n)); most = omega (arith, h, g, u.most) }
small_part true m e h (pos n) g = let u = less_alike true m e n (omega (arith, h, g)) (of_int binary32 (pos n)) (whole_value n (omega (arith, g))) in
    record { least = omega (arith, h, u.least, difference_most (pos 0) (pos n)); most = omega (arith, h, g, u.most) }
small_part true m e h (negsuc n) g =
    let u = less_unlike true m e (suc n) (omega (arith, h, g)) (of_int binary32 (negsuc n)) (negative_value n (omega (arith, g))) in
    record { least = omega (arith, h, u.below, difference_most (pos 0) (negsuc n)); most = omega (arith, h, g, u.most) }

close_zero : (x : Float) (z : ℤ) → (x ≡ nan → ⊥) → to_signed 31 x ≡ pos 0 → mag z ≤ 2 ^ 22 → Close (pos 0) z (sub binary32 x (of_int binary32 z))
unfolding to_signed
close_zero nan z n h g = absurd (n refl)
close_zero (inf true) z n h g = let m = ap mag h in absurd (omega (arith, m))
close_zero (inf false) z n h g = let m = ap mag h in absurd (omega (arith, m))
close_zero (fin s m e) z n h g = small_part s m e (cut_zero s m e h) z g

-- a float that is no NaN, whatever its cut
close_number : (x : Float) (c z : ℤ) → (x ≡ nan → ⊥) → to_signed 31 x ≡ c → mag c < 2 ^ 22 → mag z ≤ 2 ^ 22 → Close c z (sub binary32 x (of_int binary32 z))
close_number x (pos zero) z n h k g = close_zero x z n h g
close_number x (pos (suc i)) z n h k g = close x (pos (suc i)) z h (λ e. let m = ap mag e in omega (arith, m)) k g
close_number x (negsuc i) z n h k g = close x (negsuc i) z h (λ e. pos-ne-negsuc 0 i (sym e)) k g

-- ---- one coordinate

record Reached (r : ℕ) (y : ℤ) : Type 0 where
  far : r ≤ nat_abs y
  most : nat_abs y ≤ 2 ^ 24

module _ (r : ℕ) (z : ℤ) (span : Span) (near : nearby span ≡ true) (fixed : mag z ≤ 4194304) where
  cut_reached : (x : Float) → (x ≡ nan → ⊥) → in_span span (cut32 x) ≡ true → Reaches r z span → Reached r (cut64 (x ⊟ to_f32 z))
  cut_reached x n h q = record { far = go q; most = y.most } where
    y : Close (cut32 x) z (x ⊟ to_f32 z)
    y = close_number x (cut32 x) z n refl (nearby_size span (cut32 x) near h) fixed

    go : Reaches r z span → r ≤ nat_abs (cut64 (x ⊟ to_f32 z))
    go (inl e) = omega (arith, e)
    go (inr f) = let g = far_size r z span (cut32 x) f h in omega (arith, g, y.least)

  point_reached : (v : ℤ) → in_span span v ≡ true → Reaches r z span → Reached r (v -ℤ z)
  point_reached v h q = record { far = go q; most = omega (arith, nearby_size span v near h, difference_most v z, abs_mag v, abs_mag z) } where
    go : Reaches r z span → r ≤ nat_abs (v -ℤ z)
    go (inl e) = omega (arith, e)
    go (inr f) = let g = far_size r z span v f h in omega (arith, g)

-- ---- the distance

module _ (fix : Point) (field : Field) (least : ℕ) (afar : Afar fix least field) where
  to_vertex_far : (to : Point) → within field to ≡ true → Further least (to_vertex to fix)
  unfolding to_vertex
  to_vertex_far to h = let p = within_both field to h in
      let y = point_reached afar.lat_reach fix.lat.0 field.lat afar.lat_near afar.lat_fix to.lat.0 p.0 afar.lat_far in
      let x = point_reached afar.lon_reach fix.lon.0 field.lon afar.lon_near afar.lon_fix to.lon.0 p.1 afar.lon_far in
      rw (
        checked_fits 31 (to.lat.0 -ℤ fix.lat.0) (omega (arith, y.most, mag_size (to.lat.0 -ℤ fix.lat.0))),
        checked_fits 31 (to.lon.0 -ℤ fix.lon.0)
            (omega (arith, x.most, mag_size (to.lon.0 -ℤ fix.lon.0))),
      )
      (reached least afar.lat_reach afar.lon_reach (to.lat.0 -ℤ fix.lat.0) (to.lon.0 -ℤ fix.lon.0) y.far x.far y.most x.most afar.enough)

  to_segment_far : (near : Spot) → (near.lat ≡ nan → ⊥) × (near.lon ≡ nan → ⊥) → in_span field.lat (cut32 near.lat) ≡ true → in_span field.lon (cut32 near.lon) ≡ true
      → Further least (to_segment near (spot_of fix))
  unfolding to_segment
  to_segment_far near n h k =
      let y = cut_reached afar.lat_reach fix.lat.0 field.lat afar.lat_near afar.lat_fix near.lat n.0 h afar.lat_far in
      let x = cut_reached afar.lon_reach fix.lon.0 field.lon afar.lon_near afar.lon_fix near.lon n.1 k afar.lon_far in
      reached least afar.lat_reach afar.lon_reach (cut64 (near.lat ⊟ to_f32 fix.lat.0)) (cut64 (near.lon ⊟ to_f32 fix.lon.0)) y.far x.far y.most x.most afar.enough

  -- The distance of an edge in a field that is afar is found, and is not less.
  pub afar_further : (from to : Point) → within field from ≡ true → within field to ≡ true → Further least (distance_of fix from to)
  unfolding distance_of
  afar_further from to h k = by (in_box to (cut_of near) from) refl where
    near : Spot
    near = closest_on (edge_of from to) (spot_of fix)

    number : (near.lat ≡ nan → ⊥) × (near.lon ≡ nan → ⊥)
    number = let p = within_both field from h in let q = within_both field to k in let fy = nearby_size field.lat from.lat.0 afar.lat_near p.0 in
        let fx = nearby_size field.lon from.lon.0 afar.lon_near p.1 in let ty = nearby_size field.lat to.lat.0 afar.lat_near q.0 in
        let tx = nearby_size field.lon to.lon.0 afar.lon_near q.1 in
        closest_number fix from to (omega (arith, afar.lat_fix)) (omega (arith, afar.lon_fix)) (omega (arith, fy)) (omega (arith, fx)) (omega (arith, ty)) (omega (arith, tx))

    by : (t : Bool) → in_box to (cut_of near) from ≡ t → Further least (if t then to_segment near (spot_of fix) else to_vertex to fix)
    by true e = let p = within_both field from h in let q = within_both field to k in let b = in_both to (cut_of near) from e in
        to_segment_far near number (between_span field.lat to.lat.0 (cut32 near.lat) from.lat.0 q.0 p.0 b.0)
        (between_span field.lon to.lon.0 (cut32 near.lon) from.lon.0 q.1 p.1 b.1)
    by false e = to_vertex_far to k

  -- So it changes nothing.
  pub afar_quiet : (from to : Point) → within field from ≡ true → within field to ≡ true → (w : ℤ)
      → measured true fix from to (record { winding = w; least = least }) ≡ found (record { winding = w; least = least })
  unfolding measured
  afar_quiet from to h k w = let f = afar_further from to h k in
      rw f.is (ap (λ (n : ℕ). found (record { winding = w; least = n })) (omega (arith, f.further)))

-- What is remote is afar.
pub remote_afar : (fix : Point) (least : ℕ) (field : Field) → Remote fix least field → Afar fix least field
remote_afar fix least field r =
    record {
      lat_near = r.lat_near;
      lon_near = r.lon_near;
      lat_fix = r.lat_fix;
      lon_fix = r.lon_fix;
      lat_reach = r.lat_reach;
      lon_reach = r.lon_reach;
      lat_far = inr r.lat_far;
      lon_far = inr r.lon_far;
      enough = r.enough;
    }

-- So its edges change nothing.
pub too_far_to_matter : (fix : Point) (field : Field) (tally : Tally) → Remote fix tally.least field → (from to : Point) → within field from ≡ true
    → within field to ≡ true → measured true fix from to tally ≡ found tally
too_far_to_matter fix field tally remote from to h k = afar_quiet fix field tally.least (remote_afar fix tally.least field remote) from to h k tally.winding

-- A remote field aside of the fix is calm, with the distance asked for.
pub remote_calm : (fix : Point) (tally : Tally) (field : Field) → aside fix field ≡ true → Remote fix tally.least field → Calm fix true tally field
remote_calm fix tally field beyond remote =
    record {
      keeps = λ from to h k. gliding_measures fix from to (field_quadrant fix field beyond from to h k) true tally ∙ too_far_to_matter fix field tally remote from to h k;
    }
