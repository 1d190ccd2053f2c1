-- A box that the test calls far is afar as a field, and holds as a field the points that it holds. Assumes nothing.
use Rattle.numbers.proofs.Prelude.{ℕ, suc, ◌+◌, ◌-◌, ◌≤◌, ◌<◌, lt-ltb, le-ltb, leb-true, ltb-true, eqb-true, ltb-false, eqb-false, eqb, ltb, ℤ, pos, negsuc, ◌+ℤ◌, ◌-ℤ◌, nat_abs, mag, lt_z, le_z, Bool}
use Rattle.numbers.{proofs.{Prelude.{true, false, ◌&&◌, cond, inl, inr, ◌≡◌, refl, sym, ap, subst, ◌∙◌, arith}, Tests.{both, differ}}, specs.Answer.{if◌then◌else◌}}
use lib.IntN.{+ℤ-neg_ℤ_cancel}
use Rattle.border.specs.{Box.{Box, holds}, declared.place.Point.{Point}}
use Rattle.verdict.proofs.FarFields.{Lifted, lifting, low_size, low_more, near_zero, far_over, far_under}
use Rattle.verdict.specs.{Far.{small, is_small, raised, gap_of, gap_about, is_afar}, inner.{Afar.{Reaches, Afar, span_of, field_of}, Gliding.{in_span, within, nearby, lowered}}}

-- ---- small numbers

pub small_lifted : (z : ℤ) → small z ≡ true → Lifted z (z +ℤ pos 4194304)
unfolding small
small_lifted (pos n) e = let m = ltb-true n 4194304 e in lifting (pos n) refl (le-ltb 4194304 n (omega (arith, m)))
small_lifted (negsuc n) e = let m = ltb-true n 4194303 (both (ltb n 4194303) true e).0 in lifting (negsuc n) (le-ltb 4194303 n (omega (arith, m))) refl

record Raised (z : ℤ) : Type 0 where
  some : 0 < raised z
  most : raised z < 8388608
  back : z ≡ lowered (raised z)

small_raised : (z : ℤ) → small z ≡ true → Raised z
unfolding raised small
small_raised z e = record { some = (bounds z e).0; most = (bounds z e).1; back = (small_lifted z e).back } where
  bounds : (z : ℤ) → small z ≡ true → (0 < nat_abs (z +ℤ pos 4194304)) × (nat_abs (z +ℤ pos 4194304) < 8388608)
  bounds (pos n) e = let m = ltb-true n 4194304 e in (omega arith, omega (arith, m))
  bounds (negsuc n) e = let m = ltb-true n 4194303 (both (ltb n 4194303) true e).0 in
      let u : ltb 4194304 (suc n) ≡ false = le-ltb 4194304 (suc n) (omega (arith, m)) in rw u (omega (arith, m), omega (arith, m))

pub raised_most : (z : ℤ) → small z ≡ true → raised z ≤ 8388608
raised_most z e = let r = small_raised z e in omega (arith, r.most)

pub gap_most : (low x high : ℕ) → low ≤ 8388608 → x ≤ 8388608 → gap_of low x high ≤ 8388608
unfolding gap_of
gap_most low x high h k = go (ltb x low) where
  go : (t : Bool) → (if t then low - x - 1 else x - high - 1) ≤ 8388608
  go true = omega (arith, h)
  go false = omega (arith, k)

-- ---- one coordinate

module _ (low x high : ℤ) (l : small low ≡ true) (k : small x ≡ true) (h : small high ≡ true) where
  abbrev a : ℕ
  a = raised low

  abbrev b : ℕ
  b = raised x

  abbrev c : ℕ
  c = raised high

  starts : low -ℤ pos 1 ≡ lowered (a - 1)
  starts = let r = small_raised low l in let e : a - 1 + 1 ≡ a = omega (arith, r.some) in let up = low_more (a - 1) 1 ∙ ap lowered e ∙ sym r.back in
      ap (λ (z : ℤ). z -ℤ pos 1) (sym up) ∙ +ℤ-neg_ℤ_cancel (lowered (a - 1)) (pos 1)

  ends : high +ℤ pos 1 ≡ lowered (c + 1)
  ends = ap (λ (z : ℤ). z +ℤ pos 1) (small_raised high h).back ∙ low_more c 1

  near_so : nearby (span_of low high) ≡ true
  near_so = let r = small_raised high h in near_zero (span_of low high) (a - 1) (c + 1) starts ends (omega (arith, r.most))

  fix_so : mag x ≤ 4194304
  fix_so = let r = small_raised x k in subst (λ (z : ℤ). mag z ≤ 4194304) (sym r.back) (low_size b (omega (arith, r.most)))

  reaches_so : Reaches (gap_about low x high) x (span_of low high)
  unfolding gap_of
  reaches_so = subst (λ (z : ℤ). Reaches (gap_about low x high) z (span_of low high)) (sym (small_raised x k).back) (go (ltb b a) refl) where
    beyond : (t : Bool) → eqb (b - c - 1) 0 ≡ t → Reaches (b - c - 1) (lowered b) (span_of low high)
    beyond true e = inl (eqb-true (b - c - 1) 0 e)
    beyond false e = let n = eqb-false (b - c - 1) 0 e in inr (far_under (span_of low high) (a - 1) (c + 1) starts ends b (b - c - 1) (omega (arith, n)))

    go : (t : Bool) → ltb b a ≡ t → Reaches (if t then a - b - 1 else b - c - 1) (lowered b) (span_of low high)
    go true e = let m = ltb-true b a e in inr (far_over (span_of low high) (a - 1) (c + 1) starts ends b (a - b - 1) (omega (arith, m)))
    go false e = beyond (eqb (b - c - 1) 0) refl

-- ---- the box

-- what a box that holds a point says of its coordinates
pub holds_parts : (box : Box) (p : Point) → holds box p ≡ true
    → (le_z box.low.lat.0 p.lat.0 ≡ true) × (le_z p.lat.0 box.high.lat.0 ≡ true) × (le_z box.low.lon.0 p.lon.0 ≡ true) × (le_z p.lon.0 box.high.lon.0 ≡ true)
holds_parts box p e =
    let two = both (le_z box.low.lat.0 p.lat.0 && le_z p.lat.0 box.high.lat.0) (le_z box.low.lon.0 p.lon.0 && le_z p.lon.0 box.high.lon.0) e in
    let lat = both (le_z box.low.lat.0 p.lat.0) (le_z p.lat.0 box.high.lat.0) two.0 in
    let lon = both (le_z box.low.lon.0 p.lon.0) (le_z p.lon.0 box.high.lon.0) two.1 in (lat.0, lat.1, lon.0, lon.1)

-- the coordinates of a location and of two corners are small
pub record Smalls (fix low high : Point) : Type 0 where
  pub lat_fix : small fix.lat.0 ≡ true
  pub lon_fix : small fix.lon.0 ≡ true
  pub lat_low : small low.lat.0 ≡ true
  pub lon_low : small low.lon.0 ≡ true
  pub lat_high : small high.lat.0 ≡ true
  pub lon_high : small high.lon.0 ≡ true

pub smalls : (fix low high : Point) → (is_small fix && (is_small low && is_small high)) ≡ true → Smalls fix low high
unfolding is_small
smalls fix low high e = let f = both (is_small fix) (is_small low && is_small high) e in let g = both (is_small low) (is_small high) f.1 in
    let p = both (small fix.lat.0) (small fix.lon.0) f.0 in let q = both (small low.lat.0) (small low.lon.0) g.0 in
    let r = both (small high.lat.0) (small high.lon.0) g.1 in
    record { lat_fix = p.0; lon_fix = p.1; lat_low = q.0; lon_low = q.1; lat_high = r.0; lon_high = r.1 }

-- A box that is far by the test is afar.
pub afar_box : (fix : Point) (least : ℕ) (box : Box) → is_afar fix least box.low box.high ≡ true → Afar fix least (field_of box)
unfolding is_afar
afar_box fix least box e = let low = box.low in let high = box.high in let all = both (is_small fix && (is_small low && is_small high)) _ e in
    let s = smalls fix low high all.0 in record {
      lat_near = near_so low.lat.0 fix.lat.0 high.lat.0 s.lat_low s.lat_fix s.lat_high;
      lon_near = near_so low.lon.0 fix.lon.0 high.lon.0 s.lon_low s.lon_fix s.lon_high;
      lat_fix = fix_so low.lat.0 fix.lat.0 high.lat.0 s.lat_low s.lat_fix s.lat_high;
      lon_fix = fix_so low.lon.0 fix.lon.0 high.lon.0 s.lon_low s.lon_fix s.lon_high;
      lat_reach = gap_about low.lat.0 fix.lat.0 high.lat.0;
      lon_reach = gap_about low.lon.0 fix.lon.0 high.lon.0;
      lat_far = reaches_so low.lat.0 fix.lat.0 high.lat.0 s.lat_low s.lat_fix s.lat_high;
      lon_far = reaches_so low.lon.0 fix.lon.0 high.lon.0 s.lon_low s.lon_fix s.lon_high;
      enough = leb-true least _ all.1;
    }

less_before : (a b : ℤ) → le_z a b ≡ true → lt_z (a -ℤ pos 1) b ≡ true
less_before (pos a) (pos b) h = go (ltb a 1) refl where
  go : (t : Bool) → ltb a 1 ≡ t → lt_z (cond t (negsuc (1 - suc a)) (pos (a - 1))) (pos b) ≡ true
  go true e = refl
  go false e = lt-ltb (a - 1) b (omega (arith, ltb-false a 1 e, leb-true a b h))
less_before (pos a) (negsuc b) h = differ h
less_before (negsuc a) (pos b) h = refl
less_before (negsuc a) (negsuc b) h = lt-ltb b (suc (a + 0)) (omega (arith, leb-true b a h))

less_after : (a b : ℤ) → le_z a b ≡ true → lt_z a (b +ℤ pos 1) ≡ true
less_after (pos a) (pos b) h = lt-ltb a (b + 1) (omega (arith, leb-true a b h))
less_after (pos a) (negsuc b) h = differ h
less_after (negsuc a) (pos b) h = refl
less_after (negsuc a) (negsuc b) h = go (ltb 1 (suc b)) refl where
  go : (t : Bool) → ltb 1 (suc b) ≡ t → lt_z (negsuc a) (cond t (negsuc (suc b - suc 1)) (pos (1 - suc b))) ≡ true
  go true e = lt-ltb (suc b - suc 1) a (omega (arith, ltb-true 1 (suc b) e, leb-true b a h))
  go false e = refl

-- What a box holds, it holds as a field.
pub held_within : (box : Box) (p : Point) → holds box p ≡ true → within (field_of box) p ≡ true
unfolding within in_span
held_within box p e = let q = holds_parts box p e in
    rw (
      less_before box.low.lat.0 p.lat.0 q.0,
      less_after p.lat.0 box.high.lat.0 q.1,
      less_before box.low.lon.0 p.lon.0 q.2,
      less_after p.lon.0
          box.high.lon.0 q.3,
    )
