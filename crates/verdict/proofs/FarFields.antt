-- Coordinates near 0 as plain numbers, and the fields that are made of them. Assumes nothing.
use Rattle.numbers.proofs.Prelude.{ℕ, suc, ◌+◌, ◌-◌, ◌*◌, ◌≤◌, ◌<◌, lt-ltb, le-leb, le-ltb, ltb-true, ltb-false, ltb, T, ℤ, pos, negsuc, ◌+ℤ◌, nat_abs, mag, lt_z, le_z, Bool, true, false, ◌≡◌, refl}
use Rattle.numbers.proofs.Prelude.{sym, ap, subst, ◌∙◌, w32, SFits, arith}
use lib.{IntN.{sub_ℕ}, Signed.{non_neg}}
use Rattle.border.specs.declared.place.Point.{Point}
use Rattle.verdict.proofs.{AfarField.{remote_calm}, Gliding.{aside_of, quadrant_calm}}
use Rattle.verdict.specs.declared.{field.{Field.{Field}, Span.{Span}}, step.Tally.{Tally}}
use Rattle.verdict.specs.inner.Gliding.{beside, aside, nearby, far_from, Held, Opens, OpensFar, FarSpan, FarAbout, LiftedTo, lowered}
use Rattle.std.specs.Prelude.{Option, Some, None}
use mathlib.Core.Bool.{or-true}

-- ---- differences

above : (a b : ℕ) → b ≤ a → sub_ℕ a b ≡ pos (a - b)
above a b h = rw (le-ltb a b h)

below : (a b : ℕ) → a < b → sub_ℕ a b ≡ negsuc (b - suc a)
below a b h = rw (lt-ltb a b h)

-- z is x, counted from 2 ^ 22 below 0
pub record Lifted (x z : ℤ) : Type 0 where
  pub fits : SFits w32 z
  pub counts : T (non_neg z)
  pub most : nat_abs z ≤ 8388608
  pub back : x ≡ lowered (nat_abs z)

pub lifting : (x : ℤ) → lt_z x (negsuc 4194303) ≡ false → lt_z (pos 4194304) x ≡ false → Lifted x (x +ℤ pos 4194304)
lifting (pos n) h k = let m = ltb-false 4194304 n k in record {
  fits = record { sfits = omega (arith, m) };
  counts = tt;
  most = omega (arith, m);
  back = ap pos (omega arith) ∙ sym (above (n + 4194304) 4194304 (omega arith));
}
lifting (negsuc n) h k = let m = ltb-false 4194303 n h in
    subst (Lifted (negsuc n)) (sym (above 4194304 (suc n) (omega (arith, m))))
    (record {
      fits = record { sfits = omega (arith, m) };
      counts = tt;
      most = omega (arith, m);
      back = ap negsuc (omega (arith, m)) ∙ sym (below (4194304 - suc n) 4194304 (omega (arith, m)));
    })

-- ---- numbers that were lowered

pub low_fits : (n : ℕ) → n ≤ 33554432 → SFits w32 (lowered n)
low_fits n h = go (ltb n 4194304) refl where
  go : (t : Bool) → ltb n 4194304 ≡ t → SFits w32 (lowered n)
  go true e = let m = ltb-true n 4194304 e in rw e (record { sfits = omega (arith, m) })
  go false e = rw e (record { sfits = omega (arith, h) })

pub low_size : (n : ℕ) → n ≤ 8388608 → mag (lowered n) ≤ 4194304
low_size n h = go (ltb n 4194304) refl where
  go : (t : Bool) → ltb n 4194304 ≡ t → mag (lowered n) ≤ 4194304
  go true e = rw e (let m = ltb-true n 4194304 e in omega (arith, m))
  go false e = rw e (omega (arith, h))

pub low_le : (a b : ℕ) → a ≤ b → le_z (lowered a) (lowered b) ≡ true
low_le a b h = go (ltb a 4194304) refl (ltb b 4194304) refl where
  go : (t : Bool) → ltb a 4194304 ≡ t → (u : Bool) → ltb b 4194304 ≡ u → le_z (lowered a) (lowered b) ≡ true
  go true e true g = rw (e, g) (le-leb (4194304 - suc b) (4194304 - suc a) (omega (arith, h)))
  go true e false g = rw (e, g) refl
  go false e true g = let m = ltb-false a 4194304 e in let k = ltb-true b 4194304 g in absurd (omega (arith, m, k, h))
  go false e false g = rw (e, g) (le-leb (a - 4194304) (b - 4194304) (omega (arith, h)))

pub low_more : (n r : ℕ) → lowered n +ℤ pos r ≡ lowered (n + r)
low_more n r = go (ltb n 4194304) refl where
  below_zero : n < 4194304 → sub_ℕ r (suc (4194304 - suc n)) ≡ lowered (n + r)
  below_zero m = last (ltb r (suc (4194304 - suc n))) refl where
    last : (t : Bool) → ltb r (suc (4194304 - suc n)) ≡ t → sub_ℕ r (suc (4194304 - suc n)) ≡ lowered (n + r)
    last true e = let k = ltb-true r (suc (4194304 - suc n)) e in below r (suc (4194304 - suc n)) k ∙ ap negsuc (omega (arith, m, k)) ∙ sym (below (n + r) 4194304 (omega (arith, m, k)))
    last false e = let k = ltb-false r (suc (4194304 - suc n)) e in above r (suc (4194304 - suc n)) k ∙ ap pos (omega (arith, m, k)) ∙ sym (above (n + r) 4194304 (omega (arith, m, k)))

  go : (t : Bool) → ltb n 4194304 ≡ t → lowered n +ℤ pos r ≡ lowered (n + r)
  go true e = let m = ltb-true n 4194304 e in ap (λ (z : ℤ). z +ℤ pos r) (below n 4194304 m) ∙ below_zero m
  go false e = let m = ltb-false n 4194304 e in ap (λ (z : ℤ). z +ℤ pos r) (above n 4194304 m) ∙ ap pos (omega (arith, m)) ∙ sym (above (n + r) 4194304 (omega (arith, m)))

-- ---- spans

module _ (span : Span) (low high : ℕ) (l : span.low ≡ lowered low) (h : span.high ≡ lowered high) where
  pub near_zero : high ≤ 8388608 → nearby span ≡ true
  unfolding nearby
  near_zero k = rw (l, h, low_le 0 low (omega arith), low_le high 8388608 k) refl

  above_it : (x : ℕ) → x ≤ low → beside (lowered x) span ≡ true
  unfolding beside
  above_it x k = rw (l, low_le x low k) refl

  below_it : (x : ℕ) → high ≤ x → beside (lowered x) span ≡ true
  unfolding beside
  below_it x k = rw (h, low_le high x k) (or-true (le_z (lowered x) span.low))

  pub far_over : (x r : ℕ) → x + r ≤ low → far_from r (lowered x) span ≡ true
  unfolding far_from
  far_over x r k = rw (low_more x r, l, low_le (x + r) low k) refl

  pub far_under : (x r : ℕ) → high + r ≤ x → far_from r (lowered x) span ≡ true
  unfolding far_from
  far_under x r k = rw (h, low_more high r, low_le (high + r) x k) (or-true (le_z (lowered x +ℤ pos r) span.low))

  module _ (fix more : ℕ) (most : high ≤ 8388608) (sign : beside (lowered 4194304) span ≡ true) where
    pub far_above : fix + more ≤ low → FarSpan (lowered fix) more span
    far_above k = record { side = above_it fix (omega (arith, k)); near = near_zero most; sign = sign; far = far_over fix more k }

    pub far_below : high + more ≤ fix → FarSpan (lowered fix) more span
    far_below k = record { side = below_it fix (omega (arith, k)); near = near_zero most; sign = sign; far = far_under fix more k }

  pub sign_above : 4194304 ≤ low → beside (lowered 4194304) span ≡ true
  sign_above = above_it 4194304

  pub sign_below : high ≤ 4194304 → beside (lowered 4194304) span ≡ true
  sign_below = below_it 4194304

-- ---- fields

pub held_about : (y r x q : ℕ) (p : Point) (field : Field) → FarSpan (lowered y) r field.lat → FarSpan (lowered x) q field.lon → (o : Option Field) → Held field p o → FarAbout y r x q p o
held_about y r x q p field lat lon (Some that) h =
    (subst (λ (f : Field). FarSpan (lowered y) r f.lat) (sym h.0) lat, subst (λ (f : Field). FarSpan (lowered x) q f.lon) (sym h.0) lon, h.1)
held_about y r x q p field lat lon None h = tt

-- a field of two far spans is remote
pub about_far : (fix : Point) (least : ℕ) (p : Point) (y r x q : ℕ) → y ≤ 8388608 → x ≤ 8388608 → LiftedTo fix.lat.0 y → LiftedTo fix.lon.0 x → least ≤ r * r + 4 * (q * q)
    → (o : Option Field) → FarAbout y r x q p o → OpensFar fix least p o
about_far fix least p y r x q ymost xmost ly lx enough (Some field) h = let north = ly.1 ymost in let east = lx.1 xmost in (
  aside_of fix field (subst (λ (z : ℤ). beside z field.lat ≡ true) (sym north) h.0.side) (subst (λ (z : ℤ). beside z field.lon ≡ true) (sym east) h.1.side),
  record {
    lat_near = h.0.near;
    lon_near = h.1.near;
    lat_sign = h.0.sign;
    lon_sign = h.1.sign;
    lat_fix = subst (λ (z : ℤ). mag z ≤ 4194304) (sym north) (low_size y ymost);
    lon_fix = subst (λ (z : ℤ). mag z ≤ 4194304) (sym east) (low_size x xmost);
    lat_reach = r;
    lon_reach = q;
    lat_far = subst (λ (z : ℤ). far_from r z field.lat ≡ true) (sym north) h.0.far;
    lon_far = subst (λ (z : ℤ). far_from q z field.lon ≡ true) (sym east) h.1.far;
    enough = enough;
  },
  h.2,
)
about_far fix least p y r x q ymost xmost ly lx enough None h = tt

pub opens_far : (fix : Point) (tally : Tally) (p : Point) (r : Option Field) → OpensFar fix tally.least p r → Opens fix true tally p r
opens_far fix tally p (Some field) h = (remote_calm fix tally field h.0 h.1, h.2)
opens_far fix tally p None h = tt

pub opens_near : (fix : Point) (tally : Tally) (p : Point) (field : Field) → aside fix field ≡ true → (r : Option Field) → Held field p r → Opens fix false tally p r
opens_near fix tally p field beyond (Some that) h = (quadrant_calm fix tally that (subst (λ (f : Field). aside fix f ≡ true) (sym h.0) beyond), h.1)
opens_near fix tally p field beyond None h = tt
