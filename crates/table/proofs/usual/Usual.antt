-- Numbers of three bytes: how their first and last byte order them. Assumes nothing.
use Rattle.numbers.proofs.Prelude.{ℕ, zero, suc, ◌+◌, ◌*◌, ◌/◌, ◌%◌, ◌^◌, ◌≤◌, ◌<◌, le-leb, leb-true, ltb-true, ltb, leb, ℤ, pos, neg_ℤ, length, get_or, lt_z, le_z, Bool, true, false, List, ◌≡◌, refl}
use Rattle.numbers.{proofs.{Prelude.{sym, subst, ◌∙◌, arith}, Spelling.{even_back, odd_back}, Tests.{differ}}, specs.Point.{signed_of}}
use Rattle.border.specs.declared.place.Point.{Point}
use Rattle.table.proofs.pass.Passing.{near_three, below_missed, bounding}
use Rattle.table.specs.inner.{Passing.{Near, Bounding}, Usual.{GoesOn, Ends, FourLong, long_at, usual_bounds, Under, Over}}
use Rattle.verdict.proofs.Gliding.{le_less, less_le_less}

-- ---- the order of signed numbers of one sign
even_order : (a b : ℕ) → a ≤ b → b < 2 ^ 31 → le_z (signed_of (2 * a)) (signed_of (2 * b)) ≡ true
even_order a b h k = rw (even_back a (omega arith), even_back b k) (le-leb a b h)

below_zero : (a b : ℕ) → a ≤ b → le_z (neg_ℤ (pos b)) (neg_ℤ (pos a)) ≡ true
below_zero zero zero h = refl
below_zero zero (suc b) h = refl
below_zero (suc a) zero h = absurd (omega arith)
below_zero (suc a) (suc b) h = le-leb a b (omega arith)

odd_order : (a b : ℕ) → a ≤ b → b < 2 ^ 31 → le_z (signed_of (2 * b + 1)) (signed_of (2 * a + 1)) ≡ true
odd_order a b h k = rw (odd_back a (omega arith), odd_back b k) (below_zero a b h)

-- ---- the order of any two
-- what is not below a number is not below what is at most that
not_over : (x a b : ℤ) → le_z a b ≡ true → lt_z x b ≡ false → lt_z x a ≡ false
not_over x a b h k = go (lt_z x a) refl where
  go : (t : Bool) → lt_z x a ≡ t → lt_z x a ≡ false
  go false e = e
  go true e = differ (sym k ∙ less_le_less x a b e h)

-- ---- a number by its first and its last byte
module _ (low middle high : ℕ) (small : high < 256) where
  pub even_high : low % 2 ≡ 0 → le_z (signed_of (low % 128 + 128 * (middle % 128 + 128 * high))) (signed_of (16384 * high + 16382)) ≡ true
  even_high e = let n = low % 128 + 128 * (middle % 128 + 128 * high) in let half : 2 * (n / 2) ≡ n = omega (arith, e) in
      let most : 2 * (8192 * high + 8191) ≡ 16384 * high + 16382 = omega arith in
      subst (λ (x : ℕ). le_z (signed_of x) (signed_of (16384 * high + 16382)) ≡ true) half
      (subst (λ (x : ℕ). le_z (signed_of (2 * (n / 2))) (signed_of x) ≡ true) most (even_order (n / 2) (8192 * high + 8191) (omega arith) (omega (arith, small))))

  pub odd_high : low % 2 ≡ 1 → le_z (signed_of (low % 128 + 128 * (middle % 128 + 128 * high))) (signed_of (16384 * high + 1)) ≡ true
  odd_high e = let n = low % 128 + 128 * (middle % 128 + 128 * high) in let half : 2 * (n / 2) + 1 ≡ n = omega (arith, e) in
      let least : 2 * (8192 * high) + 1 ≡ 16384 * high + 1 = omega arith in
      subst (λ (x : ℕ). le_z (signed_of x) (signed_of (16384 * high + 1)) ≡ true) half
      (subst (λ (x : ℕ). le_z (signed_of (2 * (n / 2) + 1)) (signed_of x) ≡ true) least (odd_order (8192 * high) (n / 2) (omega arith) (omega (arith, small))))

  pub even_low : low % 2 ≡ 0 → le_z (signed_of (16384 * high)) (signed_of (low % 128 + 128 * (middle % 128 + 128 * high))) ≡ true
  even_low e = let n = low % 128 + 128 * (middle % 128 + 128 * high) in let half : 2 * (n / 2) ≡ n = omega (arith, e) in
      let least : 2 * (8192 * high) ≡ 16384 * high = omega arith in
      subst (λ (x : ℕ). le_z (signed_of (16384 * high)) (signed_of x) ≡ true) half
      (subst (λ (x : ℕ). le_z (signed_of x) (signed_of (2 * (n / 2))) ≡ true) least (even_order (8192 * high) (n / 2) (omega arith) (omega (arith, small))))

  pub odd_low : low % 2 ≡ 1 → le_z (signed_of (16384 * high + 16383)) (signed_of (low % 128 + 128 * (middle % 128 + 128 * high))) ≡ true
  odd_low e = let n = low % 128 + 128 * (middle % 128 + 128 * high) in let half : 2 * (n / 2) + 1 ≡ n = omega (arith, e) in
      let most : 2 * (8192 * high + 8191) + 1 ≡ 16384 * high + 16383 = omega arith in
      subst (λ (x : ℕ). le_z (signed_of (16384 * high + 16383)) (signed_of x) ≡ true) half
      (subst (λ (x : ℕ). le_z (signed_of x) (signed_of (2 * (n / 2) + 1)) ≡ true) most (odd_order (n / 2) (8192 * high + 8191) (omega arith) (omega (arith, small))))

odd : (n : ℕ) → (n % 2 ≡ 0 → ⊥) → n % 2 ≡ 1
odd n e = omega (arith, e)

-- ---- the bytes that were looked at
module _ (file : List ℕ) (place : ℕ) where
  pub going : {low middle : ℕ} → low ≡ get_or file place 0 → 128 ≤ low → middle ≡ get_or file (place + 1) 0 → leb 128 middle ≡ true → GoesOn file place
  going a h b k = record { low = subst (λ (n : ℕ). 128 ≤ n) a h; middle = subst (λ (n : ℕ). 128 ≤ n) b (leb-true 128 _ k) }

  pub ended : {high : ℕ} → high ≡ get_or file (place + 2) 0 → ltb high 128 ≡ true → Ends file place
  ended b k = record { high = subst (λ (n : ℕ). n < 128) b (ltb-true _ 128 k) }

  module _ {low high : ℕ} (a : low ≡ get_or file place 0) (b : high ≡ get_or file (place + 2) 0) (small : high < 256) where
    -- the number by these two bytes
    abbrev by : ℕ → ℕ → ℕ
    by x y = x % 128 + 128 * (get_or file (place + 1) 0 % 128 + 128 * y)

    there : by low high ≡ long_at file place
    there = λ i. by (a i) (b i)

    -- read back
    back : (r z : ℤ) → le_z (signed_of (by low high)) z ≡ true → r ≡ z → le_z (signed_of (long_at file place)) r ≡ true
    back r z h e = subst (λ (x : ℕ). le_z (signed_of x) r ≡ true) there (subst (λ (y : ℤ). le_z (signed_of (by low high)) y ≡ true) (sym e) h)

    front : (r z : ℤ) → le_z z (signed_of (by low high)) ≡ true → r ≡ z → le_z r (signed_of (long_at file place)) ≡ true
    front r z h e = subst (λ (x : ℕ). le_z r (signed_of x) ≡ true) there (subst (λ (y : ℤ). le_z y (signed_of (by low high)) ≡ true) (sym e) h)

    pub high_even : low % 2 ≡ 0 → (r : ℤ) → r ≡ signed_of (16384 * high + 16382) → le_z (signed_of (long_at file place)) r ≡ true
    high_even e r = back r _ (even_high low (get_or file (place + 1) 0) high small e)

    pub high_odd : (low % 2 ≡ 0 → ⊥) → (r : ℤ) → r ≡ signed_of (16384 * high + 1) → le_z (signed_of (long_at file place)) r ≡ true
    high_odd e r = back r _ (odd_high low (get_or file (place + 1) 0) high small (odd low e))

    pub low_even : low % 2 ≡ 0 → (r : ℤ) → r ≡ signed_of (16384 * high) → le_z r (signed_of (long_at file place)) ≡ true
    low_even e r = front r _ (even_low low (get_or file (place + 1) 0) high small e)

    pub low_odd : (low % 2 ≡ 0 → ⊥) → (r : ℤ) → r ≡ signed_of (16384 * high + 16383) → le_z r (signed_of (long_at file place)) ≡ true
    low_odd e r = front r _ (odd_low low (get_or file (place + 1) 0) high small (odd low e))

-- ---- four numbers of three bytes
module _ {file : List ℕ} where
  long_near : (place : ℕ) {next : ℕ} → GoesOn file place → Ends file place → place + 2 < length file → place + 3 ≡ next → Near file place (record { value = long_at file place; place = next })
  long_near place on end room e =
      subst (λ (n : ℕ). Near file place (record { value = long_at file place; place = n })) e (near_three file place room refl on.low refl on.middle refl end.high)

  pub usual_four : (place : ℕ) → place + 11 < length file → FourLong file place → Bounding file place (usual_bounds file place) (place + 12)
  usual_four place room four =
      bounding (long_near place four.south_on four.south_ends (omega arith) refl) (long_near (place + 3) four.on.west four.end.west (omega arith)
      (omega arith)) (long_near (place + 6) four.on.north four.end.north (omega arith) (omega arith)) (long_near (place + 9) four.on.east
      four.end.east (omega arith) (omega arith)) refl

  -- ---- by the tests
  pub seen_under : (place : ℕ) (fix : Point) → FourLong file place → (south north : ℤ) → le_z (signed_of (long_at file place)) south ≡ true → lt_z fix.lat.0 south ≡ false
      → le_z (signed_of (long_at file (place + 6))) north ≡ true → lt_z north fix.lat.0 ≡ true → Under file place fix
  seen_under place fix four south north h k l m = record {
    there = four;
    low = not_over fix.lat.0 (signed_of (long_at file place)) south h k;
    missed = below_missed (usual_bounds file place) fix (le_less (signed_of (long_at file (place + 6))) north fix.lat.0 l m);
  }

  pub seen_over : (place : ℕ) (fix : Point) → FourLong file place → (south : ℤ) → le_z south (signed_of (long_at file place)) ≡ true → lt_z fix.lat.0 south ≡ true → Over file place fix
  seen_over place fix four south h k = record { there = four; above = less_le_less fix.lat.0 south (signed_of (long_at file place)) k h }
