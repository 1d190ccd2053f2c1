-- Signed numbers and their form more 2 ^ 63, which keeps the order. Assumes nothing.
use Rattle.numbers.proofs.Prelude.{ℕ, zero, suc, ◌+◌, ◌-◌, ◌*◌, ◌^◌, ◌≤◌, ◌<◌, lt-ltb, le-ltb, ltb-true, ltb-false, eqb, ltb, T, ℤ, pos, negsuc, ◌-ℤ◌, nat_abs, mag, lt_z, Bool, true, false, ◌&&◌, List}
use Rattle.numbers.proofs.Prelude.{[], ◌∷◌, ◌≡◌, refl, ap, ◌∙◌, w32, w64, SFits, of_z, to_z, to_z-of_z, arith}
use Rattle.numbers.{proofs.{Signed.{complement, complement_fits, widens}, Tests.{both}}, specs.Answer.{if◌then◌else◌}}
use lib.Signed.{non_neg}
use mir.ValLaws.{to_z-Fits}
use Rattle.tzif.specs.{Last.{Octets}, Number.{be32, raised, time_at, signed_at, lift}}

-- ---- an instant of the code
-- -1 less a negative number is what its form lacks of 2 ^ 63 - 1
record Below (z : ℤ) : Type 0 where
  form : negsuc 0 -ℤ z ≡ pos (mag z)
  lifted : 2 ^ 63 - 1 - mag z ≡ lift z

below : (z : ℤ) → SFits w64 z → lt_z z (pos 0) ≡ true → Below z
unfolding lift
below (pos n) h e = absurd (omega (arith, ltb-true n 0 e))
below (negsuc k) h e = record { form = rw (le-ltb (suc k) 1 (omega arith)) (ap pos (omega arith)); lifted = omega arith }

pub record Above (z : ℤ) : Type 0 where
  pub sign : T (non_neg z)
  pub small : nat_abs z < 2 ^ 63
  pub lifted : nat_abs z + 2 ^ 63 ≡ lift z

above : (z : ℤ) → SFits w64 z → lt_z z (pos 0) ≡ false → Above z
unfolding lift
above (pos n) h e = record { sign = tt; small = h.sfits; lifted = refl }
above (negsuc k) h e = let z : ◌≡◌ {A = ℕ} 0 1 = cc in absurd (omega arith)

module _ (z : ℤ) (h : SFits w64 z) where
  same : to_z w64 (of_z w64 z) ≡ z
  same = to_z-of_z w64 z h

  module _ (e : lt_z (to_z w64 (of_z w64 z)) (pos 0) ≡ true) where
    it : Below z
    it = below z h (rw same at e)

    pub rest_fits : SFits w64 (negsuc 0 -ℤ to_z w64 (of_z w64 z))
    rest_fits = rw (same, it.form) (record { sfits = h.sfits })

    pub rest_form : to_z w64 (of_z w64 (negsuc 0 -ℤ to_z w64 (of_z w64 z))) ≡ pos (mag z)
    rest_form = to_z-of_z w64 _ rest_fits ∙ ap (λ (y : ℤ). negsuc 0 -ℤ y) same ∙ it.form

    pub lifted_below : 2 ^ 63 - 1 - mag z ≡ lift z
    lifted_below = it.lifted

  pub from_zero : lt_z (to_z w64 (of_z w64 z)) (pos 0) ≡ false → Above (to_z w64 (of_z w64 z))
  from_zero e = rw same (above z h (rw same at e))

  pub lifted_above : lt_z (to_z w64 (of_z w64 z)) (pos 0) ≡ false → nat_abs (to_z w64 (of_z w64 z)) + 2 ^ 63 ≡ lift z
  lifted_above e = (from_zero e).lifted ∙ ap lift same

-- ---- a time of the file: the form of its signed value, where octets are below 256
-- the octets of a file that is written out
unfoldable pub all_octets : List ℕ → Bool
all_octets [] = true
all_octets (x ∷ xs) = ltb x 256 && all_octets xs

pub octets_of : (file : List ℕ) → all_octets file ≡ true → Octets file
unfolding Octets all_octets
octets_of [] e k = omega arith
octets_of (x ∷ xs) e zero = ltb-true x 256 (both (ltb x 256) (all_octets xs) e).0
octets_of (x ∷ xs) e (suc k) = octets_of xs (both (ltb x 256) (all_octets xs) e).1 k

be32_fits : (file : List ℕ) (place : ℕ) → Octets file → be32 file place < 2 ^ 32
unfolding be32 Octets
be32_fits file place o = omega (arith, o place, o (place + 1), o (place + 2), o (place + 3))

wide_form : (high low : ℕ) → high < 2 ^ 32 → low < 2 ^ 32 → raised high * 2 ^ 32 + low ≡ lift (to_z w64 (high * 2 ^ 32 + low))
unfolding lift raised
wide_form high low h l = go (ltb high (2 ^ 31)) refl where
  go : (t : Bool) → ltb high (2 ^ 31) ≡ t → (if t then high + 2 ^ 31 else high - 2 ^ 31) * 2 ^ 32 + low ≡ lift (to_z w64 (high * 2 ^ 32 + low))
  go true e = rw (lt-ltb (high * 2 ^ 32 + low) (2 ^ 63) (omega (arith, ltb-true high (2 ^ 31) e))) (omega arith)
  go false e = rw (le-ltb (high * 2 ^ 32 + low) (2 ^ 63) (omega (arith, ltb-false high (2 ^ 31) e))) (omega (arith, ltb-false high (2 ^ 31) e))

narrow_form : (bits : ℕ) → bits < 2 ^ 32 → raised bits + (2 ^ 63 - 2 ^ 31) ≡ lift (to_z w32 bits)
unfolding lift raised
narrow_form bits h = go (ltb bits (2 ^ 31)) refl where
  go : (t : Bool) → ltb bits (2 ^ 31) ≡ t → (if t then bits + 2 ^ 31 else bits - 2 ^ 31) + (2 ^ 63 - 2 ^ 31) ≡ lift (to_z w32 bits)
  go true e = rw e (omega arith)
  go false e = rw e (omega (arith, ltb-false bits (2 ^ 31) e))

pub time_is_signed : (file : List ℕ) (width place : ℕ) → Octets file → time_at file width place ≡ lift (signed_at file width place)
unfolding time_at signed_at
time_is_signed file width place o = go (eqb width 8) where
  go : (t : Bool) → (if t then raised (be32 file place) * 2 ^ 32 + be32 file (place + 4) else raised (be32 file place) + (2 ^ 63 - 2 ^ 31)) ≡ lift
      (if t then to_z w64 (be32 file place * 2 ^ 32 + be32 file (place + 4)) else to_z w32 (be32 file place))
  go true = wide_form (be32 file place) (be32 file (place + 4)) (be32_fits file place o) (be32_fits file (place + 4) o)
  go false = narrow_form (be32 file place) (be32_fits file place o)

-- the form keeps the order of numbers of 64 bits
pub lift_keeps : (a b : ℤ) → SFits w64 a → SFits w64 b → ltb (lift a) (lift b) ≡ lt_z a b
unfolding lift
lift_keeps (pos a) (pos b) h k = go (ltb a b) refl where
  go : (t : Bool) → ltb a b ≡ t → ltb (a + 2 ^ 63) (b + 2 ^ 63) ≡ t
  go true e = lt-ltb (a + 2 ^ 63) (b + 2 ^ 63) (omega (arith, ltb-true a b e))
  go false e = le-ltb (a + 2 ^ 63) (b + 2 ^ 63) (omega (arith, ltb-false a b e))
lift_keeps (pos a) (negsuc b) h k = le-ltb (a + 2 ^ 63) (2 ^ 63 - suc b) (omega arith)
lift_keeps (negsuc a) (pos b) h k = lt-ltb (2 ^ 63 - suc a) (b + 2 ^ 63) (omega arith)
lift_keeps (negsuc a) (negsuc b) h k = go (ltb b a) refl where
  go : (t : Bool) → ltb b a ≡ t → ltb (2 ^ 63 - suc a) (2 ^ 63 - suc b) ≡ t
  go true e = lt-ltb (2 ^ 63 - suc a) (2 ^ 63 - suc b) (omega (arith, ltb-true b a e, h.sfits))
  go false e = le-ltb (2 ^ 63 - suc a) (2 ^ 63 - suc b) (omega (arith, ltb-false b a e, k.sfits))

-- ---- an i32 from its bits
pub read_high : (bits : ℕ) → 2 ^ 31 ≤ bits → bits < 2 ^ 32 → to_z w32 (of_z w32 (negsuc 0 -ℤ to_z w32 (2 ^ 32 - 1 - bits))) ≡ to_z w32 bits
read_high bits h l =
    to_z-of_z w32 _ (complement_fits w32 (2 ^ 32 - 1 - bits) (omega arith)) ∙ complement w32 (2 ^ 32 - 1 - bits) (omega arith) ∙ simp (le-ltb _ _ h) (ap negsuc (omega arith))

pub signed_fits : (file : List ℕ) (width place : ℕ) → Octets file → SFits w64 (signed_at file width place)
unfolding signed_at
signed_fits file width place o = go (eqb width 8) where
  go : (t : Bool) → SFits w64 (if t then to_z w64 (be32 file place * 2 ^ 32 + be32 file (place + 4)) else to_z w32 (be32 file place))
  go true = to_z-Fits w64 (be32 file place * 2 ^ 32 + be32 file (place + 4)) (record { fits = omega (arith, be32_fits file place o, be32_fits file (place + 4) o) })
  go false = widens w32 w64 (omega arith) (to_z w32 (be32 file place)) (to_z-Fits w32 (be32 file place) (record { fits = be32_fits file place o }))
