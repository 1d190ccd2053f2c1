-- The rows of the grammar by a byte's range, and the loop over the bytes. Assumes nothing.
use Rattle.numbers.proofs.Prelude.{ℕ, zero, suc, ◌+◌, ◌-◌, ◌≤◌, ◌<◌, eq-eqb, ne_eqb, le-leb, lt-leb, eqb, length, drop, get_or, replicate, drop_of_length-le, drop-cons, Bool, true}
use Rattle.numbers.{proofs.Prelude.{false, List, [], ◌∷◌, map, ◌≡◌, refl, sym, ap, ◌∙◌, add-one, arith}, specs.Answer.{if◌then◌else◌}}
use lib.Bits.{bit_xor}
use Rattle.header.specs.{Utf8.{◌–◌, ◌∈◌, tail, unmasked, Pending, due, wrong, begun_by, followed, is_whole, goes_on, is_utf8, pending_of, told_step}, declared.utf8.{Due.{Due}}}
use Rattle.std.specs.Prelude.{Option, Some, None}

-- ---- a range
module _ (b low high : ℕ) where
  pub inside : low ≤ b → b ≤ high → (b ∈ (low – high)) ≡ true
  inside l h = simp (le-leb low b l, le-leb b high h)

  pub above : low ≤ high → high < b → (b ∈ (low – high)) ≡ false
  above l h = let m : low ≤ b = omega arith in simp (le-leb low b m, lt-leb b high h)

  pub below : b < low → (b ∈ (low – high)) ≡ false
  below l = simp (lt-leb low b l)

-- ---- a byte after the first
module _ (d : Due) (b : ℕ) (more : d.left ≡ 0 → ⊥) where
  abbrev rest : Pending
  rest = due (replicate (d.left - 1) tail)

  here : followed (pending_of d) b ≡ (if b ∈ (d.low – d.high) then rest else wrong)
  unfolding followed
  here = simp (ne_eqb d.left 0 more)

  pub too_low : b < d.low → wrong ≡ followed (pending_of d) b
  too_low l = sym (here ∙ simp (below b d.low d.high l))

  pub too_high : d.low ≤ b → d.high < b → wrong ≡ followed (pending_of d) b
  too_high l h = sym (here ∙ simp (le-leb d.low b l, lt-leb b d.high h))

  pub right : d.low ≤ b → b ≤ d.high → rest ≡ followed (pending_of d) b
  right l h = sym (here ∙ simp (inside b d.low d.high l h))

-- so many tails
pub tails : (n : ℕ) → due (replicate n tail) ≡ pending_of (record { low = 0x80; high = 0xBF; left = n })
tails zero = refl
tails (suc n) = let k : suc n - 1 ≡ n = omega arith in simp (ne_eqb (suc n) 0 (λ e. omega arith), k)

pub first_byte : (d : Due) (b : ℕ) → d.left ≡ 0 → begun_by b ≡ followed (pending_of d) b
unfolding followed
first_byte d b e = sym (simp (eq-eqb d.left 0 e))

-- ---- all bytes
pub stays_wrong : (bs : List ℕ) → false ≡ goes_on bs wrong
unfolding goes_on followed
stays_wrong [] = refl
stays_wrong (b ∷ bs) = stays_wrong bs

-- before each turn: what is still to come decides
pub record Going (stored : List ℕ) (pending : Due) (i : ℕ) : Type 0 where
  pub at : i ≤ length stored
  pub so_far : goes_on (map unmasked (drop i stored)) (pending_of pending) ≡ is_utf8 (map unmasked stored)

pub starts : (stored : List ℕ) → Going stored (record { low = 0x80; high = 0xBF; left = 0 }) 0
unfolding is_utf8
starts stored = record { at = omega arith; so_far = refl }

module _ {stored : List ℕ} {pending : Due} {i : ℕ} (g : Going stored pending i) where
  module _ (more : i < length stored) where
    opened : goes_on (map unmasked (drop (i + 1) stored)) (followed (pending_of pending) (bit_xor (get_or stored i 0) 0x80)) ≡ is_utf8 (map unmasked stored)
    unfolding goes_on
    opened = rw add-one (ap (λ (bs : List ℕ). goes_on (map unmasked bs) (pending_of pending)) (sym (drop-cons stored i 0 more)) ∙ g.so_far)

    module _ (step : Option Due) (e : told_step step ≡ followed (pending_of pending) (bit_xor (get_or stored i 0) 0x80)) where
      told_so : goes_on (map unmasked (drop (i + 1) stored)) (told_step step) ≡ is_utf8 (map unmasked stored)
      told_so = ap (goes_on (map unmasked (drop (i + 1) stored))) e ∙ opened

      pub goes : {next : Due} → step ≡ Some next → Going stored next (i + 1)
      goes is = record { at = omega arith; so_far = rw is at told_so }

      pub fails : step ≡ None → false ≡ is_utf8 (map unmasked stored)
      fails is = stays_wrong _ ∙ rw is at told_so

  pub ends : length stored ≤ i → eqb pending.left 0 ≡ is_utf8 (map unmasked stored)
  unfolding goes_on
  ends past = whole (eqb pending.left 0) ∙ ap (λ (bs : List ℕ). goes_on (map unmasked bs) (pending_of pending)) (sym (drop_of_length-le stored {i = i} past)) ∙ g.so_far where
    whole : (t : Bool) → t ≡ is_whole (if t then due [] else due ((pending.low – pending.high) ∷ replicate (pending.left - 1) tail))
    whole true = refl
    whole false = refl
