-- The ways through what a string gives, and through the comparison of two local times. Assumes nothing.
use Rattle.numbers.proofs.Prelude.{ℕ, zero, suc, ◌+◌, ◌-◌, ◌^◌, ◌≤◌, ◌<◌, eq-eqb, ne_eqb, eqb, ltb, ℤ, pos, ◌-ℤ◌, mag, true, false, List, ◌≡◌, refl, sym, ap, ◌∙◌, w32, w64, SFits, of_z}
use Rattle.numbers.proofs.{Prelude.{to_z, to_z-of_z, arith}, Signed.{mag_cond}}
use Rattle.numbers.proofs.Prelude.{length, take, drop, get_or, drop-cons, ◌&&◌, ◌∷◌, Bool}
use Rattle.numbers.specs.Answer.{if◌then◌else◌}
use Rattle.std.specs.Prelude.{nat_eq}
use lib.Pointwise.{pointwise}
use mir.ValLaws.{to_z_pos}
use Rattle.localtime.specs.Found.{east_of, found_of, same_octets, same_found}
use Rattle.tzif.specs.{Number.{octet}, declared.local.Found.{Found}}
use Rattle.tzrule.specs.declared.ask.Time.{Time}

pub east_small : (west : ℕ) → west ≤ 1209600 → mag (east_of west) < 2 ^ 31
unfolding east_of
east_small zero h = omega arith
east_small (suc w) h = mag_cond (ltb 604800 (suc w)) (suc w - suc 604800) (604800 - suc w) (2 ^ 31) (omega arith) (omega arith)

module _ (west : ℕ) (short : west ≤ 1209600) where
  west_is : to_z w64 west ≡ pos west
  west_is = to_z_pos w64 west (omega arith)

  sum_is : pos 604800 -ℤ to_z w64 west ≡ east_of west
  unfolding east_of
  sum_is = ap (λ (z : ℤ). pos 604800 -ℤ z) west_is

  pub difference_fits : SFits w64 (pos 604800 -ℤ to_z w64 west)
  difference_fits = rw sum_is (record { sfits = omega (arith, east_small west short) })

  east_wide : to_z w64 (of_z w64 (pos 604800 -ℤ to_z w64 west)) ≡ east_of west
  east_wide = to_z-of_z w64 _ difference_fits ∙ sum_is

  pub east_fits : SFits w32 (to_z w64 (of_z w64 (pos 604800 -ℤ to_z w64 west)))
  east_fits = rw east_wide (record { sfits = east_small west short })

  pub east_is : to_z w32 (of_z w32 (to_z w64 (of_z w64 (pos 604800 -ℤ to_z w64 west)))) ≡ east_of west
  east_is = to_z-of_z w32 _ east_fits ∙ east_wide

-- a local time by its four numbers
pub found_is : (time : Time) {offset : ℤ} → offset ≡ east_of time.clock.west →
    record { offset = offset; daylight = time.daylight; place = time.clock.name.start; length = time.clock.name.end - time.clock.name.start } ≡ found_of time
unfolding found_of
found_is time e = ap (λ (z : ℤ). record { offset = z; daylight = time.daylight; place = time.clock.name.start; length = time.clock.name.end - time.clock.name.start }) e

-- octets one after the other, in two slices
module _ (file : List ℕ) where
  at_front : (s t x : Bool) → (if (s && t) then x else false) ≡ (s && (if t then x else false))
  at_front true t x = refl
  at_front false t x = refl

  same_front : (n a b : ℕ) → same_octets file a b (suc n) ≡ (eqb (octet file a) (octet file b) && same_octets file (suc a) (suc b) n)
  unfolding same_octets
  same_front zero a b = let one : a + 0 ≡ a = omega arith in let two : b + 0 ≡ b = omega arith in
      rw (one, two) (go (eqb (octet file a) (octet file b))) where
        go : (s : Bool) → s ≡ (s && true)
        go true = refl
        go false = refl
  same_front (suc n) a b = let one : a + suc n ≡ suc a + n = omega arith in let two : b + suc n ≡ suc b + n = omega arith in
      rw (one, two) (ap (λ (t : Bool). if t then eqb (octet file (suc a + n)) (octet file (suc b + n)) else false) (same_front n a b)
      ∙ at_front (eqb (octet file a) (octet file b)) (same_octets file (suc a) (suc b) n) (eqb (octet file (suc a + n)) (octet file (suc b + n))))

  slices_same : (n a b : ℕ) → a + n ≤ length file → b + n ≤ length file → pointwise nat_eq (take n (drop a file)) (take n (drop b file)) ≡ same_octets file a b n
  unfolding same_octets
  slices_same zero a b h k = refl
  slices_same (suc n) a b h k = let one : drop a file ≡ get_or file a 0 ∷ drop (suc a) file = drop-cons file a 0 (omega arith) in
      let two : drop b file ≡ get_or file b 0 ∷ drop (suc b) file = drop-cons file b 0 (omega arith) in
      rw (one, two) (ap (λ (t : Bool). eqb (get_or file a 0) (get_or file b 0) && t) (slices_same n (suc a) (suc b) (omega arith) (omega arith)) ∙ sym (same_front n a b))

  pub same_slices : (count a b : ℕ) → a + count ≤ length file → b + count ≤ length file
      → pointwise nat_eq (take (a + count - a) (drop a file)) (take (b + count - b) (drop b file)) ≡ same_octets file a b count
  same_slices count a b h k = let one : a + count - a ≡ count = omega arith in let two : b + count - b ≡ count = omega arith in
      rw (one, two) (slices_same count a b h k)

-- the four ways of two local times
module _ (file : List ℕ) (a b : Found) where
  pub other_offset : (of_z w32 a.offset ≡ of_z w32 b.offset → ⊥) → false ≡ same_found file a b
  unfolding same_found
  other_offset h = simp (ne_eqb (of_z w32 a.offset) (of_z w32 b.offset) h)

  module _ (o : of_z w32 a.offset ≡ of_z w32 b.offset) where
    offsets : eqb (of_z w32 a.offset) (of_z w32 b.offset) ≡ true
    offsets = eq-eqb (of_z w32 a.offset) (of_z w32 b.offset) o

    pub other_daylight : (a.daylight ≡ b.daylight → ⊥) → false ≡ same_found file a b
    unfolding same_found
    other_daylight h = simp (offsets, ne_eqb a.daylight b.daylight h)

    module _ (d : a.daylight ≡ b.daylight) where
      pub other_length : (a.length ≡ b.length → ⊥) → false ≡ same_found file a b
      unfolding same_found
      other_length h = simp (offsets, eq-eqb a.daylight b.daylight d, ne_eqb a.length b.length h)

      -- whichever length was taken
      pub same_so_far : a.length ≡ b.length → {n : ℕ} → n ≡ a.length → same_octets file a.place b.place n ≡ same_found file a b
      unfolding same_found
      same_so_far l e = rw e (simp (offsets, eq-eqb a.daylight b.daylight d, eq-eqb a.length b.length l))
