-- What passed checks say: no fault in all is no fault in each, and times that 48 or 54 finds no fault with rise. Assumes nothing.
use Rattle.numbers.proofs.Prelude.{ℕ, zero, suc, ◌+◌, ◌-◌, ◌≤◌, ◌<◌, ne_eqb, leb-true, ltb-true, ltb-false, eqb, ltb, Bool, true, false, ◌&&◌, ◌||◌, List, ◌≡◌, refl, arith}
use Rattle.numbers.specs.Answer.{if◌then◌else◌}
use Rattle.tzif.specs.{Check.{leap_place, correction_of, correction_before, one_apart, occurs_later, is_expiry, check_time, check_leap, check_leaps}, Part.{count_of, check_of, check_part}}
use Rattle.tzif.specs.{Reply.{Reply, given, refused, refusal, demand, each, ◌>>◌}, Times.{time_in, transitions_of, occurrences_of, Rises}, declared.block.Block.{Block}}
use Rattle.tzif.specs.declared.{refusal.Refusal.{Refusal}, times.Times.{Times}}
use Rattle.tzif.specs.Part as P

-- ---- one check after another
pub both_given : {B : Type 0} {it : B} (a : Reply (Unit {0})) (b : Reply B) → (a >> b) ≡ given it → (a ≡ given tt) × (b ≡ given it)
unfolding ◌>>◌
both_given (given u) b e = (refl, e)
both_given (refused why) b e = let z : ◌≡◌ {A = ℕ} 0 1 = cc in absurd (omega arith)

pub each_passed : (check : ℕ → Reply (Unit {0})) (n : ℕ) → each n check ≡ given tt → (k : ℕ) → k < n → check k ≡ given tt
unfolding each
each_passed check zero e k l = absurd (omega arith)
each_passed check (suc m) e k l = go (ltb k m) refl (both_given (each m check) (check m) e) (λ p. each_passed check m p k) where
  go : (t : Bool) → ltb k m ≡ t → (each m check ≡ given tt) × (check m ≡ given tt) → (each m check ≡ given tt → k < m → check k ≡ given tt) → check k ≡ given tt
  go true t both earlier = earlier both.0 (ltb-true k m t)
  go false t both earlier = let same : k ≡ m = omega (arith, ltb-false k m t) in rw same both.1

pub held : (t : Bool) (why : Refusal) → demand t why ≡ given tt → t ≡ true
unfolding demand
held true why e = refl
held false why e = let z : ◌≡◌ {A = ℕ} 0 1 = cc in absurd (omega arith)

-- ---- times that rise
module _ (file : List ℕ) (block : Block) where
  pub transitions_rise : check_part file block P.Times ≡ given tt → Rises file (transitions_of block)
  unfolding check_part count_of check_of check_time
  transitions_rise passed = record {
    next = λ i l.
        let here = each_passed (check_time file block) block.timecnt passed (suc i) l in
        let later = rw (ne_eqb (suc i) 0 (λ e. omega (arith, e))) at here in
        let same : suc i - 1 ≡ i = omega arith in
        ltb-true _ _ (rw same at (held _ _ later));
  }

  leap_spaced : (i : ℕ) → occurs_later file block (suc i) ≡ true → time_in file (occurrences_of block) i + 2419199 ≤ time_in file (occurrences_of block) (suc i)
  unfolding occurs_later
  leap_spaced i e = let later = rw (ne_eqb (suc i) 0 (λ z. omega (arith, z))) at e in let same : suc i - 1 ≡ i = omega arith in leb-true _ _ (rw same at later)

  -- an expiry lies above the record before it, a leap second 28 days less a second or more
  leap_above : (fourth : Bool) (i : ℕ) → check_leap file fourth block (suc i) ≡ given tt → time_in file (occurrences_of block) i < time_in file (occurrences_of block) (suc i)
  unfolding check_leap
  leap_above fourth i = go (fourth && is_expiry file block (suc i)) where
    go : (t : Bool) → (if t then demand (ltb (time_in file (occurrences_of block) (suc i - 1)) (time_in file (occurrences_of block) (suc i))) (refusal 54 (leap_place block (suc i)))
        else (demand (occurs_later file block (suc i)) (refusal 54 (leap_place block (suc i)))
        >> demand ((eqb (suc i) 0 && fourth) || one_apart (correction_before file block (suc i)) (correction_of file block (suc i))) (refusal 55 (leap_place block (suc i) + block.width)))) ≡ given tt
        → time_in file (occurrences_of block) i < time_in file (occurrences_of block) (suc i)
    go true e = let same : suc i - 1 ≡ i = omega arith in ltb-true _ _ (rw same at (held _ _ e))
    go false e = omega (arith, leap_spaced i (held _ _ (both_given _ _ e).0))

  pub occurrences_rise : (fourth : Bool) → check_leaps file fourth block ≡ given tt → Rises file (occurrences_of block)
  unfolding check_leaps
  occurrences_rise fourth passed = record { next = λ i l. leap_above fourth i (each_passed (check_leap file fourth block) block.leapcnt passed (suc i) l) }

pub rises : {file : List ℕ} {times : Times} → Rises file times → (i j : ℕ) → i < j → j < times.count → time_in file times i < time_in file times j
rises r i zero l h = absurd (omega arith)
rises {file} {times} r i (suc j) l h = go (ltb i j) refl (rises r i j) where
  go : (t : Bool) → ltb i j ≡ t → (i < j → j < times.count → time_in file times i < time_in file times j) → time_in file times i < time_in file times (suc j)
  go true t earlier = omega (arith, earlier (ltb-true i j t) (omega arith), r.next j h)
  go false t earlier = let same : i ≡ j = omega (arith, ltb-false i j t) in rw same (r.next j h)
