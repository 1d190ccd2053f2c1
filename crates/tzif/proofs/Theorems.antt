-- What the promise of `local_time` means. Assumes nothing.
use Rattle.numbers.proofs.Prelude.{ℕ, zero, suc, ◌+◌, ◌-◌, ◌<◌, ne_eqb, lt-ltb, le-ltb, leb-true, leb-false, eqb, ltb, leb, ℤ, lt_z, Bool, true, false, ◌&&◌, List, ◌↔◌, ◌≡◌, refl, sym, ap}
use Rattle.numbers.{proofs.Prelude.{◌∙◌, w64, SFits, arith}, specs.{Answer.{if◌then◌else◌}, Lists.{zeros, padded}}}
use Rattle.tzif.proofs.{Lasts.{last_within, last_holds, last_fails, last_same}, Laws.{Least, least_fault, fault_of_least}, Signs.{time_is_signed, signed_fits, lift_keeps}}
use Rattle.tzif.specs.{Block.{time_place, indices_of}, Header.{rfc9636, read_block}, Last.{Octets, transition_time, LastNotAfter, by_transition, by_type_0}}
use Rattle.tzif.specs.{Local.{type_behind, is_after_last, by_table, Replied, replied, lent, local_time_by, local_time}, Number.{octet, lift}, Reply.{Reply, given, refused, refusal, each, ◌>>=◌}}
use Rattle.tzif.specs.{Text.{slice}, Times.{time_in, transitions_of, last_with, last_not_after, Rises}, Zone.{read_zone}, declared.block.Block.{Block}}
use Rattle.tzif.specs.declared.{local.{Found.{Found}, Local.{Local}}, refusal.Refusal.{Refusal}, zone.Zone.{Zone}}
use Rattle.std.specs.Prelude.{Option, Some, None}

-- ---- last_not_after_lem
module _ (file : List ℕ) (octets : Octets file) (block : Block) (instant : ℤ) (fits : SFits w64 instant) where
  times : ℕ → ℕ
  times = time_in file (transitions_of block)

  -- times more 2 ^ 63 are ordered as the times
  time_lifted : (i : ℕ) → times i ≡ lift (transition_time file block i)
  unfolding time_in transition_time times
  time_lifted i = time_is_signed file block.width (time_place block i) octets

  time_fits : (i : ℕ) → SFits w64 (transition_time file block i)
  unfolding transition_time
  time_fits i = signed_fits file block.width (time_place block i) octets

  is_after : (i : ℕ) → ltb (lift instant) (times i) ≡ lt_z instant (transition_time file block i)
  is_after i = rw (time_lifted i) (lift_keeps instant (transition_time file block i) fits (time_fits i))

  is_before : (i : ℕ) → ltb (times i) (lift instant) ≡ lt_z (transition_time file block i) instant
  is_before i = rw (time_lifted i) (lift_keeps (transition_time file block i) instant (time_fits i) fits)

  after : (i : ℕ) → leb (times i) (lift instant) ≡ false → lt_z instant (transition_time file block i) ≡ true
  after i e = sym (is_after i) ∙ lt-ltb (lift instant) (times i) (leb-false (times i) (lift instant) e)

  not_after : (i : ℕ) → leb (times i) (lift instant) ≡ true → lt_z instant (transition_time file block i) ≡ false
  not_after i e = sym (is_after i) ∙ le-ltb (lift instant) (times i) (leb-true (times i) (lift instant) e)

  test : ℕ → Bool
  test i = leb (times i) (lift instant)

  pub last_not_after_lem : LastNotAfter file block instant (type_behind file block (last_not_after file (transitions_of block) (lift instant)))
  unfolding last_not_after type_behind times test
  last_not_after_lem = go _ refl where
    go : (n : ℕ) → n ≡ last_not_after file (transitions_of block) (lift instant) → LastNotAfter file block instant (if eqb n 0 then 0 else octet file (indices_of block + (n - 1)))
    go zero e = by_type_0 (λ k l. after k (last_fails test block.timecnt k (omega (arith, e)) l))
    go (suc i) e = let here : suc i - 1 ≡ i = omega arith in
        rw (ne_eqb (suc i) 0 (λ z. omega (arith, z)), here) (by_transition i (omega (arith, e, last_within test block.timecnt))
        (not_after i (last_holds test block.timecnt i e)) (λ k l h. after k (last_fails test block.timecnt k (omega (arith, e)) h)))

  -- unknown exactly after the last of one or more transitions
  pub after_last : is_after_last file block (lift instant) ≡ (ltb 0 block.timecnt && lt_z (transition_time file block (block.timecnt - 1)) instant)
  unfolding is_after_last times
  after_last = ap (λ (t : Bool). ltb 0 block.timecnt && t) (is_before (block.timecnt - 1))

-- ---- block_width
-- two blocks of whatever widths that have the same times: 48 finds fault with both or neither, and they are searched alike
pub record BlockWidth (file file' : List ℕ) (block block' : Block) : Type 0 where
  pub check : Rises file (transitions_of block) → Rises file' (transitions_of block')
  pub search : (instant : ℕ) → last_not_after file (transitions_of block) instant ≡ last_not_after file' (transitions_of block') instant

pub block_width : (file file' : List ℕ) → Octets file → Octets file' → (block block' : Block) → block.timecnt ≡ block'.timecnt
    → ((i : ℕ) → i < block.timecnt → transition_time file block i ≡ transition_time file' block' i) → BlockWidth file file' block block'
unfolding last_not_after time_in transition_time
block_width file file' o o' block block' n e = record {
  check = λ r. record { next = λ i l. rw (← same i (omega arith), ← same (suc i) (omega arith)) (r.next i (omega arith)) };
  search = λ instant.
      last_same (λ i. leb (time_in file (transitions_of block) i) instant) (λ i. leb (time_in file' (transitions_of block') i) instant) block.timecnt (λ i l. ap (λ (t : ℕ). leb t instant) (same i l))
      ∙ ap (λ (m : ℕ). last_with m (λ i. leb (time_in file' (transitions_of block') i) instant)) n;
} where
  same : (i : ℕ) → i < block.timecnt → time_in file (transitions_of block) i ≡ time_in file' (transitions_of block') i
  same i l = time_is_signed file block.width (time_place block i) o ∙ ap lift (e i l) ∙ sym (time_is_signed file' block'.width (time_place block' i) o')

-- ---- first_fault
-- checks index by index are refused exactly with the fault of the least index that has one
pub first_fault : (check : ℕ → Reply (Unit {0})) (n : ℕ) (why : Refusal) → (refused why ≡ each n check) ↔ Least check n why
first_fault check n why = (least_fault check n why, fault_of_least)

-- ---- same_local_time
-- two replies that the promise permits are equal, with all of the lent text
pub same_local_time : (file : List ℕ) (instant : ℤ) (room : ℕ) {r r' : Reply (Option Local)} {text text' : List ℕ}
    → replied r text ≡ local_time file instant room → replied r' text' ≡ local_time file instant room → (r ≡ r') × (text ≡ text')
same_local_time file instant room e e' = let same = e ∙ sym e' in (ap (λ (s : Replied). s.reply) same, ap (λ (s : Replied). s.text) same)

-- the same of a block that was read, and of a whole file
pub same_read_block : (file : List ℕ) (wide : Bool) (at : ℕ) (r q : Reply Block) → r ≡ read_block rfc9636 file wide at → q ≡ read_block rfc9636 file wide at → r ≡ q
same_read_block file wide at r q e f = e ∙ sym f

pub same_read_zone : (file : List ℕ) (r q : Reply Zone) → r ≡ read_zone file → q ≡ read_zone file → r ≡ q
same_read_zone file r q e f = e ∙ sym f

-- ---- a refusal and unknown leave all lent text zero
-- no local time in a reply
pub data NoLocal : Reply (Option Local) → Type 0 where
  refused_one : {why : Refusal} → NoLocal (refused why)
  unknown_one : NoLocal (given None)

no_local : {r : Reply (Option Local)} → NoLocal r → {local : Local} → r ≡ given (Some local) → ⊥
no_local refused_one e = let z : ◌≡◌ {A = ℕ} 0 1 = cc in omega arith
no_local unknown_one e = let z : ◌≡◌ {A = ℕ} 0 1 = cc in omega arith

zeroed : (file : List ℕ) (room : ℕ) (answer : Reply (Option Found)) → NoLocal (lent file room answer).reply → (lent file room answer).text ≡ zeros room
unfolding lent
zeroed file room (given (Some found)) n = go (leb found.length room) n where
  local : Replied
  local = replied (given (Some (record { offset = found.offset; daylight = found.daylight; length = found.length }))) (padded room (slice file found.place found.length))

  go : (t : Bool) → NoLocal (if t then local else replied (refused (refusal 18 0)) (zeros room)).reply → (if t then local else replied (refused (refusal 18 0)) (zeros room)).text ≡ zeros room
  go true n = absurd (no_local n refl)
  go false n = refl
zeroed file room (given None) n = refl
zeroed file room (refused why) n = refl

pub zero_unless_local : (file : List ℕ) (instant : ℤ) (room : ℕ) → NoLocal (local_time file instant room).reply → (local_time file instant room).text ≡ zeros room
unfolding local_time_by
zero_unless_local file instant room = zeroed file room (read_zone file >>= λ zone. given (by_table file zone.block (lift instant)))
