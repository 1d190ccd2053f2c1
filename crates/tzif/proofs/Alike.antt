-- Two files that have the same octets where a reading looks are read alike. Assumes nothing.
use Rattle.numbers.{proofs.Prelude.{ℕ, zero, suc, ◌+◌, ◌-◌, ◌*◌, ◌^◌, ◌≤◌, ◌<◌, ltb-true, eqb-true, eqb, ltb, Bool, true, false, ◌&&◌, List, ◌≡◌, refl, ap, arith}, specs.Answer.{if◌then◌else◌}}
use Rattle.tzif.proofs.{Lasts.{last_same}, Widths.{row}}
use Rattle.tzif.specs.Block.{time_place, indices_of, designations_of, standards_of, uts_of, end_of}
use Rattle.tzif.specs.Check.{nul_end, is_nul, type_place, leap_place, correction_of, correction_before, occurs_later, is_expiry, is_standard, check_time, check_index, check_type, check_leap, check_leaps}
use Rattle.tzif.specs.{Check.{check_standard, check_ut}, Header.{check_block}, Number.{octet, be32, raised, time_at}, Part.{Part, count_of, check_of, check_part}, Reply.{Reply, each, ◌>>◌}}
use Rattle.tzif.specs.{Text.{first_with}, Times.{time_in, transitions_of, occurrences_of}, declared.block.Block.{Block}}
use Rattle.tzif.specs.Part as P

pub each_same : (check check' : ℕ → Reply (Unit {0})) (n : ℕ) → ((i : ℕ) → i < n → check i ≡ check' i) → each n check ≡ each n check'
unfolding each
each_same check check' zero e = refl
each_same check check' (suc n) e = λ i. each_same check check' n (λ k l. e k (omega arith)) i >> e n (omega arith) i

pub first_same : (holds holds' : ℕ → Bool) (n : ℕ) → ((k : ℕ) → k < n → holds k ≡ holds' k) → first_with n holds ≡ first_with n holds'
unfolding first_with
first_same holds holds' zero e = refl
first_same holds holds' (suc n) e = rw (e n (omega arith), first_same holds holds' n (λ k l. e k (omega arith))) refl

-- ---- numbers
-- so many octets from a place on
pub record Same (file other : List ℕ) (place size : ℕ) : Type 0 where
  pub at : (p : ℕ) → place ≤ p → p < place + size → octet file p ≡ octet other p

module _ {file other : List ℕ} where
  pub be32_same : (place : ℕ) → Same file other place 4 → be32 file place ≡ be32 other place
  unfolding be32
  be32_same place s = λ i. s.at place (omega arith) (omega arith) i * 2 ^ 24 + s.at (place + 1) (omega arith) (omega arith) i * 2 ^ 16 + s.at (place + 2) (omega arith) (omega arith) i * 2
      ^ 8 + s.at (place + 3) (omega arith) (omega arith) i

  pub time_same : (width place : ℕ) → 4 ≤ width → Same file other place width → time_at file width place ≡ time_at other width place
  unfolding time_at
  time_same width place wide s = go (eqb width 8) refl where
    high : be32 file place ≡ be32 other place
    high = be32_same place (record { at = λ p a b. s.at p a (omega arith) })

    go : (t : Bool) → eqb width 8 ≡ t → (if t then raised (be32 file place) * 2 ^ 32 + be32 file (place + 4) else raised (be32 file place) + (2 ^ 63 - 2 ^ 31)) ≡
        (if t then raised (be32 other place) * 2 ^ 32 + be32 other (place + 4) else raised (be32 other place) + (2 ^ 63 - 2 ^ 31))
    go true e = let eight : width ≡ 8 = eqb-true width 8 e in
        λ i. raised (high i) * 2 ^ 32 + be32_same (place + 4) (record { at = λ p a b. s.at p (omega arith) (omega arith) }) i
    go false e = λ i. raised (high i) + (2 ^ 63 - 2 ^ 31)

-- ---- a data block
module _ (file other : List ℕ) (block : Block) (wide : 4 ≤ block.width) (same : (p : ℕ) → block.begin ≤ p → p < end_of block → octet file p ≡ octet other p) where
  transition : (i : ℕ) → i < block.timecnt → time_in file (transitions_of block) i ≡ time_in other (transitions_of block) i
  unfolding time_in
  transition i l = time_same block.width (time_place block i) wide (record { at = λ p a b. same p (omega arith) (omega (arith, row i block.timecnt block.width l)) })

  occurrence : (i : ℕ) → i < block.leapcnt → time_in file (occurrences_of block) i ≡ time_in other (occurrences_of block) i
  unfolding time_in
  occurrence i l = time_same block.width (leap_place block i) wide (record { at = λ p a b. same p (omega arith) (omega (arith, row i block.leapcnt (block.width + 4) l)) })

  pub correction : (i : ℕ) → i < block.leapcnt → correction_of file block i ≡ correction_of other block i
  unfolding correction_of
  correction i l = ap raised (be32_same (leap_place block i + block.width) (record { at = λ p a b. same p (omega arith) (omega (arith, row i block.leapcnt (block.width + 4) l)) }))

  time_checked : (i : ℕ) → i < block.timecnt → check_time file block i ≡ check_time other block i
  unfolding check_time
  time_checked i l = rw (transition (i - 1) (omega arith), transition i l) refl

  index_checked : (i : ℕ) → i < block.timecnt → check_index file block i ≡ check_index other block i
  unfolding check_index
  index_checked i l = rw (same (indices_of block + i) (omega arith) (omega arith)) refl

  pub nul_end_same : nul_end file block ≡ nul_end other block
  unfolding nul_end
  nul_end_same = last_same (is_nul file block) (is_nul other block) block.charcnt (λ k l. ap (λ (b : ℕ). eqb b 0) (same (designations_of block + k) (omega arith) (omega arith)))

  type_checked : (nul i : ℕ) → i < block.typecnt → check_type file block nul i ≡ check_type other block nul i
  unfolding check_type
  type_checked nul i l = rw (
    be32_same {file = file} {other = other} (type_place block i) (record { at = λ p a b. same p (omega arith) (omega arith) }),
    same (type_place block i + 4) (omega arith) (omega arith),
    same (type_place block i + 5) (omega arith) (omega arith),
  ) refl

  before : (i : ℕ) → i < block.leapcnt → correction_before file block i ≡ correction_before other block i
  unfolding correction_before
  before i l = rw (correction (i - 1) (omega arith)) refl

  occurs : (i : ℕ) → i < block.leapcnt → occurs_later file block i ≡ occurs_later other block i
  unfolding occurs_later
  occurs i l = rw (occurrence (i - 1) (omega arith), occurrence i l) refl

  expiry : (i : ℕ) → i < block.leapcnt → is_expiry file block i ≡ is_expiry other block i
  unfolding is_expiry
  expiry i l = rw (correction (i - 1) (omega arith), correction i l) refl

  leap_checked : (fourth : Bool) (i : ℕ) → i < block.leapcnt → check_leap file fourth block i ≡ check_leap other fourth block i
  unfolding check_leap
  leap_checked fourth i l = rw (expiry i l, occurs i l, before i l, correction i l, occurrence (i - 1) (omega arith), occurrence i l) refl

  standard_checked : (i : ℕ) → i < block.isstdcnt → check_standard file block i ≡ check_standard other block i
  unfolding check_standard
  standard_checked i l = rw (same (standards_of block + i) (omega arith) (omega arith)) refl

  is_standard_same : (i : ℕ) → is_standard file block i ≡ is_standard other block i
  unfolding is_standard
  is_standard_same i = go (ltb i block.isstdcnt) refl where
    go : (t : Bool) → ltb i block.isstdcnt ≡ t → (t && eqb (octet file (standards_of block + i)) 1) ≡ (t && eqb (octet other (standards_of block + i)) 1)
    go true e = ap (λ (b : ℕ). eqb b 1) (same (standards_of block + i) (omega arith) (omega (arith, ltb-true i block.isstdcnt e)))
    go false e = refl

  ut_checked : (i : ℕ) → i < block.isutcnt → check_ut file block i ≡ check_ut other block i
  unfolding check_ut
  ut_checked i l = rw (is_standard_same i, same (uts_of block + i) (omega arith) (omega arith)) refl

  leaps_checked : (fourth : Bool) → check_leaps file fourth block ≡ check_leaps other fourth block
  unfolding check_leaps
  leaps_checked fourth = each_same (check_leap file fourth block) (check_leap other fourth block) block.leapcnt (leap_checked fourth)

  part_checked : (part : Part) → check_part file block part ≡ check_part other block part
  unfolding check_part check_of count_of
  part_checked P.Times = each_same (check_time file block) (check_time other block) block.timecnt time_checked
  part_checked P.Indices = each_same (check_index file block) (check_index other block) block.timecnt index_checked
  part_checked (P.Types nul) = each_same (check_type file block nul) (check_type other block nul) block.typecnt (type_checked nul)
  part_checked P.Standards = each_same (check_standard file block) (check_standard other block) block.isstdcnt standard_checked
  part_checked P.Uts = each_same (check_ut file block) (check_ut other block) block.isutcnt ut_checked

  pub block_checked : (fourth : Bool) → check_block file fourth block ≡ check_block other fourth block
  unfolding check_block
  block_checked fourth = λ i. part_checked P.Times i >> (part_checked P.Indices i >> (parts i >> (leaps_checked fourth i >> (part_checked P.Standards i >> part_checked P.Uts i)))) where
    parts : check_part file block (P.Types (nul_end file block)) ≡ check_part other block (P.Types (nul_end other block))
    parts = λ i. part_checked (P.Types (nul_end_same i)) i
