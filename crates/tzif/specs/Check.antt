-- The rules of RFC 8536 section 3.2, and of RFC 9636 for version 4, for one entry of each part of a data block, with their refusals.
use Rattle.std.specs.Prelude.{if◌then◌else◌, ◌+◌, ◌-◌, ◌*◌, ◌^◌, ◌&&◌, ◌||◌}
use Rattle.numbers.specs.Prelude.{ℕ, eqb, ltb, leb, Bool, not, List}
use Rattle.tzif.specs.{Block.{time_place, indices_of, types_of, designations_of, leaps_of, standards_of, uts_of}, Number.{octet, be32, raised}, Reply.{Reply, given, refusal, demand, each, ◌>>◌}}
use Rattle.tzif.specs.{Times.{time_in, transitions_of, occurrences_of, last_with, last_not_after}, declared.block.Block.{Block}}

-- ---- transition times
-- 48: each time is above the one before it
unfoldable pub check_time : List ℕ → Block → ℕ → Reply (Unit {0})
check_time file block i =
    if eqb i 0 then given tt
    else demand (ltb (time_in file (transitions_of block) (i - 1)) (time_in file (transitions_of block) i)) (refusal 48 (time_place block i))

-- ---- transition types
-- 49: each is below typecnt
unfoldable pub check_index : List ℕ → Block → ℕ → Reply (Unit {0})
check_index file block i = demand (ltb (octet file (indices_of block + i)) block.typecnt) (refusal 49 (indices_of block + i))

-- ---- local time type records
abbrev pub type_place : Block → ℕ → ℕ
type_place block i = types_of block + 6 * i

-- the designations' octet at an index is a NUL
abbrev pub is_nul : List ℕ → Block → ℕ → Bool
is_nul file block k = eqb (octet file (designations_of block + k)) 0

-- behind the last NUL of the designations
unfoldable pub nul_end : List ℕ → Block → ℕ
nul_end file block = last_with block.charcnt (is_nul file block)

-- 50: utoff is not -2 ^ 31; 51: isdst is 0 or 1; 52: desigidx is below charcnt;
-- 53: a NUL stands at or after it, that is, it is below the place behind the last one
unfoldable pub check_type : List ℕ → Block → ℕ → ℕ → Reply (Unit {0})
check_type file block nul i = do
  demand (not (eqb (be32 file (type_place block i)) (2 ^ 31))) (refusal 50 (type_place block i))
  demand (ltb (octet file (type_place block i + 4)) 2) (refusal 51 (type_place block i + 4))
  demand (ltb (octet file (type_place block i + 5)) block.charcnt) (refusal 52 (type_place block i + 5))
  demand (ltb (octet file (type_place block i + 5)) nul) (refusal 53 (type_place block i + 5))

-- ---- leap-second records
abbrev pub leap_place : Block → ℕ → ℕ
leap_place block i = leaps_of block + i * (block.width + 4)

-- a correction, more 2 ^ 31
unfoldable pub correction_of : List ℕ → Block → ℕ → ℕ
correction_of file block i = raised (be32 file (leap_place block i + block.width))

-- the first occurrence is not negative; a later one is at least 28 days less a second above the one before it
unfoldable pub occurs_later : List ℕ → Block → ℕ → Bool
occurs_later file block i =
    if eqb i 0 then leb (2 ^ 63) (time_in file (occurrences_of block) i)
    else leb (time_in file (occurrences_of block) (i - 1) + 2419199) (time_in file (occurrences_of block) i)

-- the correction before a record: none is 0
unfoldable pub correction_before : List ℕ → Block → ℕ → ℕ
correction_before file block i = if eqb i 0 then 2 ^ 31 else correction_of file block (i - 1)

-- the correction at an instant, which is given more 2 ^ 63: that of the last record not after it
unfoldable pub correction_at : List ℕ → Block → ℕ → ℕ
correction_at file block instant = correction_before file block (last_not_after file (occurrences_of block) instant)

-- exactly one apart
unfoldable pub one_apart : ℕ → ℕ → Bool
one_apart a b = eqb a (b + 1) || eqb b (a + 1)

-- the last record, of several, repeats the correction before it: it is no leap second, the table expires there (RFC 9636)
unfoldable pub is_expiry : List ℕ → Block → ℕ → Bool
is_expiry file block i = not (eqb i 0) && (eqb (i + 1) block.leapcnt && eqb (correction_of file block i) (correction_of file block (i - 1)))

-- 54: the occurrence; 55: the correction is exactly 1 away from the one before it.
-- In version 4 an expiry must only lie above the record before it, and the first correction may be any, since the table may begin part-way
unfoldable pub check_leap : List ℕ → Bool → Block → ℕ → Reply (Unit {0})
check_leap file fourth block i =
    if fourth && is_expiry file block i
    then demand (ltb (time_in file (occurrences_of block) (i - 1)) (time_in file (occurrences_of block) i)) (refusal 54 (leap_place block i))
    else (do
      demand (occurs_later file block i) (refusal 54 (leap_place block i))
      demand ((eqb i 0 && fourth) || one_apart (correction_before file block i) (correction_of file block i)) (refusal 55 (leap_place block i + block.width)))

-- all records: the first fault
unfoldable pub check_leaps : List ℕ → Bool → Block → Reply (Unit {0})
check_leaps file fourth block = each block.leapcnt (check_leap file fourth block)

-- ---- indicators
-- 56: each standard/wall indicator is 0 or 1
unfoldable pub check_standard : List ℕ → Block → ℕ → Reply (Unit {0})
check_standard file block i = demand (ltb (octet file (standards_of block + i)) 2) (refusal 56 (standards_of block + i))

-- a standard/wall indicator that is not there counts as 0
unfoldable pub is_standard : List ℕ → Block → ℕ → Bool
is_standard file block i = ltb i block.isstdcnt && eqb (octet file (standards_of block + i)) 1

-- 57: each UT/local indicator is 0, or 1 where the standard/wall one is 1
unfoldable pub check_ut : List ℕ → Block → ℕ → Reply (Unit {0})
check_ut file block i = demand (ltb (octet file (uts_of block + i)) (if is_standard file block i then 2 else 1)) (refusal 57 (uts_of block + i))
