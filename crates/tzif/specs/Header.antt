-- A header with its data block, as RFC 8536 and RFC 9636 section 3 have them: refusals 40 to 57 in file order.
use Rattle.std.specs.Prelude.{if◌then◌else◌, ◌+◌, ◌^◌, ◌≤◌, ◌<◌, ◌&&◌, ◌||◌, ◌≡◌}
use Rattle.numbers.specs.Prelude.{ℕ, eqb, leb, length, Bool, false, not, List}
use Rattle.tzif.specs.{Block.{end_of}, Check.{nul_end, check_leaps}, Number.{octet, be32, octets}, Part.{check_part}, Reply.{Reply, given, refusal, demand, ◌>>◌}, declared.block.Block.{Block}}
use Rattle.tzif.specs.Part as P

-- `TZif`
unfoldable pub begins : List ℕ → ℕ → Bool
begins file at = leb (at + 4) (length file) && eqb (be32 file at) 0x545A6966

-- the RFC that a file is read by: 9636 is 8536 with version 4
pub data Rfc : Type 0 where
  rfc8536 : Rfc
  rfc9636 : Rfc

-- `4`, which RFC 8536 does not know
unfoldable pub is_fourth : Rfc → ℕ → Bool
is_fourth rfc8536 version = false
is_fourth rfc9636 version = eqb version 0x34

-- NUL, `2`, `3` or `4`
unfoldable pub is_version : Rfc → ℕ → Bool
is_version rfc version = eqb version 0 || (eqb version 0x32 || (eqb version 0x33 || is_fourth rfc version))

-- the version is there; the second header, before times of eight octets, has the first one's
unfoldable pub version_fits : Rfc → List ℕ → Bool → ℕ → Bool
version_fits rfc file wide at =
    leb (at + 5) (length file)
    && (if wide then eqb (octet file (at + 4)) (octet file 4) else is_version rfc (octet file (at + 4)))

-- 40: the magic; 41: the version; 42: the file ends inside the header
unfoldable pub check_header : Rfc → List ℕ → Bool → ℕ → Reply (Unit {0})
check_header rfc file wide at = do
  demand (begins file at) (refusal 40 at)
  demand (version_fits rfc file wide at) (refusal 41 (at + 4))
  demand (leb (at + 44) (length file)) (refusal 42 at)

-- the six counts of the header at a place, and the block behind it
unfoldable pub block_at : List ℕ → Bool → ℕ → Block
block_at file wide at = record {
  width = octets wide;
  isutcnt = be32 file (at + 20);
  isstdcnt = be32 file (at + 24);
  leapcnt = be32 file (at + 28);
  timecnt = be32 file (at + 32);
  typecnt = be32 file (at + 36);
  charcnt = be32 file (at + 40);
  begin = at + 44;
}

-- 0, or as many as there are types
unfoldable pub none_or_all : ℕ → ℕ → Bool
none_or_all count all = eqb count 0 || eqb count all

-- 43 to 46: the counts; 47: the block ends within the file
unfoldable pub check_counts : List ℕ → ℕ → Block → Reply (Unit {0})
check_counts file at block = do
  demand (none_or_all block.isutcnt block.typecnt) (refusal 43 (at + 20))
  demand (none_or_all block.isstdcnt block.typecnt) (refusal 44 (at + 24))
  demand (not (eqb block.typecnt 0)) (refusal 45 (at + 36))
  demand (not (eqb block.charcnt 0)) (refusal 46 (at + 40))
  demand (leb (end_of block) (length file)) (refusal 47 block.begin)

-- 48 to 57: the parts in file order
unfoldable pub check_block : List ℕ → Bool → Block → Reply (Unit {0})
check_block file fourth block = do
  check_part file block P.Times
  check_part file block P.Indices
  check_part file block (P.Types (nul_end file block))
  check_leaps file fourth block
  check_part file block P.Standards
  check_part file block P.Uts

-- all of it
unfoldable pub read_block : Rfc → List ℕ → Bool → ℕ → Reply Block
read_block rfc file wide at = do
  check_header rfc file wide at
  check_counts file at (block_at file wide at)
  check_block file (is_fourth rfc (octet file 4)) (block_at file wide at)
  given (block_at file wide at)

-- the code's block is this one, and its end is no more than 64 bits
pub record Counted (r block : Block) : Type 0 where
  pub same : r ≡ block
  pub wide : 4 ≤ r.width
  pub fits : end_of r < 2 ^ 64
