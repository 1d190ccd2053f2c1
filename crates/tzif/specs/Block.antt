-- A data block's parts, as RFC 8536 section 3.2 has them, one behind the other.
use Rattle.std.specs.Prelude.{◌+◌, ◌*◌, ◌≤◌}
use Rattle.numbers.specs.Prelude.{ℕ}
use Rattle.tzif.specs.declared.block.Block.{Block}

-- transition times: timecnt of them
abbrev pub time_place : Block → ℕ → ℕ
time_place block i = block.begin + i * block.width

-- transition types: an octet for each time
abbrev pub indices_of : Block → ℕ
indices_of block = block.begin + block.timecnt * block.width

-- local time type records: six octets each
abbrev pub types_of : Block → ℕ
types_of block = indices_of block + block.timecnt

-- time zone designations: charcnt octets
abbrev pub designations_of : Block → ℕ
designations_of block = types_of block + 6 * block.typecnt

-- leap-second records: a time and four octets each
abbrev pub leaps_of : Block → ℕ
leaps_of block = designations_of block + block.charcnt

-- standard/wall indicators: isstdcnt octets
abbrev pub standards_of : Block → ℕ
standards_of block = leaps_of block + block.leapcnt * (block.width + 4)

-- UT/local indicators: isutcnt octets
abbrev pub uts_of : Block → ℕ
uts_of block = standards_of block + block.isstdcnt

-- behind all of them
abbrev pub end_of : Block → ℕ
end_of block = uts_of block + block.isutcnt

-- a block that a file of this length holds
pub record Within (size : ℕ) (block : Block) : Type 0 where
  pub wide : 4 ≤ block.width
  pub end : end_of block ≤ size
