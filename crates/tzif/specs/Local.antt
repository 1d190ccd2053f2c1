-- Local time from a file: offset, daylight flag and abbreviation by its transitions.
use Rattle.std.specs.Prelude.{Option, Some, None, if◌then◌else◌, ◌+◌, ◌-◌, ◌≤◌, ◌<◌, ◌&&◌}
use Rattle.numbers.specs.{Lists.{zeros, padded}, Prelude.{ℕ, eqb, ltb, leb, ℤ, length, Bool, List, w32, to_z}}
use Rattle.tzif.specs.{Block.{Within, indices_of, designations_of}, Check.{type_place}, Header.{Rfc, rfc9636}, Number.{octet, be32, lift}, Reply.{Reply, given, refused, refusal, ◌>>=◌}}
use Rattle.tzif.specs.{Text.{run_to, slice}, Times.{time_in, transitions_of, last_not_after, Rises}, Zone.{read_zone_by}, declared.{block.Block.{Block}, local.{Found.{Found}, Local.{Local}}}}

-- ---- a local time type
-- what its record says: utoff in two's complement, isdst, and the designation from desigidx up to its NUL
unfoldable pub type_in : List ℕ → Block → ℕ → Found
type_in file block type = record {
  offset = to_z w32 (be32 file (type_place block type));
  daylight = octet file (type_place block type + 4);
  place = designations_of block + octet file (type_place block type + 5);
  length = run_to 0 file (designations_of block + octet file (type_place block type + 5)) (block.charcnt - octet file (type_place block type + 5));
}

-- the type that holds behind so many transitions: the last one's; type 0 before the first
unfoldable pub type_behind : List ℕ → Block → ℕ → ℕ
type_behind file block n = if eqb n 0 then 0 else octet file (indices_of block + (n - 1))

-- ---- an instant, which is given more 2 ^ 63
-- after the last of one or more transitions
unfoldable pub is_after_last : List ℕ → Block → ℕ → Bool
is_after_last file block instant = ltb 0 block.timecnt && ltb (time_in file (transitions_of block) (block.timecnt - 1)) instant

-- unknown after the last transition; else by the last one that is not after the instant
unfoldable pub by_table : List ℕ → Block → ℕ → Option Found
by_table file block instant =
    if is_after_last file block instant then None
    else Some (type_in file block (type_behind file block (last_not_after file (transitions_of block) instant)))

-- ---- the reply, with all of the lent text
pub record Replied : Type 0 where
  pub reply : Reply (Option Local)
  pub text : List ℕ

abbrev pub replied : Reply (Option Local) → List ℕ → Replied
replied reply text = record { reply = reply; text = text }

-- 18: the abbreviation has no room
abbrev pub named : List ℕ → ℕ → Found → Replied
named file room found =
    if leb found.length room
    then replied (given (Some (record { offset = found.offset; daylight = found.daylight; length = found.length }))) (padded room (slice file found.place found.length))
    else replied (refused (refusal 18 0)) (zeros room)

-- the abbreviation at the start of the text, zeros behind it; all zeros where there is none
unfoldable pub lent : List ℕ → ℕ → Reply (Option Found) → Replied
lent file room (given (Some found)) = named file room found
lent file room (given None) = replied (given None) (zeros room)
lent file room (refused why) = replied (refused why) (zeros room)

-- what the transitions of a file say of an instant
abbrev pub found_at : Rfc → List ℕ → ℤ → Reply (Option Found)
found_at rfc file instant = do
  zone ← read_zone_by rfc file
  given (by_table file zone.block (lift instant))

-- local time in a file at an instant, with so much text lent
unfoldable pub local_time_by : Rfc → List ℕ → ℤ → ℕ → Replied
local_time_by rfc file instant room = lent file room (found_at rfc file instant)

-- by the newer RFC
abbrev pub local_time : List ℕ → ℤ → ℕ → Replied
local_time = local_time_by rfc9636

-- ---- what the checks leave behind
-- a block in which nothing is at fault
pub record Good (file : List ℕ) (block : Block) : Type 0 where
  pub within : Within (length file) block
  pub rising : Rises file (transitions_of block)
  pub some : 0 < block.typecnt
  pub indices : (i : ℕ) → i < block.timecnt → octet file (indices_of block + i) < block.typecnt
  pub inside : (i : ℕ) → i < block.typecnt → octet file (type_place block i + 5) < block.charcnt

-- an abbreviation that a file of this length holds
pub record Held (size : ℕ) (found : Found) : Type 0 where
  pub held : found.place + found.length ≤ size
