-- What `last_not_after_lem` says of a file: the transition that answers for an instant.
use Rattle.std.specs.Prelude.{◌+◌, ◌<◌, ◌≡◌}
use Rattle.numbers.specs.Prelude.{ℕ, ℤ, get_or, lt_z, true, false, List}
use Rattle.tzif.specs.{Block.{time_place, indices_of}, Number.{octet, signed_at}, declared.block.Block.{Block}}

-- a file's bytes are below 256
unfoldable pub Octets : List ℕ → Type 0
Octets file = (k : ℕ) → get_or file k 0 < 256

-- a transition time itself: that many octets in two's complement
unfoldable pub transition_time : List ℕ → Block → ℕ → ℤ
transition_time file block i = signed_at file block.width (time_place block i)

-- the type that answers: that of the greatest index whose time is not after the instant; type 0 where there is none
pub data LastNotAfter (file : List ℕ) (block : Block) (instant : ℤ) : ℕ → Type 0 where
  by_transition : (i : ℕ) → i < block.timecnt → lt_z instant (transition_time file block i) ≡ false
      → ((k : ℕ) → i < k → k < block.timecnt → lt_z instant (transition_time file block k) ≡ true)
      → LastNotAfter file block instant (octet file (indices_of block + i))
  by_type_0 : ((k : ℕ) → k < block.timecnt → lt_z instant (transition_time file block k) ≡ true) → LastNotAfter file block instant 0
