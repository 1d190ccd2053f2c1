-- Times at equal distances in the file: a block's transition times, its leap-second occurrences; and the last of them that is not after an instant.
use Rattle.std.specs.Prelude.{if◌then◌else◌, ◌+◌, ◌*◌, ◌≤◌, ◌<◌}
use Rattle.numbers.specs.Prelude.{ℕ, zero, suc, leb, Bool, List}
use Rattle.tzif.specs.{Block.{leaps_of}, Number.{time_at}, declared.{block.Block.{Block}, times.Times.{Times}}}

-- the time at an index, more 2 ^ 63
unfoldable pub time_in : List ℕ → Times → ℕ → ℕ
time_in file times i = time_at file times.width (times.begin + i * times.stride)

-- transition times stand side by side
abbrev pub transitions_of : Block → Times
transitions_of block = record { begin = block.begin; stride = block.width; count = block.timecnt; width = block.width }

-- each leap-second occurrence stands before its correction of four octets
abbrev pub occurrences_of : Block → Times
occurrences_of block = record { begin = leaps_of block; stride = block.width + 4; count = block.leapcnt; width = block.width }

-- behind the last index below a number of which the test holds; 0 where there is none
unfoldable pub last_with : ℕ → (ℕ → Bool) → ℕ
last_with zero holds = 0
last_with (suc n) holds = if holds n then suc n else last_with n holds

-- behind the last time that is not after an instant, which is given more 2 ^ 63
unfoldable pub last_not_after : List ℕ → Times → ℕ → ℕ
last_not_after file times instant = last_with times.count (λ i. leb (time_in file times i) instant)

-- times that a file of this length holds
pub record Inside (size : ℕ) (times : Times) : Type 0 where
  pub wide : 4 ≤ times.width
  pub apart : times.width ≤ times.stride
  pub end : times.begin + times.count * times.stride ≤ size

-- each is above the one before it
pub record Rises (file : List ℕ) (times : Times) : Type 0 where
  pub next : (i : ℕ) → suc i < times.count → time_in file times i < time_in file times (suc i)
