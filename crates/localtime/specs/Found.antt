-- What a TZ string gives as a local time, and whether it is the same as another.
use Rattle.std.specs.Prelude.{if◌then◌else◌, ◌+◌, ◌-◌, ◌≤◌, ◌-ℤ◌}
use Rattle.numbers.specs.Prelude.{ℕ, zero, suc, eqb, ℤ, pos, Bool, true, false, List, w32, of_z}
use Rattle.tzif.specs.{Number.{octet}, declared.local.Found.{Found}}
use Rattle.tzrule.specs.declared.ask.Time.{Time}

-- seconds east, of seconds west more 604800
unfoldable pub east_of : ℕ → ℤ
east_of west = pos 604800 -ℤ pos west

-- a clock's local time, its name where it stands in the file
unfoldable pub found_of : Time → Found
found_of time = record {
  offset = east_of time.clock.west;
  daylight = time.daylight;
  place = time.clock.name.start;
  length = time.clock.name.end - time.clock.name.start;
}

-- the name is in order and the offset less than a week
pub record Short (time : Time) : Type 0 where
  pub ordered : time.clock.name.start ≤ time.clock.name.end
  pub west : time.clock.west ≤ 1209600

-- so many octets from two places on are equal
unfoldable pub same_octets : List ℕ → ℕ → ℕ → ℕ → Bool
same_octets file a b zero = true
same_octets file a b (suc n) = if same_octets file a b n then eqb (octet file (a + n)) (octet file (b + n)) else false

-- the same offset, flag and abbreviation
unfoldable pub same_found : List ℕ → Found → Found → Bool
same_found file a b =
    if eqb (of_z w32 a.offset) (of_z w32 b.offset)
    then (if eqb a.daylight b.daylight then (if eqb a.length b.length then same_octets file a.place b.place a.length else false) else false)
    else false
