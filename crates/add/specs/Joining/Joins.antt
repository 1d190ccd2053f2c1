-- What the functions that join a yard to a builder say.
use Rattle.std.specs.Prelude.{◌≡◌}
use Rattle.draft.specs.Held.State.{Idle, Works}

-- the lists to work in are as they were, or zero: lent zero they are zero
pub data Rests (lent left : Works) : Type 0 where
  untouched : left ≡ lent → Rests lent left
  idle : Idle lent left → Rests lent left
