-- How a call's reply goes with what a definition gives, and with what went into lent buffers.
use Rattle.std.specs.Prelude.{◌≡◌}
use Rattle.numbers.specs.Reply.{Reply, given, refused}

-- the same refusal, or both give, and what they give goes together; a refusal says nothing of the buffers, which are zeroed after it
unfoldable pub Agrees : {A B : Type 0} → (A → B → Type 0) → Reply A → Reply B → Type 0
Agrees so (given a) (given b) = so a b
Agrees so (refused why) (refused why') = why ≡ why'
Agrees so (given a) (refused why) = ⊥
Agrees so (refused why) (given b) = ⊥
