-- `bundle::bytes::agrees` meets its contract.
use Rattle.numbers.proofs.Prelude.{◌+◌, ◌-◌, ◌≤◌, drop, ◌++◌, map, ◌≡◌}
use Rattle.bundle.specs.Bundle.{agrees, xored}
use Rattle.bundle.proofs.bytes.agrees.Given as goal

abbrev pub invariant-loop-at : goal.invariant-loop-at
invariant-loop-at l =
    (agrees (l.size - l.at) (drop (l.place + l.at) l.bundle) (drop l.at (map (xored l.mask) (l.prefix ++ l.id))) ≡ agrees l.size (drop l.place l.bundle) (map (xored l.mask)
    (l.prefix ++ l.id))) × (l.at ≤ l.size)
