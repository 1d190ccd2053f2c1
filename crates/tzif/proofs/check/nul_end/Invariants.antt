-- `tzif::check::nul_end` meets its contract. The loop goes down: what is last below its index is last of all.
use Rattle.numbers.proofs.Prelude.{ℕ, ◌+◌, ◌≤◌, eqb, Bool, List, ◌≡◌}
use Rattle.tzif.specs.{Number.{octet}, Times.{last_with}}
use Rattle.tzif.proofs.check.nul_end.Given as goal

abbrev pub nul_at : List ℕ → ℕ → ℕ → Bool
nul_at file place k = eqb (octet file (place + k)) 0

abbrev pub invariant-loop-n : goal.invariant-loop-n
invariant-loop-n l = (l.n ≤ l.initial.n) × (last_with l.n (nul_at l.file l.place) ≡ last_with l.initial.n (nul_at l.file l.place))
