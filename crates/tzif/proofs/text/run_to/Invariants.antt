-- `tzif::text::run_to` meets its contract.
use Rattle.numbers.proofs.Prelude.{ℕ, ◌+◌, ◌≤◌, Bool, List, ◌≡◌}
use Rattle.tzif.specs.{Number.{octet}, Text.{is_stop, first_with}}
use Rattle.tzif.proofs.text.run_to.Given as goal

abbrev pub stop_at : ℕ → List ℕ → ℕ → ℕ → Bool
stop_at other file from k = is_stop other (octet file (from + k))

abbrev pub invariant-loop-i : goal.invariant-loop-i
invariant-loop-i l = (l.i ≤ l.most) × (first_with l.i (stop_at l.other l.file l.from) ≡ l.i)
