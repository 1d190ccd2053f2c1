-- `edit::changing::copy::copy_words` meets its contract.
use Rattle.numbers.proofs.Prelude.{◌-◌, ◌≤◌, length, take, drop, ◌++◌, ◌≡◌}
use Rattle.edit.proofs.changing.copy.copy_words.Given as goal

abbrev pub invariant-loop-i : goal.invariant-loop-i
invariant-loop-i l = (l.i ≤ length l.words) × (length l.words ≤ length l.initial.list) × (l.list ≡ take l.i l.words ++ drop l.i l.initial.list)

abbrev pub decreases-loop-i : goal.decreases-loop-i
decreases-loop-i l = length l.words - l.i
