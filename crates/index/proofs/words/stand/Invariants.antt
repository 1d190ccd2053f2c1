-- `index::words::stand` meets its contract: what is left to compare.
use Rattle.numbers.proofs.Prelude.{drop, ◌≡◌, ◌+◌}
use Rattle.index.specs.inner.Own.{is_at}
use Rattle.index.proofs.words.stand.Given as goal

abbrev pub invariant-loop-i : goal.invariant-loop-i
invariant-loop-i l = is_at l.words l.at l.more ≡ is_at l.words (l.at + l.i) (drop l.i l.more)
