-- `index::words::put_all` meets its contract: what is left to store.
use Rattle.numbers.proofs.Prelude.{drop, ◌≡◌, ◌+◌}
use Rattle.writer.proofs.Stores.{Left}
use Rattle.index.proofs.words.put_all.Given as goal

abbrev pub invariant-loop-word : goal.invariant-loop-word
invariant-loop-word l = Left l.initial.words l.at l.more l.words l.next (drop l.word-index l.more) × (l.next ≡ l.at + l.word-index)
